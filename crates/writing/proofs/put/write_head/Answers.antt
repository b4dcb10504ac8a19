-- `write_head` meets its contract: the values of the record, one behind the other. Assumes nothing.
use Rattle.library.specs.Sizes.{mark_place_lem}
use Rattle.writing.specs.WriteLaws.{head_parts}
use Rattle.writing.proofs.put.write_head.Goals as goal

pub returns : goal.returns
returns c =
    rw (mark_place_lem 0, c.put_pair.ensures, c.put_byte-3.ensures, c.put_byte-2.ensures, c.put_byte.ensures)
    (head_parts c.args.d c.args.b c.args.n)
