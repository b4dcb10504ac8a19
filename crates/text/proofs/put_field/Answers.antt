-- `put_field` meets its contract: the byte stands behind the digits. Assumes nothing.
use Rattle.std.proofs.Common.{arith}
use Rattle.text.specs.Puts.{puts_more, decimal_room}
use Rattle.text.proofs.put_field.Goals as goal

pub returns : goal.returns
returns c =
    (puts_more c.put_number-next.ensures c.put_byte.ensures, omega (arith, decimal_room c.args.x c.ranges.x.fits))
