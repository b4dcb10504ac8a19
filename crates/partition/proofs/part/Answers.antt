-- The stretch lies in the buffer.
use Rattle.std.proofs.Common.{◌∙◌}
use Rattle.partition.specs.Parts.{placed_marks}
use Rattle.partition.proofs.part.Goals as goal

pub returns : goal.returns
returns c =
    let l = c.args.layout in
    c.part_at.ensures
    ∙ placed_marks l.d l.b c.args.j c.args.marks.now l.some l.within c.requires.dimension.0 c.requires.dimension.1 c.requires.length
    c.stretch-stretch.ensures.offset c.stretch-stretch.ensures.bits
