-- What was tested lets the part be taken.
use Rattle.std.proofs.Common.{sym, ◌∙◌, arith}
use Rattle.layout.specs.Stretch.{numbered}
use Rattle.partition.specs.Parts.{part_accepted}
use Rattle.partition.proofs.checked_part.Goals as goal

pub invariant_of-part : goal.invariant_of-part
invariant_of-part c =
    let a = c.args in
    let shaped = (numbered a.d a.b a.j (part_accepted a.d a.b a.j a.marks.now (sym c.check_part.ensures ∙ c.in-Ok.is)).0).shaped in
    record { some = shaped.some; few = shaped.few; within = shaped.bits }

pub part-requires-clause-dimension : goal.part-requires-clause-dimension
part-requires-clause-dimension c =
    let a = c.args in
    let number = numbered a.d a.b a.j (part_accepted a.d a.b a.j a.marks.now (sym c.check_part.ensures ∙ c.in-Ok.is)).0 in
    omega (arith, number.is, number.within)

pub part-requires-clause-length : goal.part-requires-clause-length
part-requires-clause-length c =
    let a = c.args in
    (part_accepted a.d a.b a.j a.marks.now (sym c.check_part.ensures ∙ c.in-Ok.is)).1
