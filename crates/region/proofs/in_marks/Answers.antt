-- No value lies inside no marks, and otherwise the marks' ends decide. Assumes nothing.
use Rattle.std.proofs.Common.{◌≡◌, refl, Bool, true, false, List, ◌-◌, arith, rules, ℤ, pos, length, get_or, w32, to_z, of_z}
use Rattle.region.specs.Region.{in_marks}
use Rattle.region.specs.Regions.{last_mark_lem, region_of_holds}
use Rattle.region.proofs.in_marks.Goals as goal

none_inside : (marks : List ℤ) (v : ℤ) → length marks ≡ 0 → (t : Bool) → in_marks marks v ≡ t → false ≡ t
none_inside marks v none true e = absurd (omega (arith, (region_of_holds marks v e).exists))
none_inside marks v none false e = refl

pub returns-then-count-eq0 : goal.returns-then-count-eq0
returns-then-count-eq0 c = none_inside c.args.marks.now c.args.v c.if-count-eq0.true _ refl

pub returns-then-marks-v : goal.returns-then-marks-v
unfolding in_marks
returns-then-marks-v c =
    let marks = c.args.marks.now in
    let value : to_z w32 (of_z w32 c.args.v) ≡ c.args.v = search rules in
    let first : to_z w32 (of_z w32 (get_or marks 0 (pos 0))) ≡ get_or marks 0 (pos 0) = search rules in
    let last : to_z w32 (of_z w32 (get_or marks (length marks - 1) (pos 0))) ≡ get_or marks (length marks - 1) (pos 0) = search rules in
    let test = rw (first, value) at c.if-marks-v.true in
    rw (value, last, test, last_mark_lem marks (length marks - 1) (omega arith))

pub returns-else-marks-v : goal.returns-else-marks-v
unfolding in_marks
returns-else-marks-v c =
    let marks = c.args.marks.now in
    let value : to_z w32 (of_z w32 c.args.v) ≡ c.args.v = search rules in
    let first : to_z w32 (of_z w32 (get_or marks 0 (pos 0))) ≡ get_or marks 0 (pos 0) = search rules in
    let test = rw (first, value) at c.if-marks-v.false in
    rw (first, value, test)
