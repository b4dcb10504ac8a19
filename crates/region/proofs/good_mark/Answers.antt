-- The last mark is above none, and any other is compared with the next. Assumes nothing.
use Rattle.std.proofs.Common.{◌≡◌, true, sym, ap, ◌∙◌, List, ℕ, suc, ◌+◌, ◌<◌, ℤ, pos, length, drop, get_or, arith, rules, add-one, drop-cons, w32, to_z, of_z}
use Rattle.std.proofs.Math.ListN.{drop_of_length-le}
use Rattle.std.specs.Int.Signed.{le_z}
use Rattle.limits.specs.Limits.{is_mark}
use Rattle.region.specs.Dimension.{not_above}
use Rattle.region.proofs.good_mark.Goals as goal

module _ (m : ℤ) (marks : List ℤ) (i : ℕ) where
  last_above_none : i + 1 ≡ length marks → not_above m (drop (suc i) marks) ≡ true
  unfolding not_above
  last_above_none last = rw (drop_of_length-le marks {i = suc i} (omega arith))

  not_above_next : i + 1 < length marks → not_above m (drop (suc i) marks) ≡ le_z m (get_or marks (i + 1) (pos 0))
  unfolding not_above
  not_above_next more =
      let exists : suc i < length marks = omega arith in
      rw (drop-cons marks (suc i) (pos 0), add-one)

pub returns-then-next-marks : goal.returns-then-next-marks
returns-then-next-marks c =
    let marks = c.args.marks.now in
    let m = get_or marks c.args.i (pos 0) in
    let back : to_z w32 (of_z w32 m) ≡ m = search rules in
    rw (sym (c.if-not-is_mark.ensures ∙ ap is_mark back), last_above_none m marks c.args.i c.if-next-marks.true)

pub returns : goal.returns
returns c =
    let marks = c.args.marks.now in
    let m = get_or marks c.args.i (pos 0) in
    let back : to_z w32 (of_z w32 m) ≡ m = search rules in
    rw (sym (c.if-not-is_mark.ensures ∙ ap is_mark back), not_above_next m marks c.args.i (omega arith)) (search rules)
