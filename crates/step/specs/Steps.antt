-- One dimension: the step from a query to a value of a region lies between the shortest and the longest step, and in a region that is not
-- empty both are reached, wherever the query lies. Assumes nothing.
use Rattle.std.specs.Prelude.{◌≡◌, Bool, ltb, ℤ}
use Rattle.std.proofs.Math.Path.{refl, ap}
use Rattle.std.proofs.Common.{sym, ◌∙◌, arith}
use Rattle.std.proofs.Math.Bool.{true, false, not, cond}
use Prim.Native.Nat.{ℕ, ◌≤◌, zero-le, max}
use borrow.Author.Tests.{ltb-true, ltb-false}
use Rattle.std.proofs.Math.IntN.{pred_ℤ}
use Rattle.std.specs.Int.Signed.{le_z, lt_z}
use Rattle.limits.specs.Tests.{le_z_not}
use Rattle.step.specs.Step.{gap, shortest, longest}
use Rattle.region.specs.Within.{le_z_refl}
use Rattle.step.specs.Order.{lt_le, lt_pred}
use Rattle.step.specs.Places.{gap_between, gap_turned}

-- ---- the bounds of a step

-- v lies in the region from low up to, and without, high
pub record Inside (low v high : ℤ) : Type 0 where
  pub above : le_z low v ≡ true
  pub below : lt_z v high ≡ true

module _ {low v high : ℤ} (inside : Inside low v high) (q : ℤ) where
  to_last : le_z v (pred_ℤ high) ≡ true
  to_last = sym (lt_pred v high) ∙ inside.below

  pub shortest_le : shortest q low high ≤ gap q v
  unfolding shortest
  shortest_le = go (lt_z q low) (lt_z (pred_ℤ high) q) refl refl
    where
      go : (below above : Bool) → lt_z q low ≡ below → lt_z (pred_ℤ high) q ≡ above
          → cond below (gap low q) (cond above (gap q (pred_ℤ high)) 0) ≤ gap q v
      go true above b a = omega (arith, gap_between q low v (lt_le q low b) inside.above, gap_turned low q)
      go false true b a =
          omega
          (arith, gap_between v (pred_ℤ high) q to_last (lt_le (pred_ℤ high) q a), gap_turned q (pred_ℤ high), gap_turned q v)
      go false false b a = zero-le

  pub le_longest : gap q v ≤ longest q low high
  unfolding longest
  le_longest = go (lt_z v q) refl
    where
      go : (below : Bool) → lt_z v q ≡ below → gap q v ≤ max (gap q low) (gap q (pred_ℤ high))
      go true e = omega (arith, gap_between low v q inside.above (lt_le v q e), gap_turned q low, gap_turned q v)
      go false e = omega (arith, gap_between q v (pred_ℤ high) (le_z_not v q ∙ ap not e) to_last)

pub shortest_le_longest : (q low high : ℤ) → shortest q low high ≤ longest q low high
unfolding shortest longest
shortest_le_longest q low high = go (lt_z q low) (lt_z (pred_ℤ high) q)
  where
    go : (below above : Bool) → cond below (gap low q) (cond above (gap q (pred_ℤ high)) 0) ≤ max (gap q low) (gap q (pred_ℤ high))
    go true above = omega (arith, gap_turned low q)
    go false true = omega arith
    go false false = zero-le

-- ---- both are reached

-- a value of the region whose step from q is the given one
pub record Reached (step : ℤ → ℤ → ℤ → ℕ) (q low high : ℤ) : Type 0 where
  pub v : ℤ
  pub inside : Inside low v high
  pub is : gap q v ≡ step q low high

module _ (q low high : ℤ) (some : lt_z low high ≡ true) where
  -- the region's first value and its last
  first_inside : Inside low low high
  first_inside = record { above = le_z_refl low; below = some }

  last_inside : Inside low (pred_ℤ high) high
  last_inside =
      record { above = sym (lt_pred low high) ∙ some; below = lt_pred (pred_ℤ high) high ∙ le_z_refl (pred_ℤ high) }

  pub shortest_reached : Reached shortest q low high
  shortest_reached = go (lt_z q low) (lt_z (pred_ℤ high) q) refl refl
    where
      go : (below above : Bool) → lt_z q low ≡ below → lt_z (pred_ℤ high) q ≡ above → Reached shortest q low high
      go true above b a = record { v = low; inside = first_inside; is = unfold shortest in rw b (gap_turned q low) }
      go false true b a = record { v = pred_ℤ high; inside = last_inside; is = unfold shortest in rw (b, a) }
      go false false b a =
          record {
            v = q;
            inside = record { above = le_z_not q low ∙ ap not b; below = lt_pred q high ∙ le_z_not (pred_ℤ high) q ∙ ap not a };
            is = unfold shortest in rw (b, a) (omega (arith, gap_between q q q (le_z_refl q) (le_z_refl q)));
          }

  pub longest_reached : Reached longest q low high
  longest_reached = go (ltb (gap q low) (gap q (pred_ℤ high))) refl
    where
      go : (t : Bool) → ltb (gap q low) (gap q (pred_ℤ high)) ≡ t → Reached longest q low high
      go true e =
          record { v = pred_ℤ high; inside = last_inside; is = unfold longest in omega (arith, ltb-true (gap q low) (gap q (pred_ℤ high)) e) }
      go false e =
          record { v = low; inside = first_inside; is = unfold longest in omega (arith, ltb-false (gap q low) (gap q (pred_ℤ high)) e) }
