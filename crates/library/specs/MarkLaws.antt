-- The marks of a buffer by their numbers: those of a dimension stand behind those of the dimensions before it. Assumes nothing.
use Rattle.std.specs.Prelude.{◌≡◌, refl, true, false, not, ◌&&◌, List, ℕ, zero, suc, ◌+◌, ◌-◌, ◌^◌, ◌≤◌, ◌<◌, ℤ, pos, length, get_or}
use Rattle.std.proofs.Common.{ap, ◌∙◌, add-zero, arith}
use Rattle.std.proofs.Math.Decide.{dec_lt}
use Rattle.std.specs.Int.Signed.{le_z, lt_z}
use Rattle.limits.specs.Limits.{is_mark}
use Rattle.limits.specs.Tests.{lt_z_not}
use Rattle.layout.specs.Layout.{bits_of, mark_count, first_marks}
use Rattle.region.specs.Dimension.{good_dimension}
use Rattle.region.specs.Region.{in_marks}
use Rattle.region.specs.Regions.{mark_in_range, marks_rise, last_mark_lem}
use Rattle.partition.specs.Marks.{dimension_marks, good_first, good_marks, good_marks_each}
use Rattle.partition.specs.Parts.{part_at, part_length}
use Rattle.library.specs.Each.{every}

-- mark p is number i of dimension t + 1, both from 0
pub record Numbered (d b n p : ℕ) : Type 0 where
  pub t : ℕ
  pub i : ℕ
  pub among : t < n
  pub within : i < mark_count d b (suc t)
  pub is : p ≡ first_marks d b t + i

pub numbered : (d b n p : ℕ) → p < first_marks d b n → Numbered d b n p
unfolding first_marks
numbered d b zero p h = absurd (omega arith)
numbered d b (suc n) p h = go (dec_lt p (first_marks d b n)) (numbered d b n p)
  where
    go : Dec (p < first_marks d b n) → (p < first_marks d b n → Numbered d b n p) → Numbered d b (suc n) p
    go (yes less) before =
        let of = before less in
        record { t = of.t; i = of.i; among = omega (arith, of.among); within = of.within; is = of.is }
    go (no more) before =
        let past : first_marks d b n ≤ p = omega arith in
        record { t = n; i = p - first_marks d b n; among = omega arith; within = omega arith; is = omega arith }

pub good_each : (d b : ℕ) (marks : List ℤ) (n : ℕ) → good_first d b marks n ≡ every n (λ t. good_dimension (dimension_marks d b marks (suc t)))
unfolding good_first every
good_each d b marks zero = refl
good_each d b marks (suc n) = rw (good_each d b marks n)

module _ (d b : ℕ) (marks : List ℤ) (whole : length marks ≡ first_marks d b d) (t : ℕ) (among : t < d) where
  size : length (dimension_marks d b marks (suc t)) ≡ mark_count d b (suc t)
  size = part_length d b marks whole t among

  -- a value lies inside a dimension's marks where it is at least the first and below the last
  pub in_marks_at : (v : ℤ)
      → in_marks (dimension_marks d b marks (suc t)) v
      ≡ le_z (get_or marks (first_marks d b t) (pos 0)) v && lt_z v (get_or marks (first_marks d b t + 2 ^ bits_of d b (suc t)) (pos 0))
  unfolding in_marks
  in_marks_at v =
      let regions = 2 ^ bits_of d b (suc t) in
      let last = last_mark_lem (dimension_marks d b marks (suc t)) regions (omega (arith, size)) in
      rw (last, part_at d b marks t 0 (pos 0) (omega arith), part_at d b marks t regions (pos 0) (omega arith), add-zero)

  -- ---- where the marks are good

  module _ (good : good_marks d b marks ≡ true) where
    good_part : good_dimension (dimension_marks d b marks (suc t)) ≡ true
    good_part = good_marks_each d b marks t among good

    pub good_range : (i : ℕ) → i < mark_count d b (suc t) → is_mark (get_or marks (first_marks d b t + i) (pos 0)) ≡ true
    good_range i h =
        rw (part_at d b marks t i (pos 0) h) at (mark_in_range (dimension_marks d b marks (suc t)) i good_part)

    pub good_rise : (i : ℕ) → suc i < mark_count d b (suc t)
        → lt_z (get_or marks (first_marks d b t + suc i) (pos 0)) (get_or marks (first_marks d b t + i) (pos 0)) ≡ false
    good_rise i h =
        let rises = marks_rise (dimension_marks d b marks (suc t)) good_part i (suc i) (omega arith) (omega (arith, size)) in
        rw (part_at d b marks t i (pos 0) (omega arith), part_at d b marks t (suc i) (pos 0) h) at
        (lt_z_not (get_or (dimension_marks d b marks (suc t)) (suc i) (pos 0)) (get_or (dimension_marks d b marks (suc t)) i (pos 0))
        ∙ ap not rises)
