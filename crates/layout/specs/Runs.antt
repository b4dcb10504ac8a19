-- Runs of dimensions that have as many bits: first those with one bit more, then the others. Assumes nothing.
use Rattle.std.specs.Prelude.{◌≡◌}
use Rattle.std.proofs.Common.{sym, ◌∙◌, add-zero, add-suc, le_refl}
use Prim.Native.Nat.{ℕ, zero, suc, ◌+◌, ◌-◌, ◌*◌, ◌/◌, ◌%◌, ◌^◌, ◌≤◌, ◌<◌}
use Rattle.std.proofs.Math.Nat.{zero-mul, suc-mul, zero-add}
use native.Mathlib.Omega.{arith}
use borrow.Author.Tests.{le-leb, lt-leb}
use Rattle.layout.specs.Layout.{bits_of, first_bits, first_marks}
use Rattle.layout.specs.Laws.{all_bits}

-- n dimensions of w bits behind `before` others
pub record Run (d b before n w : ℕ) : Type 0 where
  pub same : (t : ℕ) → t < n → bits_of d b (suc (before + t)) ≡ w
  pub few : w ≤ 8

module _ {d b before n w : ℕ} (run : Run d b before n w) where
  pub run_bits : (t : ℕ) → t ≤ n → first_bits d b (before + t) ≡ first_bits d b before + t * w
  unfolding first_bits
  run_bits zero h = rw (add-zero before, zero-mul w) (sym (add-zero (first_bits d b before)))
  run_bits (suc t) h = rw (add-suc before t, run.same t h, run_bits t (omega arith), suc-mul t w) (omega arith)

  pub run_marks : (t : ℕ) → t ≤ n → first_marks d b (before + t) ≡ first_marks d b before + t * (2 ^ w + 1)
  unfolding first_marks
  run_marks zero h = rw (add-zero before, zero-mul (2 ^ w + 1)) (sym (add-zero (first_marks d b before)))
  run_marks (suc t) h = rw (add-suc before t, run.same t h, run_marks t (omega arith), suc-mul t (2 ^ w + 1)) (omega arith)

-- the dimensions with one bit more, and those behind them
module _ (d b : ℕ) (small : b / d ≤ 6) where
  pub wide : Run d b 0 (b % d) (b / d + 1)
  unfolding bits_of
  wide = record { same = λ t h. rw (zero-add t, le-leb (suc t) (b % d) h); few = omega arith }

  pub narrow : Run d b (b % d) (d - b % d) (b / d)
  unfolding bits_of
  narrow = record { same = λ t h. rw (lt-leb (suc (b % d + t)) (b % d) (omega arith)) (add-zero (b / d)); few = omega arith }

  -- where the second run begins
  pub wide_bits : first_bits d b (b % d) ≡ b % d * (b / d + 1)
  unfolding first_bits
  wide_bits = rw (zero-add (b % d)) at (run_bits wide (b % d) (le_refl (b % d))) ∙ zero-add (b % d * (b / d + 1))

  pub wide_marks : first_marks d b (b % d) ≡ b % d * (2 ^ (b / d + 1) + 1)
  unfolding first_marks
  wide_marks = rw (zero-add (b % d)) at (run_marks wide (b % d) (le_refl (b % d))) ∙ zero-add (b % d * (2 ^ (b / d + 1) + 1))

  -- and that both are all
  module _ (within : b % d ≤ d) where
    all_dimensions : b % d + (d - b % d) ≡ d
    all_dimensions = omega arith

    pub two_bits : 0 < d → b % d * (b / d + 1) + (d - b % d) * (b / d) ≡ b
    two_bits some =
        rw (← wide_bits) (sym (rw all_dimensions at (run_bits narrow (d - b % d) (le_refl (d - b % d)))) ∙ all_bits d b some)

    pub two_marks : b % d * (2 ^ (b / d + 1) + 1) + (d - b % d) * (2 ^ (b / d) + 1) ≡ first_marks d b d
    two_marks = rw (← wide_marks) (sym (rw all_dimensions at (run_marks narrow (d - b % d) (le_refl (d - b % d)))))
