-- Marks that rise: where every mark is below the next of its dimension, no region is empty, whatever the codes are. Assumes nothing.
use Rattle.std.specs.Prelude.{◌≡◌, Bool, true, ◌&&◌, List, ℤ, pos, get_or}
use Rattle.std.proofs.Math.Path.{refl}
use Rattle.std.proofs.Common.{◌∙◌, le_refl, arith}
use Prim.Native.Nat.{ℕ, zero, suc, ◌+◌, ◌≤◌, ◌<◌}
use Rattle.std.specs.Int.Signed.{lt_z}
use Rattle.limits.specs.Tests.{All, all_each}
use Rattle.layout.specs.Layout.{region_count, first_marks}
use Rattle.partition.specs.Marks.{dimension_marks}
use Rattle.codes.specs.Codes.{code_region}
use Rattle.codes.specs.PackLaws.{code_region_fits}
use Rattle.cells.specs.Cells.{has_value, none_empty, no_empty_codes}
use Rattle.cells.specs.CellLaws.{value_test}

-- whether each of i marks from a place on is below the next
unfoldable pub rises_from : List ℤ → ℕ → ℕ → Bool
rises_from marks start zero = true
rises_from marks start (suc i) =
    rises_from marks start i && lt_z (get_or marks (start + i) (pos 0)) (get_or marks (start + i + 1) (pos 0))

-- whether the marks of each of the first t dimensions rise
unfoldable pub rises_first : ℕ → ℕ → List ℤ → ℕ → Bool
rises_first d b marks zero = true
rises_first d b marks (suc t) = rises_first d b marks t && rises_from marks (first_marks d b t) (region_count d b (suc t))

pub rise_tests : (marks : List ℤ) (start : ℕ)
    → All (rises_from marks start) (λ i. lt_z (get_or marks (start + i) (pos 0)) (get_or marks (start + i + 1) (pos 0)))
unfolding rises_from
rise_tests marks start = record { next = λ i. refl }

pub first_tests : (d b : ℕ) (marks : List ℤ)
    → All (rises_first d b marks) (λ t. rises_from marks (first_marks d b t) (region_count d b (suc t)))
unfolding rises_first
first_tests d b marks = record { next = λ t. refl }

module _ (d b : ℕ) (marks : List ℤ) (codes : List ℕ) (rise : rises_first d b marks d ≡ true) where
  named_has_value : (i t : ℕ) → t < d → has_value (dimension_marks d b marks (suc t)) (code_region d b codes i t) ≡ true
  named_has_value i t below =
      value_test d b marks codes i t
      ∙ all_each (rise_tests marks (first_marks d b t)) (region_count d b (suc t)) (code_region d b codes i t) (code_region_fits d b codes i t)
      (all_each (first_tests d b marks) d t below rise)

  code_none_empty : (i t : ℕ) → t ≤ d → none_empty d b marks codes i t ≡ true
  unfolding none_empty
  code_none_empty i zero within = refl
  code_none_empty i (suc t) within = rw (code_none_empty i t (omega arith), named_has_value i t within)

  pub rising_no_empty : (n : ℕ) → no_empty_codes d b marks codes n ≡ true
  unfolding no_empty_codes
  rising_no_empty zero = refl
  rising_no_empty (suc n) = rw (rising_no_empty n, code_none_empty n d (le_refl d))
