-- Marks in range leave only components between them: the vectors of a cell are vectors of components. Assumes nothing.
use Rattle.std.specs.Prelude.{◌≡◌, ℕ, zero, suc, ◌<◌, true, List, length, ℤ, pos, negsuc, int_le, slice_index_or, refl}
use Rattle.std.proofs.Common.{sym, ◌∙◌, arith}
use Rattle.std.proofs.Math.Bool.{and-eq-true_iff}
use Rattle.std.proofs.Math.Dec.{leb-suc-suc}
use Rattle.std.proofs.Math.IntN.{pred_ℤ}
use Rattle.limits.specs.Limits.{is_component, is_mark, greatest_component, least_mark, greatest_mark}
use Rattle.signed.specs.Components.{are_components, all_components}
use Rattle.region.specs.Regions.{mark_in_range}
use Rattle.partition.specs.Marks.{dimension_marks, good_marks, good_marks_each}
use Rattle.codes.specs.Codes.{code_region}
use Rattle.cells.specs.Cells.{InCell}
use Rattle.cells.specs.CellLaws.{cell_region}
use Rattle.region.specs.Within.{le_z_trans}
use Rattle.step.specs.Order.{lt_pred}
use Rattle.step.specs.Steps.{Inside}
use Rattle.distance.specs.CellBounds.{in_region_lem}

-- the value before a mark is at most the greatest component
last_component : (high : ℤ) → int_le high greatest_mark ≡ true → int_le (pred_ℤ high) greatest_component ≡ true
last_component (pos zero) h = refl
last_component (pos (suc n)) h = sym (leb-suc-suc n 32767) ∙ h
last_component (negsuc n) h = refl

pub inside_component : {low v high : ℤ} → is_mark low ≡ true → is_mark high ≡ true → Inside low v high → is_component v ≡ true
inside_component {low} {v} {high} lows highs inside =
    let least = ((and-eq-true_iff (int_le least_mark low) (int_le low greatest_mark)).0 lows).0 in
    let greatest = ((and-eq-true_iff (int_le least_mark high) (int_le high greatest_mark)).0 highs).1 in
    (and-eq-true_iff _ _).1 (
      le_z_trans least_mark low v least inside.above,
      le_z_trans v (pred_ℤ high) greatest_component (sym (lt_pred v high) ∙ inside.below) (last_component high greatest),
    )

module _ (d b : ℕ) (marks : List ℤ) (good : good_marks d b marks ≡ true) where
  pub good_mark : (t r : ℕ) → t < d → is_mark (slice_index_or (dimension_marks d b marks (suc t)) r (pos 0)) ≡ true
  good_mark t r h = mark_in_range (dimension_marks d b marks (suc t)) r (good_marks_each d b marks t h good)

  pub cell_components : (codes : List ℕ) (i : ℕ) {vector : List ℤ} → InCell d b marks codes i vector → are_components vector ≡ true
  cell_components codes i {vector} cell = all_components vector one
    where
      one : (t : ℕ) → t < length vector → is_component (slice_index_or vector t (pos 0)) ≡ true
      one t h =
          let h : t < d = omega (arith, cell.components) in
          let r = code_region d b codes i t in
          inside_component (good_mark t r h) (good_mark t (suc r) h)
          (in_region_lem (dimension_marks d b marks (suc t)) r (slice_index_or vector t (pos 0)) (cell_region cell t h))
