-- A code's cell, region by region and by the marks buffer's own places. Assumes nothing.
use Rattle.std.specs.Prelude.{◌≡◌, Bool, true, ◌&&◌, List, ℤ, pos, length, drop, get_or, Ok}
use Rattle.std.proofs.Math.Path.{refl, ap₂}
use Rattle.std.proofs.Common.{ap, ◌∙◌, arith, length-drop, length-take-le, get_or-take, get_or-drop}
use Prim.Native.Nat.{ℕ, zero, suc, ◌+◌, ◌*◌, ◌≤◌, ◌<◌}
use Rattle.std.proofs.Math.Nat.{zero-add}
use Rattle.std.specs.Int.Signed.{le_z, lt_z}
use Rattle.refusal.specs.First.{first}
use Rattle.limits.specs.Limits.{max_vectors}
use Rattle.limits.specs.Tests.{All, all_each}
use Rattle.layout.specs.Layout.{first_marks, code_length}
use Rattle.layout.specs.Stretch.{shape_causes}
use Rattle.region.specs.Region.{in_region}
use Rattle.partition.specs.Marks.{dimension_marks}
use Rattle.partition.specs.Parts.{part_at}
use Rattle.codes.specs.Codes.{code_region}
use Rattle.codes.specs.PackLaws.{code_region_fits}
use Rattle.cells.specs.Cells.{vector_at, in_first, InCell, has_value, none_empty}
use Rattle.cells.specs.Places.{mark_place, mark_places, place_at}

-- a vector that is there has d components
pub vector_size : (d : ℕ) (vectors : List ℤ) (i : ℕ) → i * d + d ≤ length vectors → length (vector_at d vectors i) ≡ d
vector_size d vectors i within = length-take-le d (drop (i * d) vectors) (rw length-drop (omega arith))

pub vector_component : (d : ℕ) (vectors : List ℤ) (i t : ℕ) → t < d
    → get_or (vector_at d vectors i) t (pos 0) ≡ get_or vectors (i * d + t) (pos 0)
vector_component d vectors i t among = get_or-take d (drop (i * d) vectors) t (pos 0) among ∙ get_or-drop (i * d) vectors t (pos 0)

-- each component of a vector of the cell lies in its region
inside_all : (d b : ℕ) (marks : List ℤ) (codes : List ℕ) (i : ℕ) (vector : List ℤ)
    → All (in_first d b marks codes i vector)
    (λ t. in_region (dimension_marks d b marks (suc t)) (code_region d b codes i t) (get_or vector t (pos 0)))
unfolding in_first
inside_all d b marks codes i vector = record { next = λ t. refl }

pub cell_region : {d b : ℕ} {marks : List ℤ} {codes : List ℕ} {i : ℕ} {vector : List ℤ} → InCell d b marks codes i vector
    → (t : ℕ) → t < d → in_region (dimension_marks d b marks (suc t)) (code_region d b codes i t) (get_or vector t (pos 0)) ≡ true
cell_region {d} {b} {marks} {codes} {i} {vector} cell t among =
    all_each (inside_all d b marks codes i vector) d t among cell.inside

-- what is known where only the codes are left to test
pub record Named (d b n : ℕ) (codes : List ℕ) : Type 0 where
  pub shaped : first (shape_causes d b) ≡ Ok tt
  pub few : n ≤ max_vectors
  pub bytes : length codes ≡ code_length b n

-- whether a number lies between the mark at a place, which may be equal, and the next
unfoldable pub between : List ℤ → ℕ → ℤ → Bool
between marks at v = le_z (get_or marks at (pos 0)) v && lt_z v (get_or marks (at + 1) (pos 0))

module _ (d b : ℕ) (marks : List ℤ) (codes : List ℕ) (i t : ℕ) where
  lower_at : get_or (dimension_marks d b marks (suc t)) (code_region d b codes i t) (pos 0) ≡ get_or marks (mark_place d b codes i t) (pos 0)
  lower_at = part_at d b marks t (code_region d b codes i t) (pos 0) (omega (arith, code_region_fits d b codes i t))

  upper_at : get_or (dimension_marks d b marks (suc t)) (suc (code_region d b codes i t)) (pos 0)
      ≡ get_or marks (mark_place d b codes i t + 1) (pos 0)
  upper_at =
      let next : first_marks d b t + suc (code_region d b codes i t) ≡ mark_place d b codes i t + 1 = omega arith in
      part_at d b marks t (suc (code_region d b codes i t)) (pos 0) (omega (arith, code_region_fits d b codes i t))
      ∙ ap (λ (n : ℕ). get_or marks n (pos 0)) next

  -- a value of the region, and whether there is one
  pub region_test : (v : ℤ) → in_region (dimension_marks d b marks (suc t)) (code_region d b codes i t) v
      ≡ between marks (mark_place d b codes i t) v
  unfolding in_region between
  region_test v = ap₂ (λ (low high : ℤ). le_z low v && lt_z v high) lower_at upper_at

  pub value_test : has_value (dimension_marks d b marks (suc t)) (code_region d b codes i t)
      ≡ lt_z (get_or marks (mark_place d b codes i t) (pos 0)) (get_or marks (mark_place d b codes i t + 1) (pos 0))
  unfolding has_value
  value_test = ap₂ lt_z lower_at upper_at

-- ---- the test at places

-- whether the mark at each of the first t places is below the next
unfoldable pub rise_at : List ℤ → List ℕ → ℕ → Bool
rise_at marks places zero = true
rise_at marks places (suc t) = rise_at marks places t && lt_z (get_or marks (get_or places t 0) (pos 0)) (get_or marks (get_or places t 0 + 1) (pos 0))

-- at a code's places they are the tests of its regions
module _ (d b : ℕ) (marks : List ℤ) (codes : List ℕ) (i : ℕ) where
  pub rise_none : (t : ℕ) → t ≤ d → rise_at marks (mark_places d b codes i) t ≡ none_empty d b marks codes i t
  unfolding rise_at none_empty
  rise_none zero within = refl
  rise_none (suc t) within = rw (rise_none t (omega arith), place_at d b codes i 0 d t within, zero-add t, value_test d b marks codes i t)
