-- L and U are the least and the greatest distance of a code's cell: no vector of the cell is nearer or farther, and where the code names no
-- empty region both are reached inside the cell, for every query. Assumes nothing.
use Rattle.std.specs.Prelude.{◌≡◌, ℕ, zero, suc, ◌≤◌, true, List, [], ◌∷◌, ◌++◌, length, get_or, ℤ, pos, int_lt, slice_index_or}
use Rattle.std.proofs.Math.Path.{refl}
use Rattle.std.proofs.Math.Bool.{and-eq-true_iff}
use Rattle.std.proofs.Math.Nat.{le_refl}
use Rattle.std.proofs.Common.{arith}
use Rattle.std.proofs.Math.ListN.{length-append, get_or-append}
use Rattle.std.proofs.Math.Seq.{get_or_at}
use Rattle.region.specs.Region.{in_region}
use Rattle.partition.specs.Marks.{dimension_marks}
use Rattle.codes.specs.Codes.{code_region}
use Rattle.cells.specs.Cells.{InCell, in_first, has_value, none_empty}
use Rattle.step.specs.Step.{shortest, longest, weighed_le}
use Rattle.step.specs.Steps.{Inside, shortest_le, le_longest, Reached, shortest_reached, longest_reached}
use Rattle.distance.specs.Distance.{first_weighed, weighed_distance}
use Rattle.distance.specs.Bounds.{first_weighed_bound, weighed_bound, weighed_lower, weighed_upper}

-- a value of a region lies between the region's marks, and the other way round
pub in_region_lem : (marks : List ℤ) (r : ℕ) (v : ℤ) → in_region marks r v ≡ true → Inside (slice_index_or marks r (pos 0)) v (slice_index_or marks (suc r) (pos 0))
unfolding in_region
in_region_lem marks r v h =
    let both = (and-eq-true_iff _ _).0 h in
    record { above = both.0; below = both.1 }

region_in_lem : (marks : List ℤ) (r : ℕ) (v : ℤ) → Inside (slice_index_or marks r (pos 0)) v (slice_index_or marks (suc r) (pos 0)) → in_region marks r v ≡ true
unfolding in_region
region_in_lem marks r v inside = (and-eq-true_iff _ _).1 (inside.above, inside.below)

module _ (d b : ℕ) (marks : List ℤ) (codes factors : List ℕ) (query : List ℤ) (i : ℕ) where
  -- over the first t dimensions
  first_bounds : (vector : List ℤ) (t : ℕ) → in_first d b marks codes i vector t ≡ true
      → (first_weighed_bound shortest d b marks codes factors query i t ≤ first_weighed factors query vector t)
      × (first_weighed factors query vector t ≤ first_weighed_bound longest d b marks codes factors query i t)
  unfolding in_first first_weighed_bound first_weighed
  first_bounds vector zero h = (le_refl 0, le_refl 0)
  first_bounds vector (suc t) h =
      let both = (and-eq-true_iff _ _).0 h in
      let before = first_bounds vector t both.0 in
      let inside = in_region_lem (dimension_marks d b marks (suc t)) (code_region d b codes i t) (slice_index_or vector t (pos 0)) both.1 in
      let q = get_or query t (pos 0) in
      let f = get_or factors t 0 in
      (omega (arith, before.0, weighed_le f (shortest_le inside q)), omega (arith, before.1, weighed_le f (le_longest inside q)))

  pub lower_le : {vector : List ℤ} → InCell d b marks codes i vector
      → weighed_lower d b marks codes factors query i ≤ weighed_distance d factors query vector
  lower_le {vector} cell = (first_bounds vector d cell.inside).0

  pub le_upper : {vector : List ℤ} → InCell d b marks codes i vector
      → weighed_distance d factors query vector ≤ weighed_upper d b marks codes factors query i
  le_upper {vector} cell = (first_bounds vector d cell.inside).1

-- ---- both are reached

-- what lies behind the first t components is not looked at
module _ (xs ys : List ℤ) where
  front_inside : (d b : ℕ) (marks : List ℤ) (codes : List ℕ) (i t : ℕ) → t ≤ length xs
      → in_first d b marks codes i (xs ++ ys) t ≡ in_first d b marks codes i xs t
  unfolding in_first
  front_inside d b marks codes i zero h = refl
  front_inside d b marks codes i (suc t) h =
      rw (front_inside d b marks codes i t (omega arith), get_or-append xs ys (pos 0) t h)

  front_distance : (factors : List ℕ) (query : List ℤ) (t : ℕ) → t ≤ length xs
      → first_weighed factors query (xs ++ ys) t ≡ first_weighed factors query xs t
  unfolding first_weighed
  front_distance factors query zero h = refl
  front_distance factors query (suc t) h = rw (front_distance factors query t (omega arith), get_or-append xs ys (pos 0) t h)

-- a vector of code i's cell whose distance is the bound of the given steps
pub record CellReached (step : ℤ → ℤ → ℤ → ℕ) (d b : ℕ) (marks : List ℤ) (codes factors : List ℕ) (query : List ℤ) (i : ℕ) : Type 0 where
  pub vector : List ℤ
  pub cell : InCell d b marks codes i vector
  pub is : weighed_distance d factors query vector ≡ weighed_bound step d b marks codes factors query i

-- the same of the first t dimensions
record FirstReached (step : ℤ → ℤ → ℤ → ℕ) (d b : ℕ) (marks : List ℤ) (codes factors : List ℕ) (query : List ℤ) (i t : ℕ) : Type 0 where
  vector : List ℤ
  components : length vector ≡ t
  inside : in_first d b marks codes i vector t ≡ true
  is : first_weighed factors query vector t ≡ first_weighed_bound step d b marks codes factors query i t

module _ (d b : ℕ) (marks : List ℤ) (codes factors : List ℕ) (query : List ℤ) (i : ℕ) where
  module _ (step : ℤ → ℤ → ℤ → ℕ) (reach : (q low high : ℤ) → int_lt low high ≡ true → Reached step q low high) where
    first_reached : (t : ℕ) → none_empty d b marks codes i t ≡ true → FirstReached step d b marks codes factors query i t
    unfolding none_empty has_value in_first first_weighed first_weighed_bound
    first_reached zero none = record { vector = []; components = refl; inside = refl; is = refl }
    first_reached (suc t) none =
        let both = (and-eq-true_iff _ _).0 none in
        let before = first_reached t both.0 in
        let r = code_region d b codes i t in
        let ms = dimension_marks d b marks (suc t) in
        let here = reach (slice_index_or query t (pos 0)) (slice_index_or ms r (pos 0)) (slice_index_or ms (suc r) (pos 0)) both.1 in
        let at = get_or_at before.vector here.v [] (pos 0) t before.components in
        let within : t ≤ length before.vector = omega (arith, before.components) in
        record {
          vector = before.vector ++ (here.v ∷ []);
          components = simp length-append (omega (arith, before.components));
          inside =
              rw (front_inside before.vector (here.v ∷ []) d b marks codes i t within, before.inside, at)
              (region_in_lem ms r here.v here.inside);
          is = rw (front_distance before.vector (here.v ∷ []) factors query t within, before.is, at, here.is);
        }

    cell_reached : none_empty d b marks codes i d ≡ true → CellReached step d b marks codes factors query i
    cell_reached none =
        let all = first_reached d none in
        record { vector = all.vector; cell = record { components = all.components; inside = all.inside }; is = all.is }

  pub lower_reached : none_empty d b marks codes i d ≡ true → CellReached shortest d b marks codes factors query i
  lower_reached none = cell_reached shortest shortest_reached none

  pub upper_reached : none_empty d b marks codes i d ≡ true → CellReached longest d b marks codes factors query i
  upper_reached none = cell_reached longest longest_reached none
