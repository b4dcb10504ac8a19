-- The causes for which marks are not made, and what holds where they are made. Assumes nothing.
use Rattle.std.specs.Prelude.{◌≡◌, true, false, not, ◌&&◌, List, [], ◌∷◌, ℕ, ◌+◌, ◌*◌, ◌^◌, ◌≤◌, ◌<◌, eqb, ℤ, length, Ok}
use Rattle.std.proofs.Math.Bool.{and-eq-true_iff}
use Rattle.std.proofs.lemmas.Bool.{not-false}
use Rattle.std.proofs.Common.{eqb-true}
use Rattle.refusal.specs.declared.Refusal.TheVariants.{Dimension, Bits, Count, Length, Component}
use Rattle.refusal.specs.First.{Row, ◌⇒◌, first, passed}
use Rattle.limits.specs.Limits.{max_dimensions, max_dimension_bits, max_vectors, is_dimension_count, is_bits, is_vector_count}
use Rattle.limits.specs.Tests.{Between, between}
use Rattle.signed.specs.Components.{are_components}
use Rattle.layout.specs.Layout.{first_marks}
use Rattle.layout.specs.Stretch.{shape_causes}

-- in the order in which they are tested: 1, 2, 3, 5, 6; the marks buffer has room for `room` marks
abbrev pub make_causes : ℕ → ℕ → ℕ → List ℤ → ℕ → List Row
make_causes d b n vectors room =
    (not (is_dimension_count d) ⇒ Dimension)
    ∷ (not (is_bits d b) ⇒ Bits)
    ∷ (not (is_vector_count n) ⇒ Count)
    ∷ (not (eqb (length vectors) (n * d) && eqb room (first_marks d b d)) ⇒ Length)
    ∷ (not (are_components vectors) ⇒ Component)
    ∷ []

-- ---- what holds where nothing is refused

pub record Given (d b n : ℕ) (vectors : List ℤ) (room : ℕ) : Type 0 where
  pub shaped : first (shape_causes d b) ≡ Ok tt
  pub count : Between 1 n max_vectors
  pub full : length vectors ≡ n * d
  pub exact : room ≡ first_marks d b d
  pub components : are_components vectors ≡ true

pub shape_accepted : (d b : ℕ) → not (is_dimension_count d) ≡ false → not (is_bits d b) ≡ false → first (shape_causes d b) ≡ Ok tt
unfolding first
shape_accepted d b dimensions bits = rw (dimensions, bits)

pub given : (d b n : ℕ) (vectors : List ℤ) (room : ℕ) → first (make_causes d b n vectors room) ≡ Ok tt → Given d b n vectors room
given d b n vectors room accepted =
    let dimensions = passed (not (is_dimension_count d)) Dimension _ accepted in
    let bits = passed (not (is_bits d b)) Bits _ dimensions.rest in
    let vector_count = passed (not (is_vector_count n)) Count _ bits.rest in
    let lengths = passed (not (eqb (length vectors) (n * d) && eqb room (first_marks d b d))) Length _ vector_count.rest in
    let range = passed (not (are_components vectors)) Component [] lengths.rest in
    let both =
    (and-eq-true_iff (eqb (length vectors) (n * d)) (eqb room (first_marks d b d))).0
    (not-false (eqb (length vectors) (n * d) && eqb room (first_marks d b d)) lengths.fails) in
    record {
      shaped = shape_accepted d b dimensions.fails bits.fails;
      count = between 1 n max_vectors (not-false (is_vector_count n) vector_count.fails);
      full = eqb-true (length vectors) (n * d) both.0;
      exact = eqb-true room (first_marks d b d) both.1;
      components = not-false (are_components vectors) range.fails;
    }

-- ---- what the functions that make one dimension's marks are given

-- a column of n components, with t dimensions before it
pub record ColumnOf (d n t : ℕ) : Type 0 where
  pub few : d ≤ max_dimensions
  pub among : t < d
  pub count : n ≤ max_vectors

-- n components shared out among the regions of w bits
pub record Shares (n w : ℕ) : Type 0 where
  pub some : 1 ≤ n
  pub few : n ≤ max_vectors
  pub bits : w ≤ max_dimension_bits

-- a column and its marks, of w bits
pub record MarksOf (d n t w : ℕ) (vectors : List ℤ) (room : ℕ) : Type 0 where
  pub of_column : ColumnOf d n t
  pub shares : Shares n w
  pub fits : 2 ^ w + 1 ≤ room
  pub components : are_components vectors ≡ true
