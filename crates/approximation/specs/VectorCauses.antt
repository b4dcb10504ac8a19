-- The causes for which the regions and the codes of vectors are not given (document 01, "When a call says no"), and what holds where they
-- are. Assumes nothing.
use Rattle.std.specs.Prelude.{◌≡◌, true, not, ◌&&◌, List, [], ◌∷◌, ◌++◌, ℕ, ◌*◌, eqb, ℤ, length, Ok}
use Rattle.std.proofs.Math.Bool.{and-eq-true_iff}
use Rattle.std.proofs.Common.{eqb-true}
use Rattle.std.proofs.lemmas.Bool.{not-false}
use Rattle.refusal.specs.declared.Refusal.TheVariants.{Count, Length, Component, Mark, Outside}
use Rattle.refusal.specs.First.{Row, ◌⇒◌, first, passed, accepted_behind}
use Rattle.limits.specs.Limits.{is_vector_count}
use Rattle.signed.specs.Components.{are_components}
use Rattle.layout.specs.Layout.{first_marks}
use Rattle.layout.specs.Stretch.{shape_causes, Shape, shape}
use Rattle.partition.specs.Marks.{good_marks}
use Rattle.codes.specs.Pack.{size_causes}
use Rattle.approximation.specs.Vectors.{vectors_inside}

-- Numbers and lengths are refused for 1, 2 or 3, and for 5 if they are not n rows of d components and n rows of d region numbers.
abbrev pub row_causes : ℕ → ℕ → ℕ → ℕ → ℕ → List Row
row_causes d b n vectors regions =
    shape_causes d b ++ ((not (is_vector_count n) ⇒ Count) ∷ (not (eqb vectors (n * d) && eqb regions (n * d)) ⇒ Length) ∷ [])

-- What is located is refused for 5 of the marks, 6, 7 or 8.
abbrev pub locate_causes : ℕ → ℕ → List ℤ → List ℤ → List Row
locate_causes d b vectors marks =
    (not (eqb (length marks) (first_marks d b d)) ⇒ Length)
    ∷ (not (are_components vectors) ⇒ Component)
    ∷ (not (good_marks d b marks) ⇒ Mark)
    ∷ (not (vectors_inside d b marks vectors) ⇒ Outside)
    ∷ []

-- Vectors, however many, are refused for these causes.
abbrev pub inside_causes : ℕ → ℕ → List ℤ → List ℤ → List Row
inside_causes d b vectors marks = shape_causes d b ++ locate_causes d b vectors marks

-- The region numbers are refused for these causes, in a buffer of so many numbers.
abbrev pub regions_causes : ℕ → ℕ → ℕ → List ℤ → List ℤ → ℕ → List Row
regions_causes d b n vectors marks regions = row_causes d b n (length vectors) regions ++ locate_causes d b vectors marks

-- The codes are refused for these causes, in a buffer of so many bytes.
abbrev pub pack_vectors_causes : ℕ → ℕ → ℕ → List ℤ → List ℤ → ℕ → List Row
pack_vectors_causes d b n vectors marks codes = size_causes d b n (length vectors) codes ++ locate_causes d b vectors marks

-- ---- What holds where nothing is refused

pub record Rows (d b n vectors regions : ℕ) : Type 0 where
  pub components : vectors ≡ n * d
  pub numbers : regions ≡ n * d

pub rows : (d b n vectors regions : ℕ) → first (row_causes d b n vectors regions) ≡ Ok tt → Rows d b n vectors regions
rows d b n vectors regions accepted =
    let components = eqb vectors (n * d) in
    let numbers = eqb regions (n * d) in
    let count = passed (not (is_vector_count n)) Count _ (accepted_behind (shape_causes d b) _ accepted) in
    let lengths = passed (not (components && numbers)) Length [] count.rest in
    let both = (and-eq-true_iff components numbers).0 (not-false (components && numbers) lengths.fails) in
    record { components = eqb-true vectors (n * d) both.0; numbers = eqb-true regions (n * d) both.1 }

-- The marks are good in all dimensions, and each component lies inside its dimension's.
pub record Inside (d b : ℕ) (marks vectors : List ℤ) : Type 0 where
  pub shaped : Shape d b
  pub exact : length marks ≡ first_marks d b d
  pub good : good_marks d b marks ≡ true
  pub inside : vectors_inside d b marks vectors ≡ true

pub inside_marks : (d b : ℕ) (vectors marks : List ℤ) → first (shape_causes d b) ≡ Ok tt
    → first (locate_causes d b vectors marks) ≡ Ok tt → Inside d b marks vectors
inside_marks d b vectors marks shaped accepted =
    let count = eqb (length marks) (first_marks d b d) in
    let exact = passed (not count) Length _ accepted in
    let range = passed (not (are_components vectors)) Component _ exact.rest in
    let good = passed (not (good_marks d b marks)) Mark _ range.rest in
    let inside = passed (not (vectors_inside d b marks vectors)) Outside [] good.rest in
    record {
      shaped = shape d b shaped;
      exact = eqb-true (length marks) (first_marks d b d) (not-false count exact.fails);
      good = not-false (good_marks d b marks) good.fails;
      inside = not-false (vectors_inside d b marks vectors) inside.fails;
    }
