-- The causes for which packing and unpacking say no (document 01, "When a call says no"). Assumes nothing.
use Rattle.std.specs.Prelude.{◌≡◌, not, ◌&&◌, List, [], ◌∷◌, ◌++◌, ℕ, ◌*◌, ◌≤◌, eqb, length, Ok}
use Rattle.std.proofs.Math.Bool.{and-eq-true_iff}
use Rattle.std.proofs.Common.{mul-le-mul, eqb-true}
use Rattle.std.proofs.lemmas.Bool.{not-false}
use Rattle.refusal.specs.declared.Refusal.TheVariants.{Count, Length, Code}
use Rattle.refusal.specs.First.{Row, ◌⇒◌, first, passed, accepted_front, accepted_behind}
use Rattle.limits.specs.Limits.{max_dimensions, max_vectors, is_vector_count}
use Rattle.limits.specs.Tests.{between}
use Rattle.layout.specs.Layout.{code_length}
use Rattle.layout.specs.Stretch.{shape_causes, Shape, shape}
use Rattle.codes.specs.Codes.{regions_fit, spare_zero}

-- 3 for the number of vectors, 5 for the lengths of the two buffers
abbrev pub length_causes : ℕ → ℕ → ℕ → ℕ → ℕ → List Row
length_causes d b n regions codes =
    (not (is_vector_count n) ⇒ Count) ∷ (not (eqb regions (n * d) && eqb codes (code_length b n)) ⇒ Length) ∷ []

-- behind 1 and 2
abbrev pub size_causes : ℕ → ℕ → ℕ → ℕ → ℕ → List Row
size_causes d b n regions codes = shape_causes d b ++ length_causes d b n regions codes

-- 9 for "a region number past the last"
abbrev pub pack_causes : ℕ → ℕ → ℕ → List ℕ → ℕ → List Row
pack_causes d b n regions codes = size_causes d b n (length regions) codes ++ ((not (regions_fit d b 0 regions) ⇒ Code) ∷ [])

-- 9 for "a spare bit set"
abbrev pub unpack_causes : ℕ → ℕ → ℕ → List ℕ → ℕ → List Row
unpack_causes d b n codes regions = size_causes d b n regions (length codes) ++ ((not (spare_zero b n codes) ⇒ Code) ∷ [])

-- ---- what holds where the sizes are not refused

pub record Sizes (d b n regions codes : ℕ) : Type 0 where
  pub shaped : Shape d b
  pub few : n ≤ max_vectors
  pub rows : regions ≡ n * d
  pub bytes : codes ≡ code_length b n

pub sizes : (d b n regions codes : ℕ) → first (size_causes d b n regions codes) ≡ Ok tt → Sizes d b n regions codes
sizes d b n regions codes accepted =
    let rows = eqb regions (n * d) in
    let bytes = eqb codes (code_length b n) in
    let count =
    passed (not (is_vector_count n)) Count ((not (rows && bytes) ⇒ Length) ∷ [])
    (accepted_behind (shape_causes d b) (length_causes d b n regions codes) accepted) in
    let lengths = (and-eq-true_iff rows bytes).0 (not-false (rows && bytes) (passed (not (rows && bytes)) Length [] count.rest).fails) in
    record {
      shaped = shape d b (accepted_front (shape_causes d b) (length_causes d b n regions codes) accepted);
      few = (between 1 n max_vectors (not-false (is_vector_count n) count.fails)).below;
      rows = eqb-true regions (n * d) lengths.0;
      bytes = eqb-true codes (code_length b n) lengths.1;
    }

-- the numbers are few
pub numbers_le : {d b : ℕ} (n : ℕ) → Shape d b → n ≤ max_vectors → n * d ≤ max_vectors * max_dimensions
numbers_le n shaped few = mul-le-mul few shaped.few
