-- The causes for which the sums of n codes' entries of a table are refused, and what holds where nothing refuses. Assumes nothing.
use Rattle.std.specs.Prelude.{◌≡◌, ℕ, ◌*◌, ◌≤◌, not, ◌&&◌, List, [], ◌∷◌, ◌++◌, length, ℤ, ◌==◌, nat_eq, Ok}
use Rattle.std.proofs.Common.{◌∙◌, arith, eqb-true, eq-eqb}
use Rattle.std.proofs.Math.Bool.{and-eq-true_iff}
use Rattle.std.proofs.lemmas.Bool.{not-false}
use Rattle.refusal.specs.declared.Refusal.TheVariants.{Count, Length, Code}
use Rattle.refusal.specs.First.{Row, ◌⇒◌, first, first_append, outcome_accepted, passed, accepted_front, accepted_behind}
use Rattle.limits.specs.Limits.{max_vectors, is_vector_count}
use Rattle.limits.specs.Tests.{between}
use Rattle.layout.specs.Layout.{first_marks, code_length}
use Rattle.layout.specs.Stretch.{shape_causes}
use Rattle.codes.specs.Codes.{spare_zero}
use Rattle.bounds.specs.Bounded.{Bounding}

-- 3, 5, and 9 for "a spare bit set"
abbrev pub counted_causes : ℕ → ℕ → ℕ → List ℕ → ℕ → List Row
counted_causes d b table codes n =
    (not (is_vector_count n) ⇒ Count)
    ∷ (not (table == first_marks d b d && length codes == code_length b n) ⇒ Length)
    ∷ (not (spare_zero b n codes) ⇒ Code)
    ∷ []

-- 1, 2, 3, 5, 9
abbrev pub sum_causes : ℕ → ℕ → ℕ → List ℕ → ℕ → List Row
sum_causes d b table codes n = shape_causes d b ++ counted_causes d b table codes n

pub summable : (d b table : ℕ) (codes : List ℕ) (n : ℕ) → first (sum_causes d b table codes n) ≡ Ok tt
    → (first (shape_causes d b) ≡ Ok tt) × (table ≡ first_marks d b d) × (n ≤ max_vectors) × (n * b ≤ length codes * 8)
summable d b table codes n accepted =
    let rows = counted_causes d b table codes n in
    let marks = nat_eq table (first_marks d b d) in
    let bytes = nat_eq (length codes) (code_length b n) in
    let count = passed _ _ _ (accepted_behind (shape_causes d b) rows accepted) in
    let lengths = (and-eq-true_iff marks bytes).0 (not-false (marks && bytes) (passed _ _ _ count.rest).fails) in
    let exact : length codes ≡ code_length b n = eqb-true (length codes) (code_length b n) lengths.1 in (
      accepted_front (shape_causes d b) rows accepted,
      eqb-true table (first_marks d b d) lengths.0,
      (between 1 n max_vectors (not-false (is_vector_count n) count.fails)).below,
      omega (arith, exact),
    )

-- nothing refuses where the bounds are asked for with what they take
pub sums_accepted : {d b n : ℕ} {query marks : List ℤ} {codes : List ℕ} → Bounding d b n query marks codes → (table : ℕ)
    → table ≡ length marks
    → first (sum_causes d b table codes n) ≡ Ok tt
unfolding first
sums_accepted {d} {b} {n} {codes = codes} is table same =
    first_append (shape_causes d b) (counted_causes d b table codes n)
    ∙ outcome_accepted _ _ is.shaped
    ∙ rw (is.count, eq-eqb _ _ (same ∙ is.of_marks), eq-eqb _ _ is.of_codes, is.spare)
