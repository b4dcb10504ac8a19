-- What the lengths that were tested say, behind the numbers of dimensions and of bits. Assumes nothing.
use Rattle.std.specs.Prelude.{◌≡◌, ℕ, ◌&&◌, ◌*◌, eqb, Ok}
use Rattle.std.proofs.Common.{◌∙◌, eqb-true}
use Rattle.std.proofs.Math.Bool.{and-eq-true_iff}
use Rattle.std.proofs.lemmas.Bool.{not-false}
use Rattle.refusal.specs.First.{first, passed, first_append, outcome_accepted}
use Rattle.limits.specs.Limits.{max_vectors, is_vector_count}
use Rattle.limits.specs.Tests.{between}
use Rattle.layout.specs.declared.Layout.{Layout}
use Rattle.layout.specs.Layout.{code_length}
use Rattle.layout.specs.Stretch.{shape_causes}
use Rattle.codes.specs.Pack.{length_causes, size_causes, Sizes}
use Rattle.codes.proofs.Columns.{shape_of}

pub lengths : (l : Layout) (n regions codes : ℕ) → first (length_causes l.d l.b n regions codes) ≡ Ok tt → Sizes l.d l.b n regions codes
lengths l n regions codes accepted =
    let rows = eqb regions (n * l.d) in
    let bytes = eqb codes (code_length l.b n) in
    let count = passed _ _ _ accepted in
    let both = (and-eq-true_iff rows bytes).0 (not-false (rows && bytes) (passed _ _ _ count.rest).fails) in
    record {
      shaped = shape_of l;
      few = (between 1 n max_vectors (not-false (is_vector_count n) count.fails)).below;
      rows = eqb-true regions (n * l.d) both.0;
      bytes = eqb-true codes (code_length l.b n) both.1;
    }

-- so nothing refuses the sizes
pub all_sizes : (d b n regions codes : ℕ) (l : Layout) → (l.d ≡ d) × (l.b ≡ b) × (first (shape_causes d b) ≡ Ok tt)
    → first (length_causes l.d l.b n regions codes) ≡ Ok tt → first (size_causes d b n regions codes) ≡ Ok tt
all_sizes d b n regions codes l is accepted =
    let behind = rw (is.0, is.1) at accepted in
    first_append (shape_causes d b) (length_causes d b n regions codes) ∙ outcome_accepted _ _ is.2 ∙ behind
