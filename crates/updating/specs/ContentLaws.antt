-- The contents of a library are tested by the tests of its vectors, of more components and of its codes, one behind the other. Assumes
-- nothing.
use Rattle.std.specs.Prelude.{◌≡◌, refl, Bool, true, false, not, ◌&&◌, List, [], ◌∷◌, ℕ, eqb, ℤ, length, Ok, Err}
use Rattle.std.proofs.Common.{ap, ◌∙◌, eq-eqb}
use Rattle.refusal.specs.declared.Refusal.TheVariants.{Count, Length, Component, Mark, Outside, Code}
use Rattle.refusal.specs.First.{Row, ◌⇒◌, first, outcome, outcome_accepted, first_here, first_next, first_append}
use Rattle.limits.specs.Limits.{is_vector_count}
use Rattle.signed.specs.Components.{are_components}
use Rattle.layout.specs.Layout.{first_marks, code_length}
use Rattle.layout.specs.Stretch.{shape_causes}
use Rattle.partition.specs.Marks.{good_marks}
use Rattle.cells.specs.Cells.{good_codes}
use Rattle.cells.specs.CellCauses.{code_causes, shaped_code_causes}
use Rattle.approximation.specs.Vectors.{vectors_inside}
use Rattle.approximation.specs.VectorCauses.{locate_causes, inside_causes}
use Rattle.updating.specs.UpdateCauses.{content_causes}

-- the rows of vectors in range and inside good marks, of codes, and of both with more vectors
abbrev inside_rows : Bool → Bool → Bool → List Row
inside_rows range marked inside = (not range ⇒ Component) ∷ (not marked ⇒ Mark) ∷ (not inside ⇒ Outside) ∷ []

abbrev code_rows : Bool → Bool → List Row
code_rows marked named = (not marked ⇒ Mark) ∷ (not named ⇒ Code) ∷ []

abbrev content_rows : Bool → Bool → Bool → Bool → Bool → Bool → List Row
content_rows range range' marked inside inside' named =
    (not (range && range') ⇒ Component) ∷ (not marked ⇒ Mark) ∷ (not (inside && inside') ⇒ Outside) ∷ (not named ⇒ Code) ∷ []

in_turn : (range marked inside inside' named : Bool) → first (content_rows range true marked inside inside' named)
    ≡ outcome (first (inside_rows range marked inside))
    (outcome (first (inside_rows true marked inside')) (first (code_rows marked named)) Err) Err
unfolding first
in_turn false marked inside inside' named = refl
in_turn true false inside inside' named = refl
in_turn true true false inside' named = refl
in_turn true true true false named = refl
in_turn true true true true named = refl

and_no : (t : Bool) → t && false ≡ false
and_no true = refl
and_no false = refl

module _ (d b n : ℕ) (marks : List ℤ) (codes : List ℕ) (vectors more : List ℤ) where
  -- more components that are out of range
  pub more_out : are_components more ≡ false → first (content_causes d b n marks codes vectors more) ≡ Err Component
  more_out out = first_here Component _ (rw (out, and_no (are_components vectors)))

  module _ (shaped : first (shape_causes d b) ≡ Ok tt) (exact : length marks ≡ first_marks d b d) where
    inside_rows_lem : (some : List ℤ)
        → first (inside_causes d b some marks) ≡ first (inside_rows (are_components some) (good_marks d b marks) (vectors_inside d b marks some))
    inside_rows_lem some =
        first_append (shape_causes d b) (locate_causes d b some marks)
        ∙ outcome_accepted _ _ shaped
        ∙ first_next Length _ (ap not (eq-eqb (length marks) (first_marks d b d) exact))

    code_rows_lem : is_vector_count n ≡ true → length codes ≡ code_length b n
        → first (code_causes d b n marks codes) ≡ first (code_rows (good_marks d b marks) (good_codes d b n marks codes))
    code_rows_lem counted bytes =
        let sizes : not (eqb (length marks) (first_marks d b d) && eqb (length codes) (code_length b n)) ≡ false =
        rw (eq-eqb (length marks) (first_marks d b d) exact, eq-eqb (length codes) (code_length b n) bytes) in
        first_append (shape_causes d b) (shaped_code_causes d b n marks codes)
        ∙ outcome_accepted _ _ shaped
        ∙ first_next Count _ (ap not counted)
        ∙ first_next Length _ sizes

    -- other contents: the vectors, then the more components, then the codes
    pub contents_in_turn : is_vector_count n ≡ true → length codes ≡ code_length b n → are_components more ≡ true
        → first (content_causes d b n marks codes vectors more)
        ≡ outcome (first (inside_causes d b vectors marks))
        (outcome (first (inside_causes d b more marks)) (first (code_causes d b n marks codes)) Err) Err
    contents_in_turn counted bytes range =
        rw (inside_rows_lem vectors, inside_rows_lem more, code_rows_lem counted bytes, range)
        (in_turn (are_components vectors) (good_marks d b marks) (vectors_inside d b marks vectors) (vectors_inside d b marks more)
        (good_codes d b n marks codes))
