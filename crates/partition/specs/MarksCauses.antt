-- The causes for which a call that is given the marks buffer is refused. Assumes nothing.
use Rattle.std.specs.Prelude.{◌≡◌, refl, Bool, true, false, not, ◌&&◌, List, [], ◌∷◌, ◌++◌, ℕ, leb, eqb, ℤ, length, Ok, Err}
use Rattle.std.proofs.Common.{sym, ap, ◌∙◌, eq-eqb}
use Rattle.std.proofs.lemmas.Bool.{not-false}
use Rattle.refusal.specs.declared.Refusal.{Refusal}
use Rattle.refusal.specs.declared.Refusal.TheVariants.{Dimension, Length, Mark}
use Rattle.refusal.specs.First.{Row, ◌⇒◌, first, first_none, first_next, first_append, outcome_accepted, passed, apart}
use Rattle.layout.specs.Layout.{first_marks}
use Rattle.layout.specs.Stretch.{shape_causes}
use Rattle.partition.specs.Marks.{good_marks}

-- The causes behind those of the shape are 5 and 7.
abbrev pub shaped_causes : ℕ → ℕ → List ℤ → List Row
shaped_causes d b marks = (not (eqb (length marks) (first_marks d b d)) ⇒ Length) ∷ (not (good_marks d b marks) ⇒ Mark) ∷ []

-- A marks buffer is refused for 1, 2, 5 or 7.
abbrev pub marks_causes : ℕ → ℕ → List ℤ → List Row
marks_causes d b marks = shape_causes d b ++ shaped_causes d b marks

-- A dimension's part of it is refused with 1 for the dimension's number too.
abbrev pub part_causes : ℕ → ℕ → List ℤ → ℕ → List Row
part_causes d b marks j = (not (leb 1 j && leb j d) ⇒ Dimension) ∷ marks_causes d b marks

-- ---- Where the shape and the length are right, only the marks themselves can be refused

pub marks_row : (d b : ℕ) (marks : List ℤ) → first (shape_causes d b) ≡ Ok tt → length marks ≡ first_marks d b d
    → first (marks_causes d b marks) ≡ first ((not (good_marks d b marks) ⇒ Mark) ∷ [])
marks_row d b marks shaped size =
    first_append (shape_causes d b) (shaped_causes d b marks)
    ∙ outcome_accepted _ _ shaped
    ∙ first_next Length ((not (good_marks d b marks) ⇒ Mark) ∷ []) (ap not (eq-eqb (length marks) (first_marks d b d) size))

pub marks_good : (d b : ℕ) (marks : List ℤ) → first (shape_causes d b) ≡ Ok tt → length marks ≡ first_marks d b d
    → first (marks_causes d b marks) ≡ Ok tt → good_marks d b marks ≡ true
marks_good d b marks shaped size accepted =
    let last = passed _ _ _ (sym (marks_row d b marks shaped size) ∙ accepted) in
    not-false (good_marks d b marks) last.fails

pub marks_bad : (d b : ℕ) (marks : List ℤ) {cause : Refusal} → first (shape_causes d b) ≡ Ok tt → length marks ≡ first_marks d b d
    → first (marks_causes d b marks) ≡ Err cause → good_marks d b marks ≡ false
marks_bad d b marks shaped size refused = go (good_marks d b marks) refl
  where
    go : (good : Bool) → good_marks d b marks ≡ good → good ≡ false
    go true e =
        let accepted : first (marks_causes d b marks) ≡ Ok tt = marks_row d b marks shaped size ∙ first_next Mark [] (ap not e)
        ∙ first_none in
        absurd (apart (sym accepted ∙ refused))
    go false e = refl
