-- The causes for which codes are refused. Assumes nothing.
use Rattle.std.specs.Prelude.{not, ◌&&◌, List, [], ◌∷◌, ◌++◌, ℕ, eqb, ℤ, length}
use Rattle.refusal.specs.declared.Refusal.TheVariants.{Count, Length, Mark, Code}
use Rattle.refusal.specs.First.{Row, ◌⇒◌}
use Rattle.limits.specs.Limits.{is_vector_count}
use Rattle.layout.specs.Layout.{first_marks, code_length}
use Rattle.layout.specs.Stretch.{shape_causes}
use Rattle.partition.specs.Marks.{good_marks}
use Rattle.cells.specs.Cells.{good_codes}

-- 9
abbrev pub named_causes : ℕ → ℕ → ℕ → List ℤ → List ℕ → List Row
named_causes d b n marks codes = (not (good_codes d b n marks codes) ⇒ Code) ∷ []

-- 3, 5, 7, 9
abbrev pub shaped_code_causes : ℕ → ℕ → ℕ → List ℤ → List ℕ → List Row
shaped_code_causes d b n marks codes =
    (not (is_vector_count n) ⇒ Count)
    ∷ (not (eqb (length marks) (first_marks d b d) && eqb (length codes) (code_length b n)) ⇒ Length)
    ∷ (not (good_marks d b marks) ⇒ Mark)
    ∷ named_causes d b n marks codes

-- 1, 2, 3, 5, 7, 9
abbrev pub code_causes : ℕ → ℕ → ℕ → List ℤ → List ℕ → List Row
code_causes d b n marks codes = shape_causes d b ++ shaped_code_causes d b n marks codes
