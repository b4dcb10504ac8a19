-- The causes for which a vector is not added or not removed (document 02, Slip 3), in the order in which they are tested. Assumes nothing.
use Rattle.std.specs.Prelude.{Bool, not, ◌&&◌, List, [], ◌∷◌, ◌++◌, ℕ, suc, ◌-◌, ◌*◌, ltb, eqb, ℤ, length}
use Rattle.refusal.specs.declared.Refusal.TheVariants.{Count, Length, Component, Mark, Outside, Code, Full, NotRemovable}
use Rattle.refusal.specs.First.{Row, ◌⇒◌}
use Rattle.limits.specs.Limits.{max_vectors, is_vector_count}
use Rattle.signed.specs.Components.{are_components}
use Rattle.layout.specs.Layout.{first_marks, code_length}
use Rattle.layout.specs.Stretch.{shape_causes}
use Rattle.partition.specs.Marks.{good_marks}
use Rattle.cells.specs.Cells.{good_codes}
use Rattle.approximation.specs.Vectors.{vectors_inside}
use Rattle.updating.specs.declared.Lengths.{Lengths}
use Rattle.updating.specs.Updated.{CodedLibrary}

-- the lengths of buffers for vectors, settings and codes are those of n vectors
abbrev pub exact_for : ℕ → ℕ → ℕ → Lengths → Bool
exact_for d b n lengths = eqb lengths.vectors (n * d) && eqb lengths.settings n && eqb lengths.codes (code_length b n)

abbrev pub lengths_with : ℕ → ℕ → ℕ → Lengths
lengths_with vectors settings codes = record { vectors = vectors; settings = settings; codes = codes }

abbrev pub lengths_of : CodedLibrary → Lengths
lengths_of l = lengths_with (length l.vectors) (length l.settings) (length l.codes)

-- 1, 2, 3, and 5 for a library of so many marks and buffers of these lengths
abbrev pub library_causes : ℕ → ℕ → ℕ → ℕ → Lengths → List Row
library_causes d b n marks lengths =
    shape_causes d b
    ++ ((not (is_vector_count n) ⇒ Count) ∷ (not (eqb marks (first_marks d b d) && exact_for d b n lengths) ⇒ Length) ∷ [])

abbrev pub sizes_of : CodedLibrary → List Row
sizes_of l = library_causes l.d l.b l.n (length l.marks) (lengths_of l)

-- 6, 7, 8, 9 for a library and more components
abbrev pub content_causes : ℕ → ℕ → ℕ → List ℤ → List ℕ → List ℤ → List ℤ → List Row
content_causes d b n marks codes vectors more =
    (not (are_components vectors && are_components more) ⇒ Component)
    ∷ (not (good_marks d b marks) ⇒ Mark)
    ∷ (not (vectors_inside d b marks vectors && vectors_inside d b marks more) ⇒ Outside)
    ∷ (not (good_codes d b n marks codes) ⇒ Code)
    ∷ []

abbrev pub contents_of : CodedLibrary → List ℤ → List Row
contents_of l more = content_causes l.d l.b l.n l.marks l.codes l.vectors more

-- "20, adding at the pattern limit", "straight after 5" for the new vector and the buffers of n + 1, and then the contents, the new
-- vector's too
abbrev pub add_causes : CodedLibrary → List ℤ → Lengths → List Row
add_causes l vector room =
    sizes_of l
    ++ ((not (eqb (length vector) l.d && exact_for l.d l.b (suc l.n) room) ⇒ Length)
    ∷ (eqb l.n max_vectors ⇒ Full)
    ∷ contents_of l vector)

-- "21, removing a number not stored or the only pattern", "straight after 5" for the buffers of n - 1, and then the contents
abbrev pub remove_causes : CodedLibrary → ℕ → Lengths → List Row
remove_causes l i room =
    sizes_of l
    ++ ((not (exact_for l.d l.b (l.n - 1) room) ⇒ Length)
    ∷ (not (ltb i l.n && ltb 1 l.n) ⇒ NotRemovable)
    ∷ contents_of l [])
