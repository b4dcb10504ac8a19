-- The causes for which writing a library is refused (document 01, "When a call says no"). Assumes nothing.
use Rattle.std.specs.Prelude.{Bool, not, ◌&&◌, List, [], ◌∷◌, ◌++◌, ℕ, ◌*◌, eqb, length}
use Rattle.refusal.specs.declared.Refusal.TheVariants.{Count, Length, Component, Mark, Outside}
use Rattle.refusal.specs.First.{Row, ◌⇒◌}
use Rattle.limits.specs.Limits.{is_vector_count}
use Rattle.signed.specs.Components.{are_components}
use Rattle.layout.specs.Stretch.{shape_causes}
use Rattle.partition.specs.Marks.{good_marks}
use Rattle.library.specs.Each.{every}
use Rattle.library.specs.Tests.{inside}
use Rattle.library.specs.Library.{Library, mark_total, component_in, library_length}

-- every lent buffer has its exact length, that of the bytes among them
abbrev pub exact_lengths : Library → ℕ → Bool
exact_lengths l room =
    eqb (length l.marks) (mark_total l.d l.b)
    && (eqb (length l.settings) l.n && (eqb (length l.components) (l.n * l.d) && eqb room (library_length l.d l.b l.n)))

-- 6, 7, 8
abbrev pub value_causes : Library → List Row
value_causes l =
    (not (are_components l.components) ⇒ Component)
    ∷ (not (good_marks l.d l.b l.marks) ⇒ Mark)
    ∷ (not (every l.n (λ i. inside l.d l.b l.marks (component_in l i))) ⇒ Outside)
    ∷ []

-- 3, 5 and those of the values
abbrev pub shaped_causes : Library → ℕ → List Row
shaped_causes l room = (not (is_vector_count l.n) ⇒ Count) ∷ (not (exact_lengths l room) ⇒ Length) ∷ value_causes l

-- all of them: 1, 2, 3, 5, 6, 7, 8
abbrev pub write_causes : Library → ℕ → List Row
write_causes l room = shape_causes l.d l.b ++ shaped_causes l room
