-- The causes for which a distance is refused, and what an answer stands for. Assumes nothing.
use Rattle.std.specs.Prelude.{ℕ, not, ◌&&◌, List, [], ◌∷◌, length, ℤ, ◌==◌, Ok, Err, Result}
use Rattle.refusal.specs.declared.Refusal.{Refusal}
use Rattle.refusal.specs.declared.Refusal.TheVariants.{Dimension, Length, Component}
use Rattle.refusal.specs.Refusal.{number_of}
use Rattle.refusal.specs.First.{Row, ◌⇒◌}
use Rattle.limits.specs.Limits.{is_dimension_count}
use Rattle.signed.specs.Components.{are_components}

-- the query has d components: 1, 5, 6
abbrev pub distance_causes : List ℤ → List ℤ → List Row
distance_causes query vector =
    (not (is_dimension_count (length query)) ⇒ Dimension)
    ∷ (not (length vector == length query) ⇒ Length)
    ∷ (not (are_components query && are_components vector) ⇒ Component)
    ∷ []

-- document 01's number of an answer, 0 where there is a distance
abbrev pub distance_number : Result ℕ Refusal → ℕ
distance_number (Ok sum) = 0
distance_number (Err cause) = number_of cause
