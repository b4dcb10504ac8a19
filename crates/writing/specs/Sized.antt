-- What the parts of writing are given: slices of the right lengths. Assumes nothing.
use Rattle.std.specs.Prelude.{◌≡◌, true, List, ℕ, ◌+◌, ◌*◌, ◌≤◌, ℤ, length, Ok}
use Rattle.refusal.specs.First.{first}
use Rattle.limits.specs.Limits.{max_dimensions, max_vectors}
use Rattle.signed.specs.Components.{are_components}
use Rattle.layout.specs.Stretch.{shape_causes}
use Rattle.library.specs.Library.{mark_total, vector_place}

-- as many marks as the dimensions have
pub record Dimensioned (d b : ℕ) (marks : List ℤ) : Type 0 where
  pub shape_passes : first (shape_causes d b) ≡ Ok tt
  pub marks_count : length marks ≡ mark_total d b

pub record Sized (d b n : ℕ) (marks components : List ℤ) : Type 0 where
  pub of_marks : Dimensioned d b marks
  pub few : n ≤ max_vectors
  pub components_count : length components ≡ n * d

-- n vectors with room for them behind m marks
pub record Writing (d n m : ℕ) (settings : List ℕ) (components : List ℤ) (room : ℕ) : Type 0 where
  pub few_dimensions : d ≤ max_dimensions
  pub few : n ≤ max_vectors
  pub few_marks : m ≤ 2080
  pub settings_count : length settings ≡ n
  pub components_count : length components ≡ n * d
  pub of_components : are_components components ≡ true
  pub fits : vector_place m n ≤ room

-- d components from an index on
pub record Row (d from : ℕ) (components : List ℤ) : Type 0 where
  pub few : d ≤ max_dimensions
  pub within : from + d ≤ length components
  pub of_components : are_components components ≡ true
