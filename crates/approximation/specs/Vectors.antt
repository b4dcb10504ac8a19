-- The region numbers of vectors under given marks, and the codes that are made of them (document 01, "Marks, regions, codes").
-- Assumes nothing.
use Rattle.std.specs.Prelude.{Bool, true, ◌&&◌, List, [], ◌∷◌, ℕ, suc, ℤ}
use Rattle.region.specs.Region.{region_of, in_marks}
use Rattle.partition.specs.Marks.{dimension_marks}
use Rattle.codes.specs.Codes.{next_column, packed}

-- The region numbers of components are each one's region in its dimension, the first of them in column t.
unfoldable pub regions_from : ℕ → ℕ → List ℤ → ℕ → List ℤ → List ℕ
regions_from d b marks t [] = []
regions_from d b marks t (z ∷ zs) = region_of (dimension_marks d b marks (suc t)) z ∷ regions_from d b marks (next_column d t) zs

abbrev pub vector_regions : ℕ → ℕ → List ℤ → List ℤ → List ℕ
vector_regions d b marks vectors = regions_from d b marks 0 vectors

-- Components lie inside if each lies inside its dimension's marks, the first of them in column t.
unfoldable pub inside_from : ℕ → ℕ → List ℤ → ℕ → List ℤ → Bool
inside_from d b marks t [] = true
inside_from d b marks t (z ∷ zs) = in_marks (dimension_marks d b marks (suc t)) z && inside_from d b marks (next_column d t) zs

abbrev pub vectors_inside : ℕ → ℕ → List ℤ → List ℤ → Bool
vectors_inside d b marks vectors = inside_from d b marks 0 vectors

-- The codes of n vectors are their packed region numbers.
abbrev pub vector_codes : ℕ → ℕ → ℕ → List ℤ → List ℤ → List ℕ
vector_codes d b n marks vectors = packed d b n (vector_regions d b marks vectors)
