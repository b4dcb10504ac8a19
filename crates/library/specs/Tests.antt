-- What loading and writing both test: the counts of a library, and a vector against its marks. Assumes nothing.
use Rattle.std.specs.Prelude.{Bool, not, List, [], ◌∷◌, ◌++◌, ℕ, suc, ℤ}
use Rattle.refusal.specs.declared.Refusal.TheVariants.{Count}
use Rattle.refusal.specs.First.{Row, ◌⇒◌}
use Rattle.limits.specs.Limits.{is_vector_count}
use Rattle.layout.specs.Stretch.{shape_causes}
use Rattle.region.specs.Region.{in_marks}
use Rattle.partition.specs.Marks.{dimension_marks}
use Rattle.library.specs.Each.{every}

-- 1, 2, 3: the counts of a library
abbrev pub counts_causes : ℕ → ℕ → ℕ → List Row
counts_causes d b n = shape_causes d b ++ ((not (is_vector_count n) ⇒ Count) ∷ [])

-- whether the d components of a vector lie, each, inside the marks of their dimension
unfoldable pub inside : ℕ → ℕ → List ℤ → (ℕ → ℤ) → Bool
inside d b marks component = every d (λ t. in_marks (dimension_marks d b marks (suc t)) (component t))
