-- What a query's step to every region adds to a bound, worked out once a query (source document 003, section 3.3), so that a code's bound
-- is a sum of entries. The table has the layout of the marks buffer: a region's entry stands where its lower mark stands. The entry
-- at a dimension's last mark, where no region begins, is read by no code. Entries are worked out in 64 bits. Assumes nothing.
use Rattle.std.specs.Prelude.{Bool, false, ◌&&◌, List, [], ◌∷◌, ◌++◌, ℕ, zero, suc, ◌+◌, ◌*◌, ◌%◌, ◌^◌, eqb, ℤ, pos, get_or}
use Rattle.refusal.specs.First.{first, outcome}
use Rattle.limits.specs.Limits.{max_dimensions, max_dimension_bits}
use Rattle.layout.specs.Layout.{mark_count, first_marks}
use Rattle.layout.specs.Stretch.{shape_causes}
use Rattle.partition.specs.Marks.{dimension_marks}
use Rattle.codes.specs.Codes.{code_region}
use Rattle.step.specs.Step.{weighed_word}
use Rattle.distance.specs.Bounds.{step_to}

-- n entries from region r on, for one dimension's factor and component of the query
unfoldable pub steps_from : (ℤ → ℤ → ℤ → ℕ) → ℕ → ℤ → List ℤ → ℕ → ℕ → List ℕ
steps_from step factor q marks r zero = []
steps_from step factor q marks r (suc n) = weighed_word factor (step_to step q marks r) ∷ steps_from step factor q marks (suc r) n

-- the entries of the first t dimensions
unfoldable pub table_first : (ℤ → ℤ → ℤ → ℕ) → ℕ → ℕ → List ℤ → List ℕ → List ℤ → ℕ → List ℕ
table_first step d b marks factors query zero = []
table_first step d b marks factors query (suc t) =
    table_first step d b marks factors query t
    ++ steps_from step (get_or factors t 0) (get_or query t (pos 0)) (dimension_marks d b marks (suc t)) 0 (mark_count d b (suc t))

abbrev pub table_of : (ℤ → ℤ → ℤ → ℕ) → ℕ → ℕ → List ℤ → List ℕ → List ℤ → List ℕ
table_of step d b marks factors query = table_first step d b marks factors query d

-- whether marks and a table of these lengths are those of d dimensions with b bits in all
unfoldable pub has_table : ℕ → ℕ → ℕ → ℕ → Bool
has_table d b marks table = outcome (first (shape_causes d b)) (eqb marks (first_marks d b d) && eqb table (first_marks d b d)) (λ _. false)

-- the length of the longest table
abbrev pub max_table : ℕ
max_table = max_dimensions * (2 ^ max_dimension_bits + 1)

-- the sum of the entries that code i names for the first t dimensions
unfoldable pub table_sum : ℕ → ℕ → List ℕ → List ℕ → ℕ → ℕ → ℕ
table_sum d b table codes i zero = 0
table_sum d b table codes i (suc t) = table_sum d b table codes i t + get_or table (first_marks d b t + code_region d b codes i t) 0

-- the same of all dimensions, modulo 2^64
unfoldable pub bound_sum : ℕ → ℕ → List ℕ → List ℕ → ℕ → ℕ
bound_sum d b table codes i = table_sum d b table codes i d % 2 ^ 64
