-- A cell's least and greatest distance from a query, document 01's L and U: "sums over dimensions of the square of the shortest and longest
-- step from query to region"; and the same over the dimensions that are present (document 02, Slip 1). Assumes nothing.
use Rattle.std.specs.Prelude.{ℕ, zero, suc, ◌+◌, List, ℤ, pos, slice_index, slice_index_or}
use Rattle.partition.specs.Marks.{dimension_marks}
use Rattle.codes.specs.Codes.{code_region}
use Rattle.step.specs.Step.{squared, weighed, shortest, longest}

-- a step of a query to region r of one dimension's marks
abbrev pub step_to : (ℤ → ℤ → ℤ → ℕ) → ℤ → List ℤ → ℕ → ℕ
step_to step q marks r = step q (slice_index_or marks r (pos 0)) (slice_index_or marks (suc r) (pos 0))

-- the step in dimension t + 1 to the region that code i names
abbrev pub step_at : (ℤ → ℤ → ℤ → ℕ) → ℕ → ℕ → List ℤ → List ℕ → List ℤ → ℕ → ℕ → ℕ
step_at step d b marks codes query i t = step_to step (slice_index_or query t (pos 0)) (dimension_marks d b marks (suc t)) (code_region d b codes i t)

-- the sum over the first t dimensions, for code i
unfoldable pub first_bound : (ℤ → ℤ → ℤ → ℕ) → ℕ → ℕ → List ℤ → List ℕ → List ℤ → ℕ → ℕ → ℕ
first_bound step d b marks codes query i zero = 0
first_bound step d b marks codes query i (suc t) =
    first_bound step d b marks codes query i t + squared (step_at step d b marks codes query i t)

-- L and U of code i's cell
abbrev pub lower_of : ℕ → ℕ → List ℤ → List ℕ → List ℤ → ℕ → ℕ
lower_of d b marks codes query i = first_bound shortest d b marks codes query i d

abbrev pub upper_of : ℕ → ℕ → List ℤ → List ℕ → List ℤ → ℕ → ℕ
upper_of d b marks codes query i = first_bound longest d b marks codes query i d

-- ---- with a factor for each dimension

unfoldable pub first_weighed_bound : (ℤ → ℤ → ℤ → ℕ) → ℕ → ℕ → List ℤ → List ℕ → List ℕ → List ℤ → ℕ → ℕ → ℕ
first_weighed_bound step d b marks codes factors query i zero = 0
first_weighed_bound step d b marks codes factors query i (suc t) =
    first_weighed_bound step d b marks codes factors query i t + weighed (slice_index factors t) (step_at step d b marks codes query i t)

abbrev pub weighed_bound : (ℤ → ℤ → ℤ → ℕ) → ℕ → ℕ → List ℤ → List ℕ → List ℕ → List ℤ → ℕ → ℕ
weighed_bound step d b marks codes factors query i = first_weighed_bound step d b marks codes factors query i d

abbrev pub weighed_lower : ℕ → ℕ → List ℤ → List ℕ → List ℕ → List ℤ → ℕ → ℕ
weighed_lower d b marks codes factors query i = weighed_bound shortest d b marks codes factors query i

abbrev pub weighed_upper : ℕ → ℕ → List ℤ → List ℕ → List ℕ → List ℤ → ℕ → ℕ
weighed_upper d b marks codes factors query i = weighed_bound longest d b marks codes factors query i
