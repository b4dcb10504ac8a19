-- The marks buffer: each dimension's part of it, and the test of its marks (document 01, "Marks, regions, codes"). Assumes nothing.
use Rattle.std.specs.Prelude.{◌≡◌, refl, Bool, true, ◌&&◌, List, ℕ, zero, suc, ◌-◌, ◌<◌, ℤ, take, drop}
use Rattle.limits.specs.Tests.{All, all_each}
use Rattle.layout.specs.Layout.{mark_count, first_marks}
use Rattle.region.specs.Dimension.{good_dimension}

-- Dimension j has its part of the marks buffer, j from 1: dimension 1 comes first.
unfoldable pub dimension_marks : ℕ → ℕ → List ℤ → ℕ → List ℤ
dimension_marks d b marks j = take (mark_count d b j) (drop (first_marks d b (j - 1)) marks)

-- The marks of the first j dimensions are good if each dimension's are.
unfoldable pub good_first : ℕ → ℕ → List ℤ → ℕ → Bool
good_first d b marks zero = true
good_first d b marks (suc j) = good_first d b marks j && good_dimension (dimension_marks d b marks (suc j))

abbrev pub good_marks : ℕ → ℕ → List ℤ → Bool
good_marks d b marks = good_first d b marks d

-- ---- Laws

pub good_all : (d b : ℕ) (marks : List ℤ) → All (good_first d b marks) (λ t. good_dimension (dimension_marks d b marks (suc t)))
unfolding good_first
good_all d b marks = record { next = λ t. refl }

-- Good marks are good in each dimension.
pub good_marks_each : (d b : ℕ) (marks : List ℤ) (t : ℕ) → t < d → good_marks d b marks ≡ true
    → good_dimension (dimension_marks d b marks (suc t)) ≡ true
good_marks_each d b marks = all_each (good_all d b marks) d
