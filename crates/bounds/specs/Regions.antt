-- The sums of a table's entries over rows of region numbers, and the causes for which they are refused. Assumes nothing.
use Rattle.std.specs.Prelude.{◌≡◌, ℕ, zero, suc, ◌+◌, ◌*◌, ◌%◌, ◌^◌, not, ◌&&◌, List, [], ◌∷◌, ◌++◌, ◌==◌, nat_eq, slice_index, Ok}
use Rattle.std.proofs.Math.Bool.{and-eq-true_iff}
use Rattle.std.proofs.Common.{eqb-true}
use Rattle.std.proofs.lemmas.Bool.{not-false}
use Rattle.refusal.specs.declared.Refusal.TheVariants.{Count, Length}
use Rattle.refusal.specs.First.{Row, ◌⇒◌, first, passed, accepted_front, accepted_behind}
use Rattle.limits.specs.Limits.{is_vector_count}
use Rattle.layout.specs.Layout.{first_marks}
use Rattle.layout.specs.Stretch.{shape_causes}

-- the sum of the entries of row i's region numbers for the first t dimensions; an entry past the table is 0
unfoldable pub row_sum : ℕ → ℕ → List ℕ → List ℕ → ℕ → ℕ → ℕ
row_sum d b table regions i zero = 0
row_sum d b table regions i (suc t) = row_sum d b table regions i t + slice_index table (first_marks d b t + slice_index regions (i * d + t))

-- the same of all dimensions, modulo 2^64
unfoldable pub region_sum : ℕ → ℕ → List ℕ → List ℕ → ℕ → ℕ
region_sum d b table regions i = row_sum d b table regions i d % 2 ^ 64

-- 3, and 5 for the lengths of the table and of the region numbers
abbrev pub row_sum_causes : ℕ → ℕ → ℕ → ℕ → ℕ → List Row
row_sum_causes d b table regions n =
    (not (is_vector_count n) ⇒ Count) ∷ (not (table == first_marks d b d && regions == n * d) ⇒ Length) ∷ []

-- 1, 2, 3, 5
abbrev pub region_sum_causes : ℕ → ℕ → ℕ → ℕ → ℕ → List Row
region_sum_causes d b table regions n = shape_causes d b ++ row_sum_causes d b table regions n

-- what holds where nothing refuses
pub regions_summable : (d b table regions n : ℕ) → first (region_sum_causes d b table regions n) ≡ Ok tt
    → (first (shape_causes d b) ≡ Ok tt) × (table ≡ first_marks d b d) × (regions ≡ n * d)
regions_summable d b table regions n accepted =
    let rows = row_sum_causes d b table regions n in
    let entries = nat_eq table (first_marks d b d) in
    let numbers = nat_eq regions (n * d) in
    let count = passed _ _ _ (accepted_behind (shape_causes d b) rows accepted) in
    let lengths = (and-eq-true_iff entries numbers).0 (not-false (entries && numbers) (passed _ _ _ count.rest).fails) in (
      accepted_front (shape_causes d b) rows accepted,
      eqb-true table (first_marks d b d) lengths.0,
      eqb-true regions (n * d) lengths.1,
    )
