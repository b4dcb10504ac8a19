-- A row's sum by runs of dimensions that have as many bits: first those with one bit more, then the others. Assumes nothing.
use Rattle.std.specs.Prelude.{◌≡◌, ℕ, zero, suc, ◌+◌, ◌-◌, ◌*◌, ◌/◌, ◌%◌, ◌^◌, ◌≤◌, List, slice_index}
use Rattle.std.proofs.Common.{sym, add-zero, zero-add, add-suc, add_assoc, le_refl, arith}
use Rattle.layout.specs.Layout.{first_marks}
use Rattle.layout.specs.Runs.{Run, run_marks, wide, narrow, wide_marks}
use Rattle.bounds.specs.Regions.{row_sum}

-- the sum of the entries of t dimensions, whose region numbers begin at a place, and whose entries at a place of the table, so many to a
-- dimension
unfoldable pub region_run : List ℕ → List ℕ → ℕ → ℕ → ℕ → ℕ → ℕ
region_run table regions from start stride zero = 0
region_run table regions from start stride (suc t) =
    region_run table regions from start stride t + slice_index table (start + t * stride + slice_index regions (from + t))

run_sum_lem : {d b before n w : ℕ} → Run d b before n w → (table regions : List ℕ) (i t : ℕ) → t ≤ n
    → row_sum d b table regions i (before + t)
    ≡ row_sum d b table regions i before + region_run table regions (i * d + before) (first_marks d b before) (2 ^ w + 1) t
unfolding row_sum region_run
run_sum_lem {d} {b} {before} run table regions i zero h = rw (add-zero before) (sym (add-zero (row_sum d b table regions i before)))
run_sum_lem {d} {before = before} run table regions i (suc t) h =
    rw (
      add-suc before t,
      run_sum_lem run table regions i t (omega arith),
      run_marks run t (omega arith),
      ← add_assoc (i * d) before t,
    )
    (omega arith)

-- the two runs of a row
pub two_region_runs : (d b : ℕ) → b / d ≤ 6 → b % d ≤ d → (table regions : List ℕ) (i : ℕ)
    → row_sum d b table regions i d
    ≡ region_run table regions (i * d) 0 (2 ^ (b / d + 1) + 1) (b % d)
    + region_run table regions (i * d + b % d) (b % d * (2 ^ (b / d + 1) + 1)) (2 ^ (b / d) + 1) (d - b % d)
unfolding first_marks row_sum
two_region_runs d b small within table regions i =
    let all : b % d + (d - b % d) ≡ d = omega arith in
    let run = region_run table regions (i * d) 0 (2 ^ (b / d + 1) + 1) (b % d) in
    let first : row_sum d b table regions i (0 + b % d) ≡ 0 + region_run table regions (i * d + 0) 0 (2 ^ (b / d + 1) + 1) (b % d) =
    run_sum_lem (wide d b small) table regions i (b % d) (le_refl (b % d)) in
    let wides = rw (zero-add (b % d), add-zero (i * d), zero-add run) at first in
    rw (← wide_marks d b small) (rw (all, wides) at (run_sum_lem (narrow d b small) table regions i (d - b % d) (le_refl (d - b % d))))
