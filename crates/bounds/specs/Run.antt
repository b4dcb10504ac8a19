-- A code's sum by runs of dimensions that have as many bits: first those with one bit more, then the others. Assumes nothing.
use Rattle.std.specs.Prelude.{◌≡◌, ℕ, zero, suc, ◌+◌, ◌-◌, ◌*◌, ◌/◌, ◌%◌, ◌^◌, ◌≤◌, List, slice_index}
use Rattle.std.proofs.Common.{sym, add-zero, zero-add, add-suc, le_refl, arith}
use Rattle.layout.specs.Layout.{first_bits, first_marks}
use Rattle.layout.specs.Runs.{Run, run_marks, wide, narrow, wide_bits, wide_marks}
use Rattle.codes.specs.Bits.{bits_at}
use Rattle.codes.specs.PackLaws.{run_region}
use Rattle.table.specs.Table.{table_sum}

-- the sum of the entries of t dimensions of w bits, whose region numbers begin at a bit of the codes, and whose entries at a place of
-- the table
unfoldable pub run_sum : List ℕ → List ℕ → ℕ → ℕ → ℕ → ℕ → ℕ
run_sum table codes w bit start zero = 0
run_sum table codes w bit start (suc t) =
    run_sum table codes w bit start t + slice_index table (start + t * (2 ^ w + 1) + bits_at codes (bit + t * w) w)

run_sum_lem : {d b before n w : ℕ} → Run d b before n w → (table codes : List ℕ) (i t : ℕ) → t ≤ n
    → table_sum d b table codes i (before + t)
    ≡ table_sum d b table codes i before + run_sum table codes w (i * b + first_bits d b before) (first_marks d b before) t
unfolding table_sum run_sum
run_sum_lem {d} {b} {before} run table codes i zero h = rw (add-zero before) (sym (add-zero (table_sum d b table codes i before)))
run_sum_lem {before = before} run table codes i (suc t) h =
    rw (
      add-suc before t,
      run_sum_lem run table codes i t (omega arith),
      run_marks run t (omega arith),
      run_region run codes i t h,
    )
    (omega arith)

-- the two runs of a code
pub two_runs : (d b : ℕ) → b / d ≤ 6 → b % d ≤ d → (table codes : List ℕ) (i : ℕ)
    → table_sum d b table codes i d
    ≡ run_sum table codes (b / d + 1) (i * b) 0 (b % d)
    + run_sum table codes (b / d) (i * b + b % d * (b / d + 1)) (b % d * (2 ^ (b / d + 1) + 1)) (d - b % d)
unfolding first_bits first_marks table_sum
two_runs d b small within table codes i =
    let all : b % d + (d - b % d) ≡ d = omega arith in
    let first : table_sum d b table codes i (0 + b % d) ≡ 0 + run_sum table codes (b / d + 1) (i * b + 0) 0 (b % d) =
    run_sum_lem (wide d b small) table codes i (b % d) (le_refl (b % d)) in
    let wides = rw (zero-add (b % d), add-zero (i * b), zero-add (run_sum table codes (b / d + 1) (i * b) 0 (b % d))) at first in
    rw (← wide_bits d b small, ← wide_marks d b small)
    (rw (all, wides) at (run_sum_lem (narrow d b small) table codes i (d - b % d) (le_refl (d - b % d))))
