-- The sums over the region numbers that are unpacked from codes are the codes' bounds. Assumes nothing.
use Rattle.std.specs.Prelude.{◌≡◌, ℕ, zero, suc, ◌+◌, ◌%◌, ◌^◌, ◌<◌, ◌≤◌, List, Ok}
use Rattle.std.proofs.Math.Path.{refl, ap}
use Rattle.std.proofs.Common.{le_refl, arith}
use Rattle.refusal.specs.First.{first}
use Rattle.layout.specs.Stretch.{shape_causes, shape}
use Rattle.codes.specs.Codes.{unpacked}
use Rattle.codes.specs.PackLaws.{code_region_lem}
use Rattle.distance.specs.Values.{values_from}
use Rattle.table.specs.Table.{table_sum, bound_sum}
use Rattle.bounds.specs.Regions.{row_sum, region_sum}

module _ (d b n : ℕ) (table codes : List ℕ) where
  rows_sum : 0 < d → (i t : ℕ) → i < n → t ≤ d → row_sum d b table (unpacked d b n codes) i t ≡ table_sum d b table codes i t
  unfolding row_sum table_sum
  rows_sum some i zero row within = refl
  rows_sum some i (suc t) row within = rw (rows_sum some i t row (omega arith), code_region_lem d b n some codes i t row within)

  module _ (shaped : first (shape_causes d b) ≡ Ok tt) where
    -- the sum of row i is the bound of code i
    pub regions_bound : (i : ℕ) → i < n → region_sum d b table (unpacked d b n codes) i ≡ bound_sum d b table codes i
    unfolding region_sum bound_sum
    regions_bound i row = ap (λ (sum : ℕ). sum % 2 ^ 64) (rows_sum (shape d b shaped).some i d row (le_refl d))

    bounds_from : (i count : ℕ) → i + count ≤ n
        → values_from (region_sum d b table (unpacked d b n codes)) i count ≡ values_from (bound_sum d b table codes) i count
    unfolding values_from
    bounds_from i zero within = refl
    bounds_from i (suc count) within = rw (regions_bound i (omega arith), bounds_from (suc i) count (omega arith))

    -- the same of all rows
    pub regions_bounds : values_from (region_sum d b table (unpacked d b n codes)) 0 n ≡ values_from (bound_sum d b table codes) 0 n
    regions_bounds = bounds_from 0 n (omega arith)
