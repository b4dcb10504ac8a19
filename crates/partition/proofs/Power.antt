-- A dimension's number of regions, as a shift gives it: the shift loses nothing. Assumes nothing.
use mathlib.Core.Path.{◌≡◌}
use Prim.Native.Nat.{ℕ, ◌*◌, ◌%◌, ◌^◌, ◌≤◌}
use native.Mathlib.Omega.{arith}
use Rattle.limits.specs.Limits.{max_dimension_bits}
use Rattle.layout.specs.Laws as layout

pub shifted : (w : ℕ) → w ≤ max_dimension_bits → 1 * 2 ^ w % 2 ^ 64 ≡ 2 ^ w
shifted w few = layout.shifted w (omega arith)
