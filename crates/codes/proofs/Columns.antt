-- The columns of rows of region numbers: their fewest bits are within the limit, and the next one is one of them. Assumes nothing.
use mathlib.Core.Path.{◌≡◌, refl}
use mathlib.Core.Bool.{Bool, true, false, cond}
use Prim.Native.Nat.{ℕ, suc, ◌/◌, ◌≤◌, ◌<◌}
use native.Mathlib.Omega.{arith}
use borrow.Author.Tests.{eqb-false}
use lib.Dec.{eqb}
use Rattle.limits.specs.Limits.{max_dimension_bits}
use Rattle.layout.specs.declared.Layout.{Layout}
use Rattle.layout.specs.Laws.{fewest_le}
use Rattle.layout.specs.Stretch.{Shape}
use Rattle.codes.specs.Codes.{next_column}

-- what a layout is
pub shape_of : (l : Layout) → Shape l.d l.b
shape_of l = record { some = l.some; few = l.few; bits = l.within }

pub fewest : {d b : ℕ} → Shape d b → b / d ≤ max_dimension_bits
fewest {d} {b} shaped = fewest_le max_dimension_bits d b shaped.bits

pub next_below : (d t : ℕ) → t < d → next_column d t < d
next_below d t within = go (eqb (suc t) d) refl
  where
    go : (e : Bool) → eqb (suc t) d ≡ e → cond e 0 (suc t) < d
    go true e = omega arith
    go false e = omega (arith, eqb-false (suc t) d e)
