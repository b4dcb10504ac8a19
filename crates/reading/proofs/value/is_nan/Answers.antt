-- `is_nan` meets its contract: the second test is made where the first holds. Assumes nothing.
use Prim.Native.Nat.{◌/◌, ◌%◌, ◌^◌}
use borrow.Author.Tests.{ne_eqb}
use lib.Ieee.{nan_bits}
use Rattle.reading.proofs.value.is_nan.Goals as goal

pub returns-then-bits-eq-SPECIAL : goal.returns-then-bits-eq-SPECIAL
unfolding nan_bits
returns-then-bits-eq-SPECIAL c = rw c.if-bits-eq-SPECIAL.true

pub returns-else-bits-eq-SPECIAL : goal.returns-else-bits-eq-SPECIAL
unfolding nan_bits
returns-else-bits-eq-SPECIAL c = rw (ne_eqb (c.args.bits % 2 ^ 31 / 2 ^ 23) 255 c.if-bits-eq-SPECIAL.false)
