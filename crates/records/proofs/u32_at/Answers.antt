use Rattle.std.proofs.Common.{ℕ, ◌+◌, ◌<◌, List, drop, arith}
use Rattle.records.specs.Bytes.{from_low_first, AreBytes}
use Rattle.records.specs.ByteLaws.{from_below, bytes_drop}
use Rattle.records.proofs.u32_at.Goals as goal

-- half of the bytes is a number of two bytes
half : (bytes : List ℕ) (at : ℕ) → AreBytes bytes → from_low_first 2 (drop at bytes) < 65536
half bytes at are = from_below 2 (drop at bytes) (bytes_drop at bytes are)

pub overflow_mul-result : goal.overflow_mul-result
overflow_mul-result c = omega (arith, half c.args.bytes.now (c.args.at + 2) (λ i. omega (arith, c.type_inv.bytes i)))

pub overflow_add-result : goal.overflow_add-result
overflow_add-result c =
    let are : AreBytes c.args.bytes.now = λ i. omega (arith, c.type_inv.bytes i) in
    omega (arith, half c.args.bytes.now c.args.at are, half c.args.bytes.now (c.args.at + 2) are)
