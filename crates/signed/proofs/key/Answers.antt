-- The sum as the code has it is the key, which no conversion changes. Assumes nothing.
use Rattle.std.proofs.Common.{◌≡◌, pos, ◌+ℤ◌, nat_abs, ap, arith, w64, to_z, of_z}
use Rattle.std.proofs.lemmas.Int.{ints}
use Rattle.signed.specs.Keys.{key_of, key_sum, key_fits}
use Rattle.signed.proofs.key.Goals as goal

pub returns : goal.returns
returns c =
    let z = c.args.z in
    let sum = key_sum z c.ranges.z.sfits in
    let fits = key_fits z c.ranges.z.sfits in
    let is : to_z w64 (of_z w64 (to_z w64 (of_z w64 c.from.result) +ℤ pos 2147483648)) ≡ pos (key_of z) = omega (arith, ints) in
    ap nat_abs is
