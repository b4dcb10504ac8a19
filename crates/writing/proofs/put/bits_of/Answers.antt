-- `bits_of` meets its contract: a key has 32 bits, so that the sum has no more than 33. Assumes nothing.
use Rattle.std.proofs.Common.{◌≡◌, ap, ◌∙◌, w32, arith}
use Rattle.std.proofs.lemmas.Int.{to_z-of_z}
use Rattle.signed.specs.Keys.{key_of, key_fits}
use Rattle.writing.proofs.put.bits_of.Goals as goal

pub overflow_add-result : goal.overflow_add-result
overflow_add-result c =
    let is : c.key.result ≡ key_of c.args.z = c.key.ensures ∙ ap key_of (to_z-of_z w32 c.args.z c.ranges.z) in
    omega (arith, key_fits c.args.z c.ranges.z.sfits)
