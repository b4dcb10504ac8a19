-- `write_vector` meets its contract: the values of the record, one behind the other. Assumes nothing.
use Rattle.std.proofs.Common.{◌≡◌, ◌∙◌, ℕ, ◌+◌, ◌-◌, ◌*◌, ℤ, pos, get_or, take, of_z, arith}
use Rattle.std.specs.Int.{w16}
use Rattle.limits.specs.Limits.{max_dimensions}
use Rattle.library.specs.Each.{tabulate}
use Rattle.library.specs.EachLaws.{tabulate_length}
use Rattle.library.specs.Sizes.{vector_length}
use Rattle.writing.specs.WriteLaws.{four_parts, vector_parts, joined_beyond}
use Rattle.writing.proofs.put.write_vector.Goals as goal

pub put_byte-requires : goal.put_byte-requires
put_byte-requires c = omega (arith, vector_length, c.requires.0)

pub put_quad-requires : goal.put_quad-requires
put_quad-requires c = omega (arith, vector_length, c.requires.0)

pub write_stored-requires : goal.write_stored-requires
write_stored-requires c = (omega (arith, vector_length, c.requires.0, c.requires.1.few), c.requires.1)

pub write_zeros-requires : goal.write_zeros-requires
write_zeros-requires c = (omega (arith, c.requires.1.few), omega (arith, vector_length, c.requires.0))

pub returns : goal.returns
returns c =
    let at = c.args.at in
    let component : ℕ → ℤ = λ t. get_or c.args.components.now (c.args.from + t) (pos 0) in
    let stored = tabulate c.args.d (λ t. of_z w16 (component t)) in
    let count : at + 69 - (at + 5 + 2 * c.args.d) ≡ 2 * (max_dimensions - c.args.d) = omega (arith, c.requires.1.few) in
    let size = tabulate_length c.args.d (λ t. of_z w16 (component t)) in
    let beyond = rw size at (joined_beyond max_dimensions stored (rw size c.requires.1.few)) in
    let before : at + 1 + 4 ≡ at + 5 = omega arith in
    let parts = vector_parts c.args.d c.args.settings component in
    let settings = rw (before, c.from.ensures) at c.put_quad.ensures in
    rw vector_length
    (four_parts (take at c.args.bytes.now) _ _ _ _ c.put_byte.ensures settings c.write_stored.ensures
    c.write_zeros.ensures ∙ rw (count, ← beyond, parts))
