use Rattle.std.proofs.Common.{◌∙◌, w16, arith}
use Rattle.std.proofs.lemmas.Int.{to_z-of_z}
use Rattle.signed.proofs.ReadBack.{given}
use Rattle.library.specs.Library.{stored_at}
use Rattle.loading.specs.ReadLaws.{component_below}
use Rattle.loading.proofs.values.component_at.Goals as goal

pub overflow_cast-component_bits : goal.overflow_cast-component_bits
overflow_cast-component_bits c =
    omega (arith, component_below c.args.bytes.now (λ i. omega (arith, c.type_inv.bytes i)) c.args.at c.args.t c.requires.1)

-- the number of 16 bits is the same at 32
pub returns : goal.returns
unfolding stored_at
returns c =
    given c.from.type_inv
    (c.from.ensures ∙ to_z-of_z w16 c.cast_signed.result (record { sfits = c.cast_signed.type_inv })
    ∙ rw c.component_bits.ensures at c.cast_signed.ensures)
