use Rattle.std.proofs.Common.{refl, drop, arith}
use Rattle.signed.proofs.ReadBack.{given}
use Rattle.library.specs.Each.{each}
use Rattle.library.specs.Library.{stored_at}
use Rattle.library.proofs.Filling.{read_next}
use Rattle.loading.proofs.fill.fill_vector.Goals as goal

pub loop-t-init : goal.loop-t-init
unfolding each
loop-t-init c = refl

pub loop-t-preserved : goal.loop-t-preserved
loop-t-preserved c =
    read_next (stored_at (drop c.args.at c.args.bytes.now)) c.loop-t.component-items c.loop-t.t (omega arith)
    (given c.component_at.type_inv c.component_at.ensures) c.loop-t.invariant
