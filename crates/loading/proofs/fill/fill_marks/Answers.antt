use Rattle.std.proofs.Common.{refl, arith}
use Rattle.signed.proofs.ReadBack.{given}
use Rattle.library.specs.Each.{each}
use Rattle.library.specs.Library.{mark_at}
use Rattle.library.proofs.Filling.{read_next}
use Rattle.loading.proofs.fill.fill_marks.Goals as goal

pub loop-i-init : goal.loop-i-init
unfolding each
loop-i-init c = refl

pub loop-i-preserved : goal.loop-i-preserved
loop-i-preserved c =
    read_next (mark_at c.args.bytes.now) c.loop-i.mark-items c.loop-i.i (omega arith) (given c.mark_at.type_inv c.mark_at.ensures)
    c.loop-i.invariant
