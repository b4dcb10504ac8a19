use Rattle.std.proofs.Common.{sym, ◌∙◌}
use Rattle.refusal.specs.First.{first_none, handed_on}
use Rattle.library.specs.Each.{each}
use Rattle.library.specs.EachLaws.{each_more, each_stops}
use Rattle.loading.specs.Load.{mark_causes}
use Rattle.loading.proofs.check.check_dimension.Goals as goal

pub loop-i-init : goal.loop-i-init
unfolding each
loop-i-init c = first_none

pub returns-in_err-check_mark : goal.returns-in_err-check_mark
returns-in_err-check_mark c =
    handed_on c.from_residual.ensures.1
    ∙ sym (each_stops c.args.count (mark_causes c.args.bytes.now c.args.from) c.loop-i.i c.loop-i-test.true c.loop-i.invariant
    (sym c.in_err-check_mark.ensures))

pub loop-i-preserved : goal.loop-i-preserved
loop-i-preserved c =
    each_more c.loop-i.i (mark_causes c.args.bytes.now c.args.from) c.loop-i.invariant (sym c.in_ok-check_mark.ensures)
