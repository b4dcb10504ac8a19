use Rattle.std.proofs.Common.{arith}
use Rattle.signed.proofs.ReadBack.{given}
use Rattle.library.specs.Library.{mark_at}
use Rattle.library.specs.Sizes.{stretch_bits, ends_at}
use Rattle.library.proofs.Filling.{ending_start, ending_next}
use Rattle.loading.proofs.check.read_ends.Goals as goal

pub loop-t-init : goal.loop-t-init
loop-t-init c = ending_start c.args.layout.d c.args.layout.b (mark_at c.args.bytes.now) c.args.lows.now c.args.highs.now

pub regions-requires : goal.regions-requires
regions-requires c = stretch_bits c.args.layout c.loop-t.t c.loop-t-test.true c.stretch-stretch.ensures.bits

pub overflow_add-last : goal.overflow_add-last
overflow_add-last c =
    let step = c.stretch-stretch.ensures in
    let ends = ends_at c.args.layout c.loop-t.t c.loop-t-test.true step.bits step.offset c.regions.ensures in
    omega (arith, ends.within, ends.small)

pub mark_at-requires : goal.mark_at-requires
mark_at-requires c =
    let step = c.stretch-stretch.ensures in
    let ends = ends_at c.args.layout c.loop-t.t c.loop-t-test.true step.bits step.offset c.regions.ensures in
    omega (arith, ends.within, ends.small)

pub mark_at-requires-in-loop-t : goal.mark_at-requires-in-loop-t
mark_at-requires-in-loop-t c =
    let step = c.stretch-stretch.ensures in
    let ends = ends_at c.args.layout c.loop-t.t c.loop-t-test.true step.bits step.offset c.regions.ensures in
    omega (arith, ends.within, ends.small)

pub loop-t-preserved : goal.loop-t-preserved
loop-t-preserved c =
    let args = c.args in
    let step = c.stretch-stretch.ensures in
    ending_next args.layout.d args.layout.b (mark_at args.bytes.now) args.lows.now args.highs.now c.loop-t.t c.requires.0 c.requires.1
    c.loop-t-test.true (ends_at args.layout c.loop-t.t c.loop-t-test.true step.bits step.offset c.regions.ensures)
    (given c.mark_at.type_inv c.mark_at.ensures) (given c.mark_at-in-loop-t.type_inv c.mark_at-in-loop-t.ensures) c.loop-t.invariant
