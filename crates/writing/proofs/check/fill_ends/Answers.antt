use Rattle.std.proofs.Common.{pos, get_or, arith}
use Rattle.signed.proofs.ReadBack.{given}
use Rattle.library.specs.Sizes.{stretch_bits, ends_at}
use Rattle.library.proofs.Filling.{ending_start, ending_next}
use Rattle.writing.proofs.check.fill_ends.Goals as goal

pub loop-t-init : goal.loop-t-init
loop-t-init c =
    ending_start c.args.layout.d c.args.layout.b (λ i. get_or c.args.marks.now i (pos 0)) c.args.lows.now c.args.highs.now

pub regions-requires : goal.regions-requires
regions-requires c = stretch_bits c.args.layout c.loop-t.t c.loop-t-test.true c.stretch-stretch.ensures.bits

pub overflow_add-last : goal.overflow_add-last
overflow_add-last c =
    let step = c.stretch-stretch.ensures in
    let ends = ends_at c.args.layout c.loop-t.t c.loop-t-test.true step.bits step.offset c.regions.ensures in
    omega (arith, ends.within, ends.small)

pub loop-t-preserved : goal.loop-t-preserved
loop-t-preserved c =
    let layout = c.args.layout in
    let step = c.stretch-stretch.ensures in
    ending_next layout.d layout.b (λ i. get_or c.args.marks.now i (pos 0)) c.args.lows.now c.args.highs.now c.loop-t.t
    c.requires.1
    c.requires.2
    c.loop-t-test.true (ends_at layout c.loop-t.t c.loop-t-test.true step.bits step.offset c.regions.ensures)
    (given c.at.type_inv c.at.ensures) (given c.at-in-loop-t.type_inv c.at-in-loop-t.ensures) c.loop-t.invariant
