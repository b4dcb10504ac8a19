-- The front of the table, up to the stretch of a dimension, is the table of the dimensions before it.
use Rattle.std.proofs.Common.{arith}
use Rattle.step.specs.Step.{step_of}
use Rattle.step.proofs.Read.{read_back}
use Rattle.table.specs.Filling.{place, filled_none, filled_next}
use Rattle.table.proofs.fill_dimensions.Goals as goal

pub loop-t-init : goal.loop-t-init
loop-t-init c = filled_none _ _ _ _ _ _ _ c.requires.1

pub overflow_shl-end : goal.overflow_shl-end
overflow_shl-end c =
    let here = place c.args.layout c.loop-t-test.true c.stretch-stretch.ensures.offset c.stretch-stretch.ensures.bits in
    omega (arith, here.few)

pub overflow_add-end : goal.overflow_add-end
overflow_add-end c =
    let here = place c.args.layout c.loop-t-test.true c.stretch-stretch.ensures.offset c.stretch-stretch.ensures.bits in
    omega (arith, here)

pub overflow_add-end-in-loop-t : goal.overflow_add-end-in-loop-t
overflow_add-end-in-loop-t c =
    let here = place c.args.layout c.loop-t-test.true c.stretch-stretch.ensures.offset c.stretch-stretch.ensures.bits in
    omega (arith, here)

pub offset_bounds-factors-t : goal.offset_bounds-factors-t
offset_bounds-factors-t c = omega (arith, c.args.layout.few)

pub bounds-factors-t : goal.bounds-factors-t
bounds-factors-t c = omega (arith, c.args.layout.few)

pub offset_bounds-marks-start : goal.offset_bounds-marks-start
offset_bounds-marks-start c =
    let here = place c.args.layout c.loop-t-test.true c.stretch-stretch.ensures.offset c.stretch-stretch.ensures.bits in
    omega (arith, here)

pub slice_bounds-fill_steps-end : goal.slice_bounds-fill_steps-end
slice_bounds-fill_steps-end c =
    let here = place c.args.layout c.loop-t-test.true c.stretch-stretch.ensures.offset c.stretch-stretch.ensures.bits in
    omega (arith, here, c.requires.0, c.loop-t.invariant.room)

pub loop-t-preserved : goal.loop-t-preserved
loop-t-preserved c =
    let a = c.args in
    let component = read_back (record { sfits = c.at.type_inv }) c.at.ensures in
    let entries = rw component at c.fill_steps.ensures in
    filled_next (step_of a.bound) a.layout.d a.layout.b a.marks.now a.factors a.query.now _ (place c.args.layout c.loop-t-test.true c.stretch-stretch.ensures.offset c.stretch-stretch.ensures.bits)
    c.loop-t-test.true entries c.loop-t.invariant
