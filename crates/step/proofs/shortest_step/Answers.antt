-- The value before a mark is below q exactly if the mark is at most q. Assumes nothing.
use Rattle.std.proofs.Common.{arith, w32, ◌∙◌}
use Rattle.std.proofs.lemmas.Int.{to_z-of_z}
use Rattle.step.specs.Step.{shortest}
use Rattle.step.specs.Order.{pred_lt}
use Rattle.step.proofs.shortest_step.Goals as goal

pub returns-then-q-low : goal.returns-then-q-low
unfolding shortest
returns-then-q-low c =
    let q = to_z-of_z w32 c.args.q c.ranges.q in
    let low = to_z-of_z w32 c.args.low c.ranges.low in
    let below = rw (q, low) at c.if-q-low.true in
    (rw below (c.from.ensures ∙ rw (q, low) at c.abs_diff.ensures), omega (arith, c.from.ensures, c.abs_diff.type_inv))

pub returns-then-high-q : goal.returns-then-high-q
unfolding shortest
returns-then-high-q c =
    let q = to_z-of_z w32 c.args.q c.ranges.q in
    let low = to_z-of_z w32 c.args.low c.ranges.low in
    let high = to_z-of_z w32 c.args.high c.ranges.high in
    let below = rw (q, low) at c.if-q-low.false in
    let above = rw (q, high) at c.if-high-q.true in
    (rw (below, pred_lt c.args.high c.args.q, above) (rw (q, high) at c.gap_to_last.ensures.0), c.gap_to_last.ensures.1)

pub returns : goal.returns
unfolding shortest
returns c =
    let q = to_z-of_z w32 c.args.q c.ranges.q in
    let low = to_z-of_z w32 c.args.low c.ranges.low in
    let high = to_z-of_z w32 c.args.high c.ranges.high in
    let below = rw (q, low) at c.if-q-low.false in
    let above = rw (q, high) at c.if-high-q.false in
    (rw (below, pred_lt c.args.high c.args.q, above), omega arith)
