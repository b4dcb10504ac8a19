-- The value before a mark has the key before the mark's. Assumes nothing.
use Rattle.std.proofs.Common.{arith}
use Rattle.signed.proofs.ReadBack.{key_back}
use Rattle.step.specs.Places.{gap_key_pred}
use Rattle.step.proofs.gap_to_last.Goals as goal

pub overflow_add-key : goal.overflow_add-key
overflow_add-key c = omega (arith, key_back c.ranges.q c.key.ensures)

pub returns : goal.returns
returns c =
    let q = key_back c.ranges.q c.key.ensures in
    let high = key_back c.ranges.high c.key-2.ensures in
    omega (arith, c.abs_diff.ensures, gap_key_pred c.args.q c.args.high c.ranges.q.sfits c.ranges.high.sfits)
