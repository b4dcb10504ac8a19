-- `put_numbers` meets its contract: the first i are written, and the rest is as it was. Assumes nothing.
use Rattle.std.proofs.Common.{◌≡◌, refl, arith}
use Rattle.least_reading.specs.Buffers.{put_next}
use Rattle.least_reading.proofs.put_numbers.Goals as goal

pub loop-i-preserved : goal.loop-i-preserved
loop-i-preserved c =
    let a = c.args in
    let at = c.loop-i in
    let next = put_next at.i a.numbers.now a.out.now at.out _ (omega (arith, c.requires.0)) (omega (arith, c.requires.1)) at.invariant refl in
    next.1

pub returns : goal.returns
returns c =
    let all : c.loop-i.i ≡ c.args.count = omega arith in
    rw all at c.loop-i.invariant
