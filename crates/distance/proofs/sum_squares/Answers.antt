-- One square more.
use Rattle.std.proofs.Common.{refl, add-one}
use Rattle.distance.specs.Distance.{first_squares}
use Rattle.distance.proofs.Sum.{sum_more}
use Rattle.distance.proofs.sum_squares.Goals as goal

pub loop-number-init : goal.loop-number-init
unfolding first_squares
loop-number-init c = refl

pub loop-number-preserved : goal.loop-number-preserved
unfolding first_squares
loop-number-preserved c =
    let at = c.loop-number in
    rw (c.from-number.ensures, add-one) (sum_more (first_squares c.args.numbers.now at.number-index) _ refl at.invariant)
