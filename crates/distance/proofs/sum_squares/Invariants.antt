use Rattle.std.proofs.Common.{◌≡◌, ◌%◌, ◌^◌}
use Rattle.distance.specs.Distance.{first_squares}
use Rattle.distance.proofs.sum_squares.Given as goal

abbrev pub invariant-loop-number : goal.invariant-loop-number
invariant-loop-number l = l.sum ≡ first_squares l.numbers l.number-index % 2 ^ 64
