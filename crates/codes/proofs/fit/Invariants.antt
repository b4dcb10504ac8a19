-- the greatest so far, and the numbers behind, decide
use Rattle.std.proofs.Common.{◌≡◌, ◌&&◌, ◌^◌, ltb, drop}
use Rattle.codes.specs.Fields.{all_below}
use Rattle.codes.proofs.fit.Given as goal

abbrev pub invariant-loop-number : goal.invariant-loop-number
invariant-loop-number l = all_below (2 ^ l.w) l.numbers ≡ ltb l.greatest (2 ^ l.w) && all_below (2 ^ l.w) (drop l.number-index l.numbers)
