use Rattle.std.proofs.Common.{◌≡◌}
use Rattle.std.proofs.Math.Seq.{paste}
use Rattle.updating.proofs.copying.put.Given as goal

-- the first i elements are copied to their place
abbrev pub invariant-loop-i : goal.invariant-loop-i
invariant-loop-i g l = l.out ≡ paste l.fn.out l.at l.from l.i
