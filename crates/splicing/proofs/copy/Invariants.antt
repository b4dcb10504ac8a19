use Rattle.std.proofs.Common.{◌≡◌, ◌++◌, take, drop}
use Rattle.splicing.proofs.copy.Given as goal

-- the first i bytes are copied, and the rest is as it was
abbrev pub invariant-loop-i : goal.invariant-loop-i
invariant-loop-i l = l.out ≡ take l.i l.front ++ drop l.i l.fn.out
