use Rattle.std.proofs.Common.{◌≡◌, ◌++◌, take, drop}
use Rattle.least_reading.proofs.put_numbers.Given as goal

-- the first i are written, and the rest is as it was
abbrev pub invariant-loop-i : goal.invariant-loop-i
invariant-loop-i l = l.out ≡ take l.i l.numbers ++ drop l.i l.fn.out
