-- The ends so far stand in front of what is kept. Assumes nothing.
use Rattle.std.proofs.Common.{pos, get_or}
use Rattle.library.proofs.Filling.{Ending}
use Rattle.writing.proofs.check.fill_ends.Given as goal

abbrev pub invariant-loop-t : goal.invariant-loop-t
invariant-loop-t l = Ending l.layout.d l.layout.b (λ i. get_or l.marks i (pos 0)) l.fn.lows l.fn.highs l.lows l.highs l.t
