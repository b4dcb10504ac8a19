-- the ends so far are read
use Rattle.library.specs.Library.{mark_at}
use Rattle.library.proofs.Filling.{Ending}
use Rattle.loading.proofs.check.read_ends.Given as goal

abbrev pub invariant-loop-t : goal.invariant-loop-t
invariant-loop-t l = Ending l.layout.d l.layout.b (mark_at l.bytes) l.fn.lows l.fn.highs l.lows l.highs l.t
