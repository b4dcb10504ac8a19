use Rattle.std.proofs.Common.{◌-◌, length}
use Rattle.codes.proofs.PuttingRows.{Putting}
use Rattle.codes.proofs.put_rows.Given as goal

abbrev pub invariant-loop-i : goal.invariant-loop-i
invariant-loop-i l = Putting l.layout.d l.layout.b l.regions (length l.initial.codes) l.codes l.writer l.i

abbrev pub decreases-loop-i : goal.decreases-loop-i
decreases-loop-i l = length l.regions - l.i
