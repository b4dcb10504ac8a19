use Rattle.std.proofs.Common.{◌-◌, length}
use Rattle.codes.proofs.TakingRows.{Taking}
use Rattle.codes.proofs.take_rows.Given as goal

abbrev pub invariant-loop-i : goal.invariant-loop-i
invariant-loop-i l = Taking l.layout.d l.layout.b l.codes l.regions (length l.initial.regions) l.from l.i

abbrev pub decreases-loop-i : goal.decreases-loop-i
decreases-loop-i l = length l.initial.regions - l.i
