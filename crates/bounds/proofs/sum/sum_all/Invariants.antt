-- the first i bounds are written
use Rattle.std.proofs.Common.{length}
use Rattle.distance.specs.Values.{values_from}
use Rattle.distance.proofs.Filling.{Filling}
use Rattle.table.specs.Table.{bound_sum}
use Rattle.bounds.proofs.sum.sum_all.Given as goal

abbrev pub invariant-loop-i : goal.invariant-loop-i
invariant-loop-i l = Filling (values_from (bound_sum l.layout.d l.layout.b l.table l.codes) 0 (length l.initial.bounds)) l.bounds l.i
