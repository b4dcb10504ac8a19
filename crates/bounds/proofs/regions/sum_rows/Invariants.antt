-- the first i bounds are written
use Rattle.std.proofs.Common.{length}
use Rattle.distance.specs.Values.{values_from}
use Rattle.distance.proofs.Filling.{Filling}
use Rattle.bounds.specs.Regions.{region_sum}
use Rattle.bounds.proofs.regions.sum_rows.Given as goal

abbrev pub invariant-loop-i : goal.invariant-loop-i
invariant-loop-i l = Filling (values_from (region_sum l.fn.layout.d l.fn.layout.b l.table l.regions) 0 (length l.initial.bounds)) l.bounds l.i
