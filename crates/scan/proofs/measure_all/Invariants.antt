-- the first i keys are the distances of the first i vectors
use Rattle.std.proofs.Common.{length}
use Rattle.distance.specs.Values.{values_from}
use Rattle.distance.proofs.Filling.{Filling}
use Rattle.scan.specs.Scanning.{distances_of}
use Rattle.scan.proofs.measure_all.Given as goal

abbrev pub invariant-loop-i : goal.invariant-loop-i
invariant-loop-i l = Filling (values_from (distances_of l.d l.factors l.query l.vectors) 0 (length l.initial.keys)) l.keys l.i
