use Rattle.std.proofs.Common.{◌≡◌, true, ◌++◌, take, drop}
use Rattle.approximation.specs.Vectors.{vector_regions, regions_from, inside_from}
use Rattle.approximation.proofs.Stretches.{Begins}
use Rattle.approximation.proofs.locate_all.Given as goal

abbrev pub invariant-loop-i : goal.invariant-loop-i
invariant-loop-i l = record {
  begins_at : Begins l.layout.d l.layout.b l.column l.offset;
  inside : inside_from l.layout.d l.layout.b l.marks l.column (drop l.i l.vectors) ≡ true;
  so_far : take l.i l.regions ++ regions_from l.layout.d l.layout.b l.marks l.column (drop l.i l.vectors) ≡ vector_regions l.layout.d l.layout.b l.marks l.vectors;
}
