use Rattle.std.proofs.Common.{◌≡◌, drop}
use Rattle.approximation.specs.Vectors.{vectors_inside, inside_from}
use Rattle.approximation.proofs.Stretches.{Begins}
use Rattle.approximation.proofs.vectors_inside.Given as goal

abbrev pub invariant-loop-z : goal.invariant-loop-z
invariant-loop-z l = record {
  begins_at : Begins l.layout.d l.layout.b l.column l.offset;
  rest_decides : vectors_inside l.layout.d l.layout.b l.marks l.vectors ≡ inside_from l.layout.d l.layout.b l.marks l.column (drop l.z-index l.vectors);
}
