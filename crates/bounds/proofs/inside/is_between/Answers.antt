use Rattle.std.proofs.Common.{arith}
use Rattle.std.proofs.lemmas.Int.{ints, to_z-of_z}
use Rattle.cells.specs.CellLaws.{between}
use Rattle.bounds.proofs.inside.is_between.Goals as goal

pub returns : goal.returns
unfolding between
returns c = grind (arith, ints, to_z-of_z)
