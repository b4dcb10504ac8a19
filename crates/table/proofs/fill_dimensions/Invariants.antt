use Rattle.step.specs.Step.{step_of}
use Rattle.table.specs.Filling.{Filled}
use Rattle.table.proofs.fill_dimensions.Given as goal

abbrev pub invariant-loop-t : goal.invariant-loop-t
invariant-loop-t l = Filled (step_of l.bound) l.layout.d l.layout.b l.marks l.factors l.query l.table l.t
