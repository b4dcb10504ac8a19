-- the walk through the dimensions passed, whose components lie between their marks
use Rattle.std.proofs.Common.{◌≡◌, true}
use Rattle.bounds.specs.Inside.{run_inside}
use Rattle.bounds.proofs.Walk.{Walk}
use Rattle.bounds.proofs.inside.run_inside.Given as goal

abbrev pub invariant-loop-component : goal.invariant-loop-component
invariant-loop-component l = record {
  walk : Walk l.codes l.w l.fn.first_bit l.fn.first_start l.fn.count l.buffer.bits l.buffer.count l.buffer.next l.start l.component-index;
  so_far : run_inside l.marks l.codes l.w l.fn.first_bit l.fn.first_start l.fn.vector l.component-index ≡ true;
}
