use Rattle.std.proofs.Common.{◌≡◌, ℕ, ◌<◌, get_or}
use Rattle.step.specs.Step.{weighed_word, step_of}
use Rattle.distance.specs.Bounds.{step_to}
use Rattle.table.proofs.fill_steps.Given as goal

abbrev pub invariant-loop-r : goal.invariant-loop-r
invariant-loop-r l = (k : ℕ) → k < l.r → get_or l.steps k 0 ≡ weighed_word l.factor (step_to (step_of l.bound) l.q l.marks k)
