-- The entries are the regions', one by one.
use Rattle.std.proofs.Common.{◌≡◌, ℕ, ◌+◌, length, ap, sym, ◌∙◌, w32, arith}
use Rattle.std.proofs.lemmas.Grind.{same_number_lists}
use Rattle.std.proofs.lemmas.Int.{to_z-of_z}
use Rattle.step.specs.Step.{weighed_word, step_of}
use Rattle.distance.specs.Bounds.{step_to}
use Rattle.table.specs.Table.{steps_from}
use Rattle.table.specs.TableLaws.{length_steps, step_at_lem}
use Rattle.table.proofs.fill_steps.Goals as goal

pub returns : goal.returns
returns c =
    let a = c.args in
    let n = length a.steps.now in
    let step = step_of a.bound in
    let entry = λ (k : ℕ). weighed_word a.factor (step_to step a.q a.marks.now k) in
    same_number_lists c.loop-r.steps (steps_from step a.factor a.q a.marks.now 0 n) (omega (arith, length_steps step a.factor a.q a.marks.now 0 n))
    (λ k within.
    let number : 0 + k ≡ k = omega arith in
    (rw (to_z-of_z w32 a.q c.ranges.q) at (c.loop-r.invariant k (omega arith))) ∙ sym (step_at_lem step a.factor a.q a.marks.now 0 n k (omega arith) ∙ ap entry number))
