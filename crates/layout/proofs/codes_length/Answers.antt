-- The length where the numbers are accepted, and where they are not. Assumes nothing.
use Rattle.std.proofs.Common.{sym, ◌∙◌}
use Rattle.refusal.specs.First.{outcome_accepted, outcome_refused}
use Rattle.layout.specs.Stretch.{codes_length}
use Rattle.layout.proofs.codes_length.Goals as goal

pub returns-in-Ok : goal.returns-in-Ok
unfolding codes_length
returns-in-Ok c =
    let made = c.in-Ok.ensures.ok in
    c.codes_length.ensures
    ∙ rw made.1 (sym (outcome_accepted _ _ made.2 ∙ rw (← c.is_vector_count.ensures, c.if-is_vector_count.true)))

pub returns-in_default : goal.returns-in_default
unfolding codes_length
returns-in_default c =
    sym (outcome_accepted _ _ c.in-Ok.ensures.ok.2 ∙ rw (← c.is_vector_count.ensures, c.if-is_vector_count.false))

pub returns-in_default-2 : goal.returns-in_default-2
unfolding codes_length
returns-in_default-2 c = sym (outcome_refused _ _ c.in_default.ensures.err)
