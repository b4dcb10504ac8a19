-- The length where the numbers are accepted, and where they are not. Assumes nothing.
use Rattle.std.proofs.Common.{sym, ◌∙◌}
use Rattle.refusal.specs.First.{outcome_refused}
use Rattle.layout.specs.Stretch.{marks_length, marks_length_is}
use Rattle.layout.proofs.marks_length.Goals as goal

pub returns-in-Ok : goal.returns-in-Ok
returns-in-Ok c =
    let made = c.in-Ok.ensures.ok in
    c.marks_length.ensures ∙ rw (made.0, made.1) (sym (marks_length_is _ _ made.2))

pub returns-in-Err : goal.returns-in-Err
unfolding marks_length
returns-in-Err c = sym (outcome_refused _ _ c.in-Err.ensures.err)
