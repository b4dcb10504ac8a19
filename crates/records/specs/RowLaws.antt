-- Rows one behind the other: nothing refuses exactly where nothing of either does. Assumes nothing.
use Rattle.std.specs.Prelude.{◌≡◌, List, ◌++◌, Ok, Err, IsErrAnd}
use Rattle.std.proofs.Common.{sym, ◌∙◌}
use Rattle.refusal.specs.declared.Refusal.{Refusal}
use Rattle.refusal.specs.Refusal.{Verdict}
use Rattle.refusal.specs.First.{Row, first, handed_on, outcome_accepted, outcome_refused, first_append, accepted_front, accepted_behind}

module _ (rows more : List Row) where
  pub go_on : first rows ≡ Ok tt → first (rows ++ more) ≡ first more
  go_on accepted = first_append rows more ∙ outcome_accepted _ _ accepted

  pub stop : {cause : Refusal} → first rows ≡ Err cause → first (rows ++ more) ≡ Err cause
  stop refused = first_append rows more ∙ outcome_refused _ _ refused

  -- what a `?` hands on of the rows in front
  pub handed_stop : {answer : Verdict} {cause : Refusal} → IsErrAnd answer (λ other. other ≡ cause) → Err cause ≡ first rows
      → answer ≡ first (rows ++ more)
  handed_stop handed refused = handed_on handed ∙ sym (stop (sym refused))

pub record Both (rows more : List Row) : Type 0 where
  pub front : first rows ≡ Ok tt
  pub back : first more ≡ Ok tt

pub both : (rows more : List Row) → first (rows ++ more) ≡ Ok tt → Both rows more
both rows more accepted = record { front = accepted_front rows more accepted; back = accepted_behind rows more accepted }
