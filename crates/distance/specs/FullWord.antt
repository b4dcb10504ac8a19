-- The full word gives each dimension the factor 1, and is never refused (document 02, Slip 1). Assumes nothing.
use Rattle.std.specs.Prelude.{◌≡◌, ℕ, ◌≤◌, List, ◌++◌, Err}
use Rattle.std.proofs.Common.{sym, ap, ◌∙◌, arith}
use Rattle.refusal.specs.Refusal.{Verdict}
use Rattle.refusal.specs.First.{Row, first, outcome, first_append, outcome_accepted}
use Rattle.limits.specs.Limits.{max_dimensions}
use Rattle.presence.specs.Presence.{factors_of, full_word, word_causes}
use Rattle.presence.specs.PresenceLaws.{factor_at_lem, full_factor, full_passes}
use Rattle.distance.specs.Full.{Full}

module _ (d : ℕ) (few : d ≤ max_dimensions) where
  pub word_full : Full (factors_of (full_word d)) d
  word_full = record { each = λ t h. factor_at_lem (full_word d) t (omega arith) ∙ full_factor d t h }

  -- what stands before and behind the causes of the full word is left
  pub full_word_left : (before after : List Row) → first (before ++ (word_causes d (full_word d) ++ after)) ≡ first (before ++ after)
  full_word_left before after =
      let none : first (word_causes d (full_word d) ++ after) ≡ first after =
      first_append (word_causes d (full_word d)) after ∙ outcome_accepted _ _ (full_passes d few) in
      first_append before (word_causes d (full_word d) ++ after)
      ∙ ap (λ (v : Verdict). outcome (first before) v Err) none
      ∙ sym (first_append before after)
