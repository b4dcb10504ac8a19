-- The output has room, and the text of the bytes read is that of what they were read of. Assumes nothing.
use Rattle.std.specs.Prelude.{Result, Ok, is_ok}
use Rattle.std.proofs.Common.{◌≡◌, sym, ap, ◌∙◌, not, List, [], ℕ, eq-eqb}
use Rattle.refusal.specs.declared.Refusal.{Refusal}
use Rattle.refusal.specs.declared.Refusal.TheVariants.{Length}
use Rattle.refusal.specs.First.{first, first_next, first_none, outcome_accepted}
use Rattle.loading.specs.Load.{filled}
use Rattle.matching.specs.Match.{match_text, text_room, room_causes, printed}
use Rattle.matching.specs.Longest.{Front, prints_read}
use Rattle.kit.proofs.print.Goals as goal

-- an output of the right length is not refused
accepted : {room : ℕ} → room ≡ text_room → first (room_causes room) ≡ Ok tt
accepted {room} right = first_next Length [] (ap not (eq-eqb room text_room right)) ∙ first_none

-- so its front is the text
front : {room : ℕ} (text before : List ℕ) {after : List ℕ} {size : ℕ} → room ≡ text_room → Ok size ≡ printed (first (room_causes room)) text
    → after ≡ filled (first (room_causes room)) text before → Front text before after size
front text before right told left =
    record { is = left ∙ outcome_accepted _ _ (accepted right); size = same (told ∙ outcome_accepted _ _ (accepted right)) }
  where
    same : {m n : ℕ} → ◌≡◌ {A = Result ℕ Refusal} (Ok m) (Ok n) → m ≡ n
    same e = cc

pub unwrap-requires : goal.unwrap-requires
unwrap-requires c = ap is_ok (c.run.ensures.value ∙ outcome_accepted _ _ (accepted c.requires.2))

pub returns : goal.returns
returns c =
    prints_read (front (match_text _) _ c.requires.2 (sym c.unwrap.ensures ∙ c.run.ensures.value) c.run.ensures.output_after)
