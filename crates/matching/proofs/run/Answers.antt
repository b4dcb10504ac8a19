-- The output has room for every text. Assumes nothing.
use Rattle.std.proofs.Common.{◌≡◌, sym, ap, ◌∙◌, not, [], ◌≤◌, ◌<◌, ◌^◌, ℕ, List, length, get_or, arith, eq-eqb, Ok, Err}
use Rattle.std.proofs.lemmas.Bool.{ne_eqb}
use Rattle.refusal.specs.declared.Refusal.TheVariants.{Length}
use Rattle.refusal.specs.First.{first, first_here, first_next, first_none, outcome_accepted, outcome_refused}
use Rattle.matching.specs.Match.{match_text, text_room, room_causes}
use Rattle.matching.specs.Room.{text_room_lem}
use Rattle.text.specs.Puts.{puts_front, front_fits}
use Rattle.matching.proofs.run.Goals as goal

pub returns-then-output-ne-TEXT_ROOM : goal.returns-then-output-ne-TEXT_ROOM
returns-then-output-ne-TEXT_ROOM c =
    let refused : first (room_causes (length c.args.output.now)) ≡ Err Length =
    first_here Length [] (ap not (ne_eqb _ text_room c.if-output-ne-TEXT_ROOM.true)) in
    record { value = sym (outcome_refused _ _ refused); output_after = sym (outcome_refused _ _ refused) }

-- an output of this length has room
room : (input output : List ℕ) → ((i : ℕ) → get_or input i 0 < 2 ^ 8) → length output ≡ text_room → length (match_text input) ≤ length output
room input output bytes size = rw size (text_room_lem input (λ i. omega (arith, bytes i)))

accepted : (output : List ℕ) → length output ≡ text_room → first (room_causes (length output)) ≡ Ok tt
accepted output size = first_next Length [] (ap not (eq-eqb _ text_room size)) ∙ first_none

pub match_input-length-requires-clause-input_in_bounds : goal.match_input-length-requires-clause-input_in_bounds
match_input-length-requires-clause-input_in_bounds c =
    room c.args.input.now c.args.output.now (λ i. omega (arith, c.type_inv.input i)) c.if-output-ne-TEXT_ROOM.false

pub returns-clause-value : goal.returns-clause-value
returns-clause-value c =
    ap Ok (puts_front c.match_input-length.ensures).0 ∙ sym (outcome_accepted _ _ (accepted c.args.output.now c.if-output-ne-TEXT_ROOM.false))

pub returns-clause-output_after : goal.returns-clause-output_after
returns-clause-output_after c =
    (puts_front c.match_input-length.ensures).1
    ∙ front_fits _ c.args.output.now
    (room c.args.input.now c.args.output.now (λ i. omega (arith, c.type_inv.input i)) c.if-output-ne-TEXT_ROOM.false)
    ∙ sym (outcome_accepted _ _ (accepted c.args.output.now c.if-output-ne-TEXT_ROOM.false))
