-- The causes that every record can have, whatever its kind (document 01, "When a call says no"). Assumes nothing.
use Rattle.std.specs.Prelude.{◌≡◌, Bool, true, not, List, [], ◌∷◌, ◌++◌, ℕ, ◌≤◌, eqb, ltb, length, Ok}
use Rattle.std.proofs.Common.{arith, ltb-false, le-ltb, ne_eqb, length-append}
use Rattle.std.proofs.lemmas.Bool.{not-false}
use Rattle.refusal.specs.declared.Refusal.TheVariants.{Kind, Truncated, Misplaced}
use Rattle.refusal.specs.First.{Row, ◌⇒◌, first, passed}
use Rattle.records.specs.Records.{is_kind, record_length, record_bytes, kind_of}
use Rattle.records.specs.RecordLaws.{record_length_lem}

-- "within one record: end of input before the kind, kind, place, end inside the body, then the body's own causes": the causes of the record
-- that bytes begin with, without the body's own; `placed` is whether its kind is one of those that this place is for
unfoldable pub frame_causes : Bool → List ℕ → List Row
frame_causes placed bytes =
    (eqb (length bytes) 0 ⇒ Truncated)
    ∷ (not (is_kind (kind_of bytes)) ⇒ Kind)
    ∷ (not placed ⇒ Misplaced)
    ∷ (ltb (length bytes) (record_length (kind_of bytes)) ⇒ Truncated)
    ∷ []

-- ---- laws

-- there is none exactly where the record is whole and in its place
pub record Framed (placed : Bool) (bytes : List ℕ) : Type 0 where
  pub known : is_kind (kind_of bytes) ≡ true
  pub there : placed ≡ true
  pub whole : record_length (kind_of bytes) ≤ length bytes

pub frame_passes : {placed : Bool} {bytes : List ℕ} → Framed placed bytes → first (frame_causes placed bytes) ≡ Ok tt
unfolding first frame_causes record_length
frame_passes {placed} {bytes} is =
    rw (
      ne_eqb (length bytes) 0 (λ e. omega (arith, is.whole)),
      is.known,
      is.there,
      le-ltb (length bytes) (record_length (kind_of bytes)) is.whole,
    )

pub framed : (placed : Bool) (bytes : List ℕ) → first (frame_causes placed bytes) ≡ Ok tt → Framed placed bytes
unfolding frame_causes
framed placed bytes accepted =
    let some = passed _ Truncated _ accepted in
    let kind = passed _ Kind _ some.rest in
    let place = passed _ Misplaced _ kind.rest in
    let body = passed _ Truncated _ place.rest in
    record {
      known = not-false _ kind.fails;
      there = not-false _ place.fails;
      whole = ltb-false _ _ body.fails;
    }

-- a record that is written is whole
pub record_framed : {placed : Bool} (kind : ℕ) (values rest : List ℕ) → is_kind kind ≡ true → placed ≡ true
    → Framed placed (record_bytes kind values ++ rest)
unfolding record_bytes
record_framed kind values rest known there =
    let size = length-append (record_bytes kind values) rest in
    record { known = known; there = there; whole = omega (arith, record_length_lem kind values) }
