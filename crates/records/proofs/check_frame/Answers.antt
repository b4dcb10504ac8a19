use Rattle.std.proofs.Common.{◌≡◌, refl, sym, ◌∙◌, Bool, not, List, [], ◌∷◌, ℕ, ◌-◌, ◌<◌, ltb, length, get_or, drop, length-drop, arith, lt-ltb, le-ltb, ne_eqb}
use Rattle.refusal.specs.declared.Refusal.TheVariants.{Truncated, Misplaced}
use Rattle.refusal.specs.First.{◌⇒◌, first}
use Rattle.records.specs.declared.Kind.{Kind}
use Rattle.records.specs.Records.{record_length}
use Rattle.records.specs.RecordLaws.{kind_at}
use Rattle.records.specs.Kinds.{number_of, number_known}
use Rattle.records.specs.Frame.{frame_causes}
use Rattle.records.proofs.check_frame.Goals as goal

-- what is left to test of a record whose kind is known
left : (placed : Bool) (bytes : List ℕ) (at : ℕ) (kind : Kind) {byte size : ℕ} → at < length bytes → byte ≡ get_or bytes at 0
    → byte ≡ number_of kind → size ≡ record_length (number_of kind)
    → first (frame_causes placed (drop at bytes)) ≡ first ((not placed ⇒ Misplaced) ∷ (ltb (length bytes - at) size ⇒ Truncated) ∷ [])
unfolding first frame_causes
left placed bytes at kind within read is size_is =
    rw (length-drop at bytes, kind_at bytes at, ne_eqb (length bytes - at) 0 (λ e. omega arith), ← read, is, number_known kind, size_is)

pub returns-then-not-placed : goal.returns-then-not-placed
unfolding first
returns-then-not-placed c =
    sym (left c.args.placed c.args.bytes.now c.args.at c.in-Some.kind (omega arith) c.byte_at.ensures c.in-Some.ensures refl
    ∙ rw c.if-not-placed.true)

pub returns-then-bytes-at-2 : goal.returns-then-bytes-at-2
unfolding first
returns-then-bytes-at-2 c =
    sym (left c.args.placed c.args.bytes.now c.args.at c.in-Some.kind (omega arith) c.byte_at.ensures c.in-Some.ensures c.length.ensures
    ∙ rw (c.if-not-placed.false, lt-ltb _ _ c.if-bytes-at-2.true))

pub returns : goal.returns
unfolding first
returns c =
    sym (left c.args.placed c.args.bytes.now c.args.at c.in-Some.kind (omega arith) c.byte_at.ensures c.in-Some.ensures c.length.ensures
    ∙ rw (c.if-not-placed.false, le-ltb _ _ c.if-bytes-at-2.false))
