-- The stretch where the numbers are accepted, and where they are not. Assumes nothing.
use Rattle.std.proofs.Common.{◌≡◌, ℕ, sym, ◌∙◌, arith}
use Rattle.refusal.specs.First.{outcome_accepted, outcome_refused}
use Rattle.layout.specs.declared.Stretch.{Stretch}
use Rattle.layout.specs.Stretch.{stretch_of, numbered}
use Rattle.layout.proofs.stretch_of.Goals as goal

pub invariant_of-stretch : goal.invariant_of-stretch
invariant_of-stretch c =
    let shaped = (numbered _ _ _ (sym c.check_dimension.ensures ∙ c.in-Ok.is)).shaped in
    record { some = shaped.some; few = shaped.few; within = shaped.bits }

pub stretch-requires : goal.stretch-requires
stretch-requires c =
    let held = numbered c.args.d c.args.b c.args.j (sym c.check_dimension.ensures ∙ c.in-Ok.is) in
    (omega (arith, held.is), omega (arith, held.is, held.within))

-- a stretch, from its parts
made : {offset offset' bits bits' : ℕ} → offset ≡ offset' → bits ≡ bits'
    → ◌≡◌ {A = Stretch} (record { offset = offset; bits = bits }) (record { offset = offset'; bits = bits' })
made e f = λ i. record { offset = e i; bits = f i }

pub returns-in-Ok : goal.returns-in-Ok
unfolding stretch_of
returns-in-Ok c =
    made c.stretch.ensures.offset c.stretch.ensures.bits
    ∙ sym (outcome_accepted _ _ (sym c.check_dimension.ensures ∙ c.in-Ok.is))

pub returns-in-Err : goal.returns-in-Err
unfolding stretch_of
returns-in-Err c = sym (outcome_refused _ _ (sym c.check_dimension.ensures ∙ c.in-Err.is))
