-- The bits of two numbers together are few where those of each are. Assumes nothing.
use Rattle.std.proofs.Common.{◌≡◌, ℕ, ◌^◌, Bool, true, false, ◌&&◌, ltb, get_or, pos, sym, refl, ◌∙◌, add-one, arith, drop_of_length-le, drop-cons, w32, ltb-false, ltb-true, le-ltb, lt-ltb, rules}
use mathlib.Core.Bool.{and-true, and_assoc}
use lib.Bits.{bit_or, or_lt, or_add_and, and_le_l, and_le_r}
use mir.Val.{to_z, of_z}
use Rattle.signed.specs.Components.{are_components}
use Rattle.signed.proofs.components.are_components.Goals as goal

or_few : (k a b : ℕ) → ltb (bit_or a b) (2 ^ k) ≡ ltb a (2 ^ k) && ltb b (2 ^ k)
or_few k a b = go (ltb a (2 ^ k)) refl (ltb b (2 ^ k)) refl
  where
    go : (s : Bool) → ltb a (2 ^ k) ≡ s → (t : Bool) → ltb b (2 ^ k) ≡ t → ltb (bit_or a b) (2 ^ k) ≡ s && t
    go true ea true eb = lt-ltb (bit_or a b) (2 ^ k) (or_lt k a b (ltb-true a (2 ^ k) ea) (ltb-true b (2 ^ k) eb))
    go true ea false eb = le-ltb (bit_or a b) (2 ^ k) (omega (arith, ltb-false b (2 ^ k) eb, or_add_and a b, and_le_l a b))
    go false ea t eb = le-ltb (bit_or a b) (2 ^ k) (omega (arith, ltb-false a (2 ^ k) ea, or_add_and a b, and_le_r a b))

pub loop-z-preserved : goal.loop-z-preserved
unfolding are_components
loop-z-preserved c =
    let i = c.loop-z.z-index in
    let back : to_z w32 (of_z w32 (get_or c.args.s.now i (pos 0))) ≡ get_or c.args.s.now i (pos 0) = search rules in
    rw (or_few 16 c.loop-z.bits c.above_least-bits.result, and_assoc, c.above_least-bits.ensures, back, add-one)
    (rw (drop-cons c.args.s.now i (pos 0) c.loop-z-test.true) at c.loop-z.invariant)

pub returns : goal.returns
unfolding are_components
returns c =
    sym (and-true (ltb c.loop-z.bits (2 ^ 16))) ∙ rw (drop_of_length-le c.args.s.now c.loop-z-test.false) at c.loop-z.invariant
