-- What the spare bits make is 0 if none is set.
use Rattle.std.proofs.Common.{◌≡◌, ℕ, ◌*◌, Bool, true, ◌&&◌, eqb, length, sym, refl, ap, ◌∙◌, eq-eqb, ne_eqb, eqb-true}
use Rattle.std.proofs.Math.Bool.{and-eq-true_iff}
use Rattle.std.specs.Prelude.{List}
use Rattle.refusal.specs.First.{first}
use Rattle.layout.specs.Layout.{first_marks, code_length}
use Rattle.codes.specs.Bits.{bits_at}
use Rattle.codes.specs.Codes.{spare_zero}
use Rattle.codes.specs.PackLaws.{spare_read}
use Rattle.bounds.proofs.sum.check_sums.Goals as goal

-- the lengths are right, and then the bits that were read tell of the spare ones
spare : (d b n table : ℕ) (codes : List ℕ) {exact : Bool} {read : ℕ}
    → exact ≡ eqb d d && (eqb table (first_marks d b d) && eqb (length codes) (code_length b n)) → exact ≡ true
    → read ≡ bits_at codes (n * b) 8
    → (eqb table (first_marks d b d) && eqb (length codes) (code_length b n) ≡ true) × (eqb read 0 ≡ spare_zero b n codes)
spare d b n table codes is holds told =
    let lengths = rw (eq-eqb d d refl) at (sym is ∙ holds) in
    let bytes = eqb-true _ _ ((and-eq-true_iff (eqb table (first_marks d b d)) _).0 lengths).1 in
    (lengths, ap (λ (x : ℕ). eqb x 0) told ∙ spare_read b n codes bytes)

pub returns-then-bits_at-ne0 : goal.returns-then-bits_at-ne0
unfolding first
returns-then-bits_at-ne0 c =
    let a = c.args in
    let told = spare a.layout.d a.layout.b a.n a.table a.codes.now c.exact_lengths.ensures c.if-not-exact_lengths.false c.bits_at.ensures in
    rw (sym c.is_vector_count.ensures ∙ c.if-not-is_vector_count.false, told.0, ← told.1, ne_eqb _ _ c.if-bits_at-ne0.true)

pub returns : goal.returns
unfolding first
returns c =
    let a = c.args in
    let told = spare a.layout.d a.layout.b a.n a.table a.codes.now c.exact_lengths.ensures c.if-not-exact_lengths.false c.bits_at.ensures in
    rw (sym c.is_vector_count.ensures ∙ c.if-not-is_vector_count.false, told.0, ← told.1, eq-eqb _ _ c.if-bits_at-ne0.false)
