-- The spare bits are read as one number.
use Rattle.std.proofs.Common.{◌∙◌, ap, sym, ◌&&◌, Bool, ℕ}
use Rattle.std.specs.Prelude.{eqb}
use Rattle.codes.specs.Codes.{spare_zero}
use Rattle.codes.specs.PackLaws.{spare_read}
use Rattle.cells.proofs.good_codes.Goals as goal

pub returns-then-no_empty_codes : goal.returns-then-no_empty_codes
returns-then-no_empty_codes c =
    let a = c.args in
    let named = sym c.no_empty_codes.ensures ∙ c.if-no_empty_codes.true in
    ap (λ (x : ℕ). eqb x 0) c.bits_at.ensures
    ∙ spare_read a.layout.b a.n a.codes.now c.requires.1
    ∙ sym (ap (λ (t : Bool). t && spare_zero a.layout.b a.n a.codes.now) named)
