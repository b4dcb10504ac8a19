-- Where all dimensions have as many bits, the rows are one run of numbers.
use Rattle.std.proofs.Common.{sym, ◌∙◌, length, take_all, arith}
use native.Mathlib.Nat.{sub-zero}
use Rattle.codes.specs.Bits.{byte_bits}
use Rattle.codes.specs.Rows.{split_uniform}
use Rattle.codes.proofs.take_all.Goals as goal

pub returns-then-wider-eq0 : goal.returns-then-wider-eq0
returns-then-wider-eq0 c =
    let a = c.args in
    let count = length a.regions.now in
    let even = sym c.wider.ensures ∙ c.if-wider-eq0.true in
    sym (take_all count _ (omega arith)) ∙ rw (sub-zero, c.fewest.ensures) at c.take.ensures
    ∙ sym (split_uniform a.layout.d a.layout.b even 0 count (byte_bits a.codes.now))
