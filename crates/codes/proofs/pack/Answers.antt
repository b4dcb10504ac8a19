-- The causes in their order, and then the numbers' bits in bytes.
use Rattle.std.specs.Prelude.{ℕ, not, length}
use Rattle.std.proofs.Common.{sym, ap, ◌∙◌}
use Rattle.refusal.specs.declared.Refusal.TheVariants.{Code}
use Rattle.codes.specs.Bits.{bytes_of}
use Rattle.codes.specs.Codes.{joined, regions_fit, packed}
use Rattle.codes.specs.PackLaws.{length_joined}
use Rattle.codes.specs.Pack.{size_causes}
use Rattle.codes.proofs.Answers.{accepted_all}
use Rattle.codes.proofs.Lengths.{lengths, all_sizes}
use Rattle.codes.proofs.pack.Goals as goal

pub put_all-requires : goal.put_all-requires
put_all-requires c =
    let a = c.args in
    let l = c.in_ok-layout.layout in
    let size = lengths l a.n (length a.regions.now) (length a.codes.now) (sym c.check_lengths.ensures ∙ c.in_ok-check_lengths.was) in
    let bits = length_joined l.d l.b l.some a.n a.regions.now size.rows in (
      record { rows = a.n; whole = size.rows },
      sym c.regions_fit.ensures ∙ c.if-not-regions_fit.false,
      rw bits size.bytes,
    )

pub returns-clause-codes_after : goal.returns-clause-codes_after
unfolding packed
returns-clause-codes_after c =
    let a = c.args in
    let l = c.in_ok-layout.layout in
    let is = c.in_ok-layout.ensures.ok in
    let accepted = sym c.check_lengths.ensures ∙ c.in_ok-check_lengths.was in
    let size = lengths l a.n (length a.regions.now) (length a.codes.now) accepted in
    let bytes = rw is.1 at size.bytes in
    let fit = rw (is.0, is.1) at (sym c.regions_fit.ensures ∙ c.if-not-regions_fit.false) in
    let written = rw (is.0, is.1) at c.put_all.ensures in
    (accepted_all (size_causes a.d a.b a.n (length a.regions.now) (length a.codes.now)) (not (regions_fit a.d a.b 0 a.regions.now)) Code
    a.codes.now (packed a.d a.b a.n a.regions.now)
    (all_sizes a.d a.b a.n (length a.regions.now) (length a.codes.now) l is accepted) (ap not fit)
    (written ∙ ap (λ (m : ℕ). bytes_of m (joined a.d a.b 0 a.regions.now)) bytes)).1
