-- The causes in their order, and then the numbers that the bits name.
use Rattle.std.specs.Prelude.{◌≡◌, ℕ, not, length, eqb}
use Rattle.std.proofs.Common.{sym, ap, ◌∙◌, eq-eqb, ne_eqb}
use Rattle.refusal.specs.declared.Refusal.TheVariants.{Code}
use Rattle.codes.specs.Bits.{byte_bits}
use Rattle.codes.specs.Codes.{spare_zero, split, unpacked}
use Rattle.codes.specs.PackLaws.{spare_read}
use Rattle.codes.specs.Pack.{size_causes}
use Rattle.codes.proofs.Answers.{refused_last, accepted_all}
use Rattle.codes.proofs.Lengths.{lengths, all_sizes}
use Rattle.codes.proofs.unpack.Goals as goal

pub returns-then-bits_at-ne0-clause-value : goal.returns-then-bits_at-ne0-clause-value
returns-then-bits_at-ne0-clause-value c =
    let a = c.args in
    let l = c.in_ok-layout.layout in
    let is = c.in_ok-layout.ensures.ok in
    let accepted = sym c.check_lengths.ensures ∙ c.in_ok-check_lengths.was in
    let size = lengths l a.n (length a.regions.now) (length a.codes.now) accepted in
    let spare : eqb c.bits_at.result 0 ≡ spare_zero l.b a.n a.codes.now = rw c.bits_at.ensures (spare_read l.b a.n a.codes.now size.bytes) in
    let spare_bits = rw is.1 at spare in
    (refused_last (size_causes a.d a.b a.n (length a.regions.now) (length a.codes.now)) (not (spare_zero a.b a.n a.codes.now)) Code
    a.regions.now (unpacked a.d a.b a.n a.codes.now)
    (all_sizes a.d a.b a.n (length a.regions.now) (length a.codes.now) l is accepted)
    (ap not (sym spare_bits ∙ ne_eqb c.bits_at.result 0 c.if-bits_at-ne0.true))).0

pub returns-then-bits_at-ne0-clause-regions_after : goal.returns-then-bits_at-ne0-clause-regions_after
returns-then-bits_at-ne0-clause-regions_after c =
    let a = c.args in
    let l = c.in_ok-layout.layout in
    let is = c.in_ok-layout.ensures.ok in
    let accepted = sym c.check_lengths.ensures ∙ c.in_ok-check_lengths.was in
    let size = lengths l a.n (length a.regions.now) (length a.codes.now) accepted in
    let spare : eqb c.bits_at.result 0 ≡ spare_zero l.b a.n a.codes.now = rw c.bits_at.ensures (spare_read l.b a.n a.codes.now size.bytes) in
    let spare_bits = rw is.1 at spare in
    (refused_last (size_causes a.d a.b a.n (length a.regions.now) (length a.codes.now)) (not (spare_zero a.b a.n a.codes.now)) Code
    a.regions.now (unpacked a.d a.b a.n a.codes.now)
    (all_sizes a.d a.b a.n (length a.regions.now) (length a.codes.now) l is accepted)
    (ap not (sym spare_bits ∙ ne_eqb c.bits_at.result 0 c.if-bits_at-ne0.true))).1

pub returns-clause-value : goal.returns-clause-value
unfolding unpacked
returns-clause-value c =
    let a = c.args in
    let l = c.in_ok-layout.layout in
    let is = c.in_ok-layout.ensures.ok in
    let accepted = sym c.check_lengths.ensures ∙ c.in_ok-check_lengths.was in
    let size = lengths l a.n (length a.regions.now) (length a.codes.now) accepted in
    let spare : eqb c.bits_at.result 0 ≡ spare_zero l.b a.n a.codes.now = rw c.bits_at.ensures (spare_read l.b a.n a.codes.now size.bytes) in
    let spare_bits = rw is.1 at spare in
    let rows = rw is.0 at size.rows in
    let read = rw (is.0, is.1) at c.take_all.ensures in
    (accepted_all (size_causes a.d a.b a.n (length a.regions.now) (length a.codes.now)) (not (spare_zero a.b a.n a.codes.now)) Code
    a.regions.now (unpacked a.d a.b a.n a.codes.now)
    (all_sizes a.d a.b a.n (length a.regions.now) (length a.codes.now) l is accepted)
    (ap not (sym spare_bits ∙ eq-eqb c.bits_at.result 0 c.if-bits_at-ne0.false))
    (read ∙ ap (λ (m : ℕ). split a.d a.b 0 m (byte_bits a.codes.now)) rows)).0

pub returns-clause-regions_after : goal.returns-clause-regions_after
unfolding unpacked
returns-clause-regions_after c =
    let a = c.args in
    let l = c.in_ok-layout.layout in
    let is = c.in_ok-layout.ensures.ok in
    let accepted = sym c.check_lengths.ensures ∙ c.in_ok-check_lengths.was in
    let size = lengths l a.n (length a.regions.now) (length a.codes.now) accepted in
    let spare : eqb c.bits_at.result 0 ≡ spare_zero l.b a.n a.codes.now = rw c.bits_at.ensures (spare_read l.b a.n a.codes.now size.bytes) in
    let spare_bits = rw is.1 at spare in
    let rows = rw is.0 at size.rows in
    let read = rw (is.0, is.1) at c.take_all.ensures in
    (accepted_all (size_causes a.d a.b a.n (length a.regions.now) (length a.codes.now)) (not (spare_zero a.b a.n a.codes.now)) Code
    a.regions.now (unpacked a.d a.b a.n a.codes.now)
    (all_sizes a.d a.b a.n (length a.regions.now) (length a.codes.now) l is accepted)
    (ap not (sym spare_bits ∙ eq-eqb c.bits_at.result 0 c.if-bits_at-ne0.false))
    (read ∙ ap (λ (m : ℕ). split a.d a.b 0 m (byte_bits a.codes.now)) rows)).1
