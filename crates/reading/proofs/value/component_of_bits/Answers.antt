-- `component_of_bits` meets its contract, by the pattern's fields. Assumes nothing.
use Rattle.std.specs.Prelude.{neg_ℤ}
use Rattle.std.proofs.Common.{◌≡◌, true, false, ◌^◌, ℤ, pos, ◌-ℤ◌, sym, ap, ◌∙◌, FitsSigned, to_z, w32, arith, rules}
use Rattle.std.proofs.lemmas.Bool.{lt-leb, le-leb}
use Rattle.std.proofs.lemmas.Int.{to_z_pos, to_z-of_z}
use lib.IntN.{+ℤ_idl}
use Rattle.reading.specs.Intake.{value_intake}
use Rattle.reading.specs.Fields.{ranged}
use Rattle.reading.proofs.Patterns.{nan_pattern, nan_intake, far_intake, pattern_intake}
use Rattle.reading.proofs.value.component_of_bits.Goals as goal

pub returns-then-is_nan : goal.returns-then-is_nan
returns-then-is_nan c = sym (ap value_intake (nan_pattern c.args.bits (sym c.if-is_nan.ensures)) ∙ nan_intake)

pub returns-then-field-gt-GREATEST_FIELD : goal.returns-then-field-gt-GREATEST_FIELD
returns-then-field-gt-GREATEST_FIELD c = sym (far_intake c.args.bits (sym c.if-is_nan.ensures) c.if-field-gt-GREATEST_FIELD.true)

pub returns-then-bits-lt-SIGN : goal.returns-then-bits-lt-SIGN
returns-then-bits-lt-SIGN c =
    let b = c.args.bits in
    let magnitude = c.magnitude-m.ensures in
    c.in_range.ensures ∙ ap ranged (to_z_pos w32 _ (omega (arith, magnitude.small)))
    ∙ sym (pattern_intake b _ false (omega arith) (lt-leb (2 ^ 31) b c.if-bits-lt-SIGN.true) magnitude)

pub returns-else-bits-lt-SIGN : goal.returns-else-bits-lt-SIGN
returns-else-bits-lt-SIGN c =
    let b = c.args.bits in
    let m = c.magnitude-m.result in
    let magnitude = c.magnitude-m.ensures in
    let negated : pos 0 -ℤ to_z w32 m ≡ neg_ℤ (pos m) =
    ap (λ (z : ℤ). pos 0 -ℤ z) (to_z_pos w32 m (omega (arith, magnitude.small))) ∙ +ℤ_idl (neg_ℤ (pos m)) in
    let fits : FitsSigned w32 (pos 0 -ℤ to_z w32 m) = search rules in
    c.in_range-else-bits-lt-SIGN.ensures ∙ ap ranged (to_z-of_z w32 _ fits ∙ negated)
    ∙ sym (pattern_intake b m true (omega arith) (le-leb (2 ^ 31) b c.if-bits-lt-SIGN.false) magnitude)
