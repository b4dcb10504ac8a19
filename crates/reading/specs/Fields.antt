-- A finite binary32 value by the fields of its pattern: significand · 2^scale in units of the smallest value, 2^-149.
-- Assumes nothing.
use Rattle.std.specs.Prelude.{◌≡◌, cond, ℕ, zero, suc, ◌+◌, ◌^◌, ◌≤◌, ℤ, Ok, Err, Result}
use Rattle.std.specs.Float.Ieee.Nearest.{closest}
use Rattle.refusal.specs.declared.Refusal.{Refusal}
use Rattle.refusal.specs.declared.Refusal.TheVariants.{OutOfRange}
use Rattle.limits.specs.Limits.{is_component}

-- the fraction, with the leading digit that an exponent field above 0 implies
abbrev pub significand : ℕ → ℕ → ℕ
significand zero fraction = fraction
significand (suc field) fraction = 2 ^ 23 + fraction

abbrev pub scale : ℕ → ℕ
scale zero = 0
scale (suc field) = field

-- a whole number as a component, where it is in range
unfoldable pub ranged : ℤ → Result ℤ Refusal
ranged z = cond (is_component z) (Ok z) (Err OutOfRange)

-- r is a / b to the nearest whole number, halves to even, and at most 2 ^ 16
pub record Magnitude (r a b : ℕ) : Type 0 where
  pub is : r ≡ closest a b
  pub small : r ≤ 65536
