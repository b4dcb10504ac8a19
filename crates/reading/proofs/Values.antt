-- The intake of a value by its range, and of a finite value by its size as a fraction. Assumes nothing.
use Rattle.std.specs.Prelude.{Ok, Err}
use mathlib.Core.Path.{◌≡◌, refl, ap, ◌∙◌}
use mathlib.Core.List.{[], ◌∷◌}
use mathlib.Core.Bool.{Bool, true, false, not, ◌&&◌, cond}
use Prim.Native.Nat.{ℕ, ◌*◌, ◌<◌}
use lib.IntN.{ℤ}
use lib.Signed.{lt_z, le_z}
use lib.Ieee.{Float, nan, inf, fin, is_nan}
use lib.Ieee.Exact.{HasValue}
use lib.Ieee.Nearest.{closest}
use Rattle.refusal.specs.declared.Refusal.TheVariants.{OutOfRange}
use Rattle.refusal.specs.First.{◌⇒◌, first, outcome}
use Rattle.limits.specs.Limits.{least_component, greatest_component, is_component}
use Rattle.limits.specs.Tests.{le_z_not}
use Rattle.reading.specs.Component.{unit, signed, component, rounded_of_value}
use Rattle.reading.specs.Intake.{value_intake}
use Rattle.reading.specs.Fields.{ranged}

-- ---- a whole number as a component, by the tests of its range

pub below_range : (z : ℤ) → lt_z z least_component ≡ true → ranged z ≡ Err OutOfRange
unfolding ranged
below_range z low = rw (le_z_not z least_component, low)

pub above_range : (z : ℤ) → lt_z greatest_component z ≡ true → ranged z ≡ Err OutOfRange
unfolding ranged
above_range z high = go (le_z least_component z) (le_z_not greatest_component z ∙ ap not high)
  where
    go : (t : Bool) → le_z z greatest_component ≡ false → cond (t && le_z z greatest_component) (Ok z) (Err OutOfRange) ≡ Err OutOfRange
    go true e = rw e
    go false e = refl

-- ---- a finite value

-- only its range can refuse it
finite_ranged : (s : Bool) (m : ℕ) (e : ℤ) → value_intake (fin s m e) ≡ ranged (component (fin s m e))
unfolding value_intake first is_nan ranged
finite_ranged s m e = go (component (fin s m e)) (is_component (component (fin s m e)))
  where
    go : (z : ℤ) (t : Bool) → outcome (first ((not t ⇒ OutOfRange) ∷ [])) (Ok z) Err ≡ cond t (Ok z) (Err OutOfRange)
    go z true = refl
    go z false = refl

pub finite_intake : (x : Float) (s : Bool) (a c : ℕ) → 0 < c → HasValue x s a c → value_intake x ≡ ranged (signed s (closest (a * unit) c))
finite_intake nan s a c p v = absurd v
finite_intake (inf t) s a c p v = absurd v
finite_intake (fin t m e) s a c p v = finite_ranged t m e ∙ ap ranged (rounded_of_value unit (fin t m e) s a c p v)
