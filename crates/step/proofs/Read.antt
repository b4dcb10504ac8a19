-- A signed number is read back from its bits, and so is what is worked out from it. Assumes nothing.
use mathlib.Core.Path.{◌≡◌, ◌∙◌}
use Prim.Native.Nat.{ℕ}
use lib.IntN.{ℤ}
use mir.Syntax.{w32}
use mir.Val.{SFits, to_z, of_z}
use mir.ValLaws.{to_z-of_z}

-- a number that was read from a list
pub read_back : {z w : ℤ} → SFits w32 z → z ≡ w → to_z w32 (of_z w32 z) ≡ w
read_back fits is = to_z-of_z w32 _ fits ∙ is

-- a step
pub step_back : (step : ℤ → ℤ → ℤ → ℕ) {q low high : ℤ} {n : ℕ} → SFits w32 q → SFits w32 low → SFits w32 high
    → n ≡ step (to_z w32 (of_z w32 q)) (to_z w32 (of_z w32 low)) (to_z w32 (of_z w32 high)) → n ≡ step q low high
step_back step fq fl fh is = is ∙ (λ i. step (to_z-of_z w32 _ fq i) (to_z-of_z w32 _ fl i) (to_z-of_z w32 _ fh i))
