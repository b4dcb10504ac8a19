-- A signed number is read back from its bits: at 32 bits, and then at 64. Assumes nothing.
use Rattle.std.proofs.Common.{◌≡◌, ℕ, ◌^◌, ◌<◌, ℤ, ap, ◌∙◌, arith, w32, w64, SFits, to_z, of_z}
use mathlib.Core.Path.{subst⁻¹}
use lib.Signed.{mag}
use mir.ValLaws.{to_z-of_z}
use Rattle.signed.specs.Keys.{key_of, key_fits}

pub widened : {z : ℤ} → SFits w32 z → SFits w64 z
widened f = record { sfits = omega (arith, f.sfits) }

pub back_fits : (z : ℤ) → SFits w32 z → SFits w64 (to_z w32 (of_z w32 z))
back_fits z f = subst⁻¹ (SFits w64) (to_z-of_z w32 z f) (widened f)

pub back : (z : ℤ) → SFits w32 z → to_z w64 (of_z w64 (to_z w32 (of_z w32 z))) ≡ z
back z f = to_z-of_z w64 (to_z w32 (of_z w32 z)) (back_fits z f) ∙ to_z-of_z w32 z f

-- a number that a call gave, which is another by the call's contract
pub given : {z other : ℤ} → mag z < 2 ^ 31 → z ≡ other → to_z w32 (of_z w32 z) ≡ other
given {z} small is = to_z-of_z w32 z (record { sfits = small }) ∙ is

-- a number's key, of 32 bits
pub record Key (z : ℤ) (k : ℕ) : Type 0 where
  pub is : k ≡ key_of z
  pub small : k < 2 ^ 32

pub key_back : {z : ℤ} {k : ℕ} → SFits w32 z → k ≡ key_of (to_z w32 (of_z w32 z)) → Key z k
key_back {z} fits is =
    let is = is ∙ ap key_of (to_z-of_z w32 z fits) in
    record { is = is; small = rw is (key_fits z fits.sfits) }
