-- Numbers of regions: "With w bits it has 2^w regions", and w is 0 to 6 (document 01, "Marks, regions, codes"). Assumes nothing.
use Rattle.std.specs.Prelude.{◌≡◌, refl, Bool, true, false, ◌||◌, ℕ, zero, suc, ◌^◌, ◌≤◌, eqb}
use Rattle.std.proofs.Common.{ap, ◌∙◌, inl, inr, eq-or-lt_of_le, le_of_suc-le-suc, arith, eqb-true, eq-eqb}
use Rattle.std.proofs.Math.Bool.{or-true}
use Rattle.limits.specs.Limits.{max_dimension_bits}

-- A number is a power here if it is 2^w with w from 0 to bits.
unfoldable pub is_power : ℕ → ℕ → Bool
is_power zero n = eqb n 1
is_power (suc bits) n = eqb n (2 ^ suc bits) || is_power bits n

abbrev pub is_region_count : ℕ → Bool
is_region_count regions = is_power max_dimension_bits regions

-- ---- Laws

pub record Power (bits n : ℕ) : Type 0 where
  pub w : ℕ
  pub within : w ≤ bits
  pub is : n ≡ 2 ^ w

pub power_of : (bits n : ℕ) → is_power bits n ≡ true → Power bits n
unfolding is_power
power_of zero n holds = record { w = 0; within = omega arith; is = eqb-true n 1 holds }
power_of (suc bits) n holds = go (eqb n (2 ^ suc bits)) refl holds (power_of bits n)
  where
    go : (t : Bool) → eqb n (2 ^ suc bits) ≡ t → t || is_power bits n ≡ true → (is_power bits n ≡ true → Power bits n) → Power (suc bits) n
    go true e holds less = record { w = suc bits; within = omega arith; is = eqb-true n (2 ^ suc bits) e }
    go false e holds less =
        let power = less holds in
        record { w = power.w; within = omega (arith, power.within); is = power.is }

pub is_power_lem : (bits w : ℕ) → w ≤ bits → is_power bits (2 ^ w) ≡ true
unfolding is_power
is_power_lem zero w le =
    let none : w ≡ 0 = omega arith in
    rw none
is_power_lem (suc bits) w le =
    elim (eq-or-lt_of_le le) [
      | inl e ↦ rw (eq-eqb (2 ^ w) (2 ^ suc bits) (ap (λ (k : ℕ). 2 ^ k) e))
      | inr l ↦ ap (λ (t : Bool). eqb (2 ^ w) (2 ^ suc bits) || t) (is_power_lem bits w (le_of_suc-le-suc l))
          ∙ or-true (eqb (2 ^ w) (2 ^ suc bits))
    ]
