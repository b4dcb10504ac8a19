-- One dimension's steps from a query: to a value, and the shortest and the longest to a region (document 01, "Distance, bounds, reading
-- order"). "Components are whole, so a region's last value is its upper mark minus 1." Assumes nothing.
use Rattle.std.specs.Prelude.{◌≡◌, cond, ℕ, ◌*◌, ◌%◌, ◌^◌, ◌≤◌, ◌<◌, max, ℤ, nat_abs, ◌-ℤ◌}
use Rattle.std.proofs.Common.{le_refl, one-mul, mul-le-mul, mod-eq_of_lt}
use Rattle.std.proofs.Math.IntN.{pred_ℤ}
use Rattle.std.specs.Int.Signed.{lt_z}
use Rattle.step.specs.declared.Bound.{Bound}
use Rattle.step.specs.declared.Bound.TheVariants.{Lower, Upper}

-- how far two whole numbers are apart
abbrev pub gap : ℤ → ℤ → ℕ
gap a b = nat_abs (a -ℤ b)

-- what one dimension's step adds to a distance
abbrev pub squared : ℕ → ℕ
squared step = step * step

-- what it adds where the dimension has a factor: 0 where it is absent and 1 where it is present (document 02, Slip 1): "the difference is
-- multiplied by the weight before squaring" (Slip 7, as in source document 000).
abbrev pub weighed : ℕ → ℕ → ℕ
weighed factor step = squared (factor * step)

-- the same as it is worked out in 64 bits: the product is taken modulo 2^32
abbrev pub product_word : ℕ → ℕ → ℕ
product_word factor step = factor * step % 2 ^ 32

unfoldable pub weighed_word : ℕ → ℕ → ℕ
weighed_word factor step = squared (product_word factor step)

-- the shortest and the longest step from q to the region from low up to, and without, high
unfoldable pub shortest : ℤ → ℤ → ℤ → ℕ
shortest q low high = cond (lt_z q low) (gap low q) (cond (lt_z (pred_ℤ high) q) (gap q (pred_ℤ high)) 0)

unfoldable pub longest : ℤ → ℤ → ℤ → ℕ
longest q low high = max (gap q low) (gap q (pred_ℤ high))

-- the steps whose squares sum up to a bound
abbrev pub step_of : Bound → ℤ → ℤ → ℤ → ℕ
step_of Lower = shortest
step_of Upper = longest

-- ---- laws

pub squared_le : {a b : ℕ} → a ≤ b → squared a ≤ squared b
squared_le h = mul-le-mul h h

pub weighed_le : (factor : ℕ) {a b : ℕ} → a ≤ b → weighed factor a ≤ weighed factor b
weighed_le factor h = squared_le (mul-le-mul (le_refl factor) h)

-- a dimension that is present adds what it adds without a factor
pub weighed_present : {factor : ℕ} (step : ℕ) → factor ≡ 1 → weighed factor step ≡ squared step
weighed_present step present = rw (present, one-mul step)

-- in 64 bits it is exact where the product has 32
pub weighed_exact : (factor step : ℕ) → factor * step < 2 ^ 32 → weighed_word factor step ≡ weighed factor step
unfolding weighed_word
weighed_exact factor step small = rw (mod-eq_of_lt small)
