-- The intake of the value that a pattern stands for, by the pattern's fields. Assumes nothing.
use Rattle.std.specs.Prelude.{Err}
use mathlib.Core.Path.{◌≡◌, refl, sym, ap, ◌∙◌}
use mathlib.Core.Bool.{Bool, true, false, not, ◌&&◌}
use Prim.Native.Nat.{ℕ, zero, suc, ◌+◌, ◌-◌, ◌*◌, ◌/◌, ◌%◌, ◌^◌, ◌≤◌, ◌<◌, compare}
use native.Mathlib.Nat.{le_trans, lt_of_lt_of_le, mul-le-mul_left, mul-le-mul_right, mul-lt-mul_of_pos_right, mul_right_comm, mul_assoc, le-div_iff_mul-le}
use native.Mathlib.Omega.{arith}
use borrow.Author.Tests.{eqb-true, eqb-false, not-false, lt-ltb, ne_eqb}
use lib.Dec.{eqb, leb, lit<}
use lib.IntN.{pos, neg_ℤ}
use lib.Pow.{pow-add, pow_pos, pow_mono, shl_lt}
use lib.Ieee.{Float, nan, inf, fin, binary32, is_nan, of_fields, of_bits, nan_bits}
use lib.Ieee.Bits.{nan_bits_is}
use lib.Ieee.Exact.{HasValue, odd_sign}
use lib.Ieee.Nearest.{closest, closest_same, nearest-ge}
use Rattle.refusal.specs.declared.Refusal.TheVariants.{NotANumber, OutOfRange}
use Rattle.refusal.specs.First.{first}
use Rattle.reading.specs.Component.{unit, signed}
use Rattle.reading.specs.Intake.{value_intake}
use Rattle.reading.specs.Fields.{significand, scale, ranged, Magnitude}
use Rattle.reading.proofs.Values.{below_range, above_range, finite_intake}

-- ---- a NaN's pattern

nan_only : (x : Float) → is_nan x ≡ true → x ≡ nan
unfolding is_nan
nan_only nan e = refl
nan_only (inf s) e = cc
nan_only (fin s m x) e = cc

pub nan_pattern : (b : ℕ) → nan_bits binary32 b ≡ true → of_bits binary32 b ≡ nan
nan_pattern b e = nan_only (of_bits binary32 b) (sym (nan_bits_is binary32 b) ∙ e)

pub nan_intake : value_intake nan ≡ Err NotANumber
unfolding value_intake first is_nan
nan_intake = refl

-- ---- a finite value's pattern

finite_fields : (s : Bool) (x t : ℕ) → x < 255 → HasValue (of_fields binary32 s x t) s (significand x t * 2 ^ scale x) (2 ^ 149)
unfolding of_fields
finite_fields s zero t h = odd_sign 24 s t 0 149
finite_fields s (suc x) t h = rw (ne_eqb (suc x) 255 (λ e. omega arith)) (odd_sign 24 s (2 ^ 23 + t) x 149)

fields_intake : (s : Bool) (x t : ℕ) → x < 255 → value_intake (of_fields binary32 s x t) ≡ ranged (signed s (closest (significand x t * 2 ^ scale x * unit) (2 ^ 149)))
fields_intake s x t h = finite_intake (of_fields binary32 s x t) s (significand x t * 2 ^ scale x) (2 ^ 149) (pow_pos 149) (finite_fields s x t h)

-- by a magnitude and a sign
pub pattern_intake : (b m : ℕ) (s : Bool) → b % 2 ^ 31 / 2 ^ 23 < 255 → leb (2 ^ 31) b ≡ s
    → Magnitude m (significand (b % 2 ^ 31 / 2 ^ 23) (b % 2 ^ 23) * 2 ^ scale (b % 2 ^ 31 / 2 ^ 23) * unit) (2 ^ 149)
    → value_intake (of_bits binary32 b) ≡ ranged (signed s m)
unfolding of_bits
pattern_intake b m s h sign magnitude =
    fields_intake (leb (2 ^ 31) b) (b % 2 ^ 31 / 2 ^ 23) (b % 2 ^ 23) h ∙ rw (sign, magnitude.is)

-- ---- a pattern with an exponent field that is too large

out_of_range : (s : Bool) (n : ℕ) → 65536 ≤ n → ranged (signed s n) ≡ Err OutOfRange
out_of_range false n h = above_range (pos n) (lt-ltb 32767 n (omega arith))
out_of_range true zero h = absurd (omega arith)
out_of_range true (suc n) h = below_range (neg_ℤ (pos (suc n))) (lt-ltb 32767 n (omega arith))

large : (x t : ℕ) → 134 < x → 65536 ≤ closest (significand x t * 2 ^ scale x * unit) (2 ^ 149)
large zero t h = absurd (omega arith)
large (suc x) t h =
    let q = 2 ^ 23 + t in
    let leading : 2 ^ 23 ≤ q = omega arith in
    let far : 134 ≤ x = omega arith in
    let size : 2 ^ 157 ≤ q * 2 ^ x = le_trans (mul-le-mul_left (2 ^ 23) (pow_mono far)) (mul-le-mul_right (2 ^ x) leading) in
    let whole : 65536 ≤ q * 2 ^ x * unit / 2 ^ 149 = (le-div_iff_mul-le (pow_pos 149)).1 (mul-le-mul_right unit size) in
    le_trans whole (nearest-ge (q * 2 ^ x * unit / 2 ^ 149) (compare (q * 2 ^ x * unit % 2 ^ 149 * 2) (2 ^ 149)))

infinite : (s : Bool) → value_intake (of_fields binary32 s 255 0) ≡ Err OutOfRange
unfolding value_intake first is_nan of_fields
infinite s = refl

far_fields : (s : Bool) (x t : ℕ) → 134 < x → x < 256 → eqb x 255 && not (eqb t 0) ≡ false → value_intake (of_fields binary32 s x t) ≡ Err OutOfRange
far_fields s x t far in_field no_nan = go (eqb x 255) refl
  where
    go : (special : Bool) → eqb x 255 ≡ special → value_intake (of_fields binary32 s x t) ≡ Err OutOfRange
    go true e = rw (eqb-true x 255 e, eqb-true t 0 (not-false (eqb t 0) (rw e at no_nan))) (infinite s)
    go false e =
        fields_intake s x t (omega (arith, eqb-false x 255 e))
        ∙ out_of_range s (closest (significand x t * 2 ^ scale x * unit) (2 ^ 149)) (large x t far)

pub far_intake : (b : ℕ) → nan_bits binary32 b ≡ false → 134 < b % 2 ^ 31 / 2 ^ 23 → value_intake (of_bits binary32 b) ≡ Err OutOfRange
unfolding of_bits nan_bits
far_intake b no_nan far = far_fields (leb (2 ^ 31) b) (b % 2 ^ 31 / 2 ^ 23) (b % 2 ^ 23) far (omega arith) no_nan

-- ---- the size of a value by its fields

significand_lt : (x t : ℕ) → t < 2 ^ 23 → significand x t < 2 ^ 24
significand_lt zero t h = omega arith
significand_lt (suc x) t h = omega arith

scale_le : (x : ℕ) → x < 118 → scale x ≤ 116
scale_le zero h = omega arith
scale_le (suc x) h = omega arith

-- below the least field it is less than a half
pub small : (x t : ℕ) → x < 118 → t < 2 ^ 23 → significand x t * 2 ^ scale x * unit * 2 < 2 ^ 149
small x t h bound =
    let size : significand x t * 2 ^ scale x < 2 ^ (24 + scale x) = shl_lt 24 (scale x) (significand_lt x t bound) in
    let field : 24 + scale x ≤ 140 = omega (arith, scale_le x h) in
    mul-lt-mul_of_pos_right (mul-lt-mul_of_pos_right (lt_of_lt_of_le size (pow_mono field)) (lit< tt)) (lit< tt)

-- from the least field on it is counted in parts
pub in_parts : (x t : ℕ) → 118 ≤ x
    → closest ((2 ^ 23 + t) * unit * 2 ^ (x - 118)) (2 ^ 32) ≡ closest (significand x t * 2 ^ scale x * unit) (2 ^ 149)
in_parts zero t h = absurd (omega arith)
in_parts (suc x) t h =
    let q = 2 ^ 23 + t in
    let k = suc x - 118 in
    let split : 2 ^ x ≡ 2 ^ k * 2 ^ 117 = ap (λ (n : ℕ). 2 ^ n) (omega arith) ∙ pow-add 2 k 117 in
    let same : q * unit * 2 ^ k * 2 ^ 149 ≡ q * 2 ^ x * unit * 2 ^ 32 = rw (mul_right_comm q unit (2 ^ k), split) (simp mul_assoc) in
    closest_same (q * unit * 2 ^ k) (2 ^ 32) (q * 2 ^ x * unit) (2 ^ 149) (pow_pos 32) (pow_pos 149) same

-- the parts that a significand comes to fit into 48 bits
pub parts_fit : (x t : ℕ) → x ≤ 134 → t < 2 ^ 23 → (2 ^ 23 + t) * unit * 2 ^ (x - 118) < 2 ^ 48
parts_fit x t h bound =
    let scaled : (2 ^ 23 + t) * unit < 2 ^ 32 = omega arith in
    let field : 32 + (x - 118) ≤ 48 = omega arith in
    lt_of_lt_of_le (shl_lt 32 (x - 118) scaled) (pow_mono field)
