-- "By IEEE 754 binary32" can be read either way: the value times 256, rounded to a whole number once; or the product in binary32, rounded
-- to a whole number then. Where the product is finite the two agree, since it is exact. Assumes nothing.
use Rattle.std.specs.Prelude.{◌≡◌, refl, Bool, true, false, cond, ◌&&◌, ℕ, zero, suc, ◌+◌, ◌-◌, ◌*◌, ◌/◌, ◌%◌, ◌^◌, ◌≤◌, ◌<◌, T, ltb, leb, eqb, ℤ, pos, negsuc, Float}
use Rattle.std.proofs.Common.{sym, ap, ◌∙◌, subst, le_of_suc-le-suc, lt_of_not-le, lt_irrefl, lt_of_lt_of_le, le_of_mul-le-mul_right, mul-le-mul_right, one-mul, mul-one, mul_assoc, mul_right_comm, le_of_eq, le_trans, arith, ltb-true, ltb-false, ltb→lt, leb→le, eqb→eq, lit<, lit≤, pow-add, pow_pos}
use Rattle.std.proofs.Math.Pow.{pow-lt}
use Rattle.std.specs.Float.{nan, inf, fin, binary32}
use Rattle.std.specs.Float.Ieee.{fits, mul, round, units, odd, size, le, up, down}
use Rattle.std.specs.Float.Ieee.Exact.{HasValue, round_exact}
use Rattle.std.specs.Float.Ieee.Fits.{and_l, and_r, down_pos, round_is}
use Rattle.std.specs.Float.Ieee.Nearest.{closest}
use Rattle.std.specs.Float.Ieee.Order.{round_mono}
use Rattle.std.specs.Float.Ieee.Scale.{finite}
use Rattle.reading.specs.Component.{unit, rounded, rounded_of_value}

-- 256 as a float
abbrev pub unit_float : Float
unit_float = fin false 1 (pos 8)

-- ---- a product that is too large is infinite

finite_units : (s : Bool) (q k : ℕ) → finite (units binary32 s q k) ≡ finite (units binary32 false q k)
unfolding units
finite_units s q k = go (ltb (q * 2 ^ k) (2 ^ 277)) q
  where
    go : (b : Bool) (q : ℕ) → finite (cond b (odd 25 s q k 149) (inf s)) ≡ finite (cond b (odd 25 false q k 149) (inf false))
    go true zero = refl
    go true (suc q) = refl
    go false q = refl

finite_sign : (s : Bool) (a c : ℕ) → finite (round binary32 s a c) ≡ finite (round binary32 false a c)
finite_sign s a c =
    let n = a * 2 ^ 149 in
    let k = size (n / c) - 24 in
    ap finite (round_is binary32 s a c)
    ∙ finite_units s (closest n (c * 2 ^ k)) k
    ∙ sym (ap finite (round_is binary32 false a c))

beyond : round binary32 false (2 ^ 128) 1 ≡ inf false
unfolding round
beyond = refl

not_beyond : (y : Float) → T (finite y) → T (le (inf false) y) → ⊥
unfolding le
not_beyond nan f l = f
not_beyond (inf s) f l = f
not_beyond (fin s m e) f l = l

overflows : (s : Bool) (a c n : ℕ) → 0 < c → a * 2 ^ 149 ≡ n * c → 2 ^ 277 ≤ n → T (finite (round binary32 s a c)) → ⊥
overflows s a c n p same large f =
    let scaled : 2 ^ 128 * c * 2 ^ 149 ≤ a * 1 * 2 ^ 149 =
    rw (mul_right_comm (2 ^ 128) c (2 ^ 149), mul-one a, same) (mul-le-mul_right c large) in
    let order : 2 ^ 128 * c ≤ a * 1 = le_of_mul-le-mul_right scaled (pow_pos 149) in
    not_beyond (round binary32 false a c) (subst T (finite_sign s a c) f)
    (subst (λ (y : Float). T (le y (round binary32 false a c))) beyond (round_mono binary32 (2 ^ 128) 1 a c (pow_pos 0) p order))

-- ---- the product as a number of the smallest values

-- m * 2 ^ e times 256 is m * 2 ^ j of them
pub record Steps (m : ℕ) (e : ℤ) : Type 0 where
  pub j : ℕ
  pub same : m * up e * 256 * 2 ^ 149 ≡ m * 2 ^ j * down e

exponent_le : (k : ℕ) → 2 ^ k ≤ 2 ^ 149 → k ≤ 149
exponent_le k h = le_of_suc-le-suc (lt_of_not-le (λ (g : 150 ≤ k). lt_irrefl (2 ^ 149) (lt_of_lt_of_le (pow-lt g) h)))

steps : (m : ℕ) (e : ℤ) → down e ≤ 2 ^ 149 → Steps m e
steps m (pos k) h = record { j = k + 157; same = simp (mul-one, mul_assoc, pow-add 2 k 157) }
steps m (negsuc k) h =
    let small : suc k ≤ 149 = exponent_le (suc k) h in
    let whole : 157 - suc k + suc k ≡ 157 = omega arith in
    let power : 2 ^ (157 - suc k) * 2 ^ suc k ≡ 2 ^ 157 = sym (pow-add 2 (157 - suc k) (suc k)) ∙ ap (λ (n : ℕ). 2 ^ n) whole in
    record { j = 157 - suc k; same = simp (mul-one, mul_assoc, power) }

-- ---- the product is exact

exact : (s : Bool) (m : ℕ) (e : ℤ) → m < 2 ^ 24 → Steps m e → T (finite (round binary32 s (m * up e * 256) (down e)))
    → HasValue (round binary32 s (m * up e * 256) (down e)) s (m * up e * 256) (down e)
exact s m e small by f = go (ltb (m * 2 ^ by.j) (2 ^ 277)) refl
  where
    go : (b : Bool) → ltb (m * 2 ^ by.j) (2 ^ 277) ≡ b → HasValue (round binary32 s (m * up e * 256) (down e)) s (m * up e * 256) (down e)
    go true fine = round_exact binary32 s (m * up e * 256) (down e) m by.j (down_pos e) small (ltb-true (m * 2 ^ by.j) (2 ^ 277) fine) by.same
    go false large = absurd (overflows s (m * up e * 256) (down e) (m * 2 ^ by.j) (down_pos e) by.same (ltb-false (m * 2 ^ by.j) (2 ^ 277) large) f)

-- what a finite value's format says of it
pub record Sized (m : ℕ) (e : ℤ) : Type 0 where
  pub digits : m < 2 ^ 24
  pub place : down e ≤ 2 ^ 149

sized : (s : Bool) (m : ℕ) (e : ℤ) → T (fits binary32 (fin s m e)) → Sized m e
unfolding fits
sized s zero (pos k) h = record { digits = lit< tt; place = lit≤ tt }
sized s zero (negsuc k) h =
    let one : 1 * 2 ^ suc k ≡ 1 = eqb→eq (1 * 2 ^ suc k) 1 h in
    record { digits = lit< tt; place = le_trans (le_of_eq (sym (one-mul (2 ^ suc k)) ∙ one)) (lit≤ tt) }
sized s (suc m) e h =
    let odd-digits = eqb (suc m % 2) 1 in
    let digits = ltb (suc m) (2 ^ 24) in
    let place = leb (down e) (2 ^ 149) in
    let both = and_l (odd-digits && digits && place) (ltb (suc m * up e) (2 ^ 128 * down e)) h in
    record {
      digits = ltb→lt (suc m) (2 ^ 24) (and_r odd-digits digits (and_l (odd-digits && digits) place both));
      place = leb→le (down e) (2 ^ 149) (and_r (odd-digits && digits) place both);
    }

product : (s : Bool) (m : ℕ) (e : ℤ) → mul binary32 (fin s m e) unit_float ≡ round binary32 s (m * up e * 256) (down e)
unfolding mul
product true m e = rw (mul-one (down e))
product false m e = rw (mul-one (down e))

pub product_agrees : (x : Float) → T (fits binary32 x) → T (finite (mul binary32 x unit_float)) → rounded 1 (mul binary32 x unit_float) ≡ rounded unit x
unfolding mul rounded
product_agrees nan h f = absurd f
product_agrees (inf s) h f = absurd f
product_agrees (fin s m e) h f =
    let size = sized s m e h in
    let is = product s m e in
    let value = exact s m e size.digits (steps m e size.place) (subst (λ (y : Float). T (finite y)) is f) in
    ap (rounded 1) is
    ∙ rounded_of_value 1 (round binary32 s (m * up e * 256) (down e)) s (m * up e * 256) (down e) (down_pos e) value
    ∙ rw (mul-one (m * up e * 256))
