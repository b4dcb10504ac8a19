-- Whole numbers with m added are numbers from 0 on, for all that lie above -m. There a gap is a difference. Assumes nothing.
use Rattle.std.specs.Prelude.{◌≡◌, refl, Bool, true, false, cond, ℕ, zero, suc, ◌+◌, ◌-◌, ◌≤◌, ◌<◌, ◌^◌, ltb, ℤ, pos, negsuc, nat_abs}
use Rattle.std.proofs.Common.{arith, leb-true, ltb-true, ltb-false}
use Rattle.std.proofs.Math.IntN.{pred_ℤ, sub_ℕ}
use Rattle.std.specs.Int.Signed.{mag, le_z}
use Rattle.signed.specs.Keys.{key_of}
use Rattle.step.specs.Step.{gap}

unfoldable pub place : ℕ → ℤ → ℕ
place m (pos n) = m + n
place m (negsuc n) = m - suc n

apart : (a b : ℕ) → nat_abs (sub_ℕ a b) ≡ (a - b) + (b - a)
apart a b = go (ltb a b) refl
  where
    go : (t : Bool) → ltb a b ≡ t → nat_abs (cond t (negsuc (b - suc a)) (pos (a - b))) ≡ (a - b) + (b - a)
    go true e = omega (arith, ltb-true a b e)
    go false e = omega (arith, ltb-false a b e)

pub gap_place : (m : ℕ) (a b : ℤ) → mag a < m → mag b < m → gap a b ≡ (place m a - place m b) + (place m b - place m a)
unfolding place
gap_place m (pos a) (pos zero) ha hb = omega arith
gap_place m (pos a) (pos (suc b)) ha hb = omega (arith, apart a (suc b))
gap_place m (pos a) (negsuc b) ha hb = omega arith
gap_place m (negsuc a) (pos zero) ha hb = omega (arith, apart 0 (suc a))
gap_place m (negsuc a) (pos (suc b)) ha hb = omega arith
gap_place m (negsuc a) (negsuc b) ha hb = omega (arith, apart (suc b) (suc a))

-- the order is kept
pub place_le : (m : ℕ) (a b : ℤ) → le_z a b ≡ true → place m a ≤ place m b
unfolding place
place_le m (pos a) (pos b) h = omega (arith, leb-true a b h)
place_le m (pos a) (negsuc b) h =
    let impossible : ◌≡◌ {A = ℕ} 0 1 = cc in
    absurd (omega arith)
place_le m (negsuc a) (pos b) h = omega arith
place_le m (negsuc a) (negsuc b) h = omega (arith, leb-true b a h)

-- on the way from a to c over b the gaps add up
pub gap_between : (a b c : ℤ) → le_z a b ≡ true → le_z b c ≡ true → gap a c ≡ gap a b + gap b c
gap_between a b c ab bc =
    let m : ℕ = suc (mag a + mag b + mag c) in
    let ha : mag a < m = omega arith in
    let hb : mag b < m = omega arith in
    let hc : mag c < m = omega arith in
    omega (arith, place_le m a b ab, place_le m b c bc, gap_place m a c ha hc, gap_place m a b ha hb, gap_place m b c hb hc)

pub gap_turned : (a b : ℤ) → gap a b ≡ gap b a
gap_turned a b =
    let m : ℕ = suc (mag a + mag b) in
    let ha : mag a < m = omega arith in
    let hb : mag b < m = omega arith in
    omega (arith, gap_place m a b ha hb, gap_place m b a hb ha)

-- a gap is at most the two numbers' sizes together
place_size : (m : ℕ) (z : ℤ) → mag z < m → (place m z ≤ m + mag z) × (m ≤ place m z + mag z + 1)
unfolding place
place_size m (pos n) h = (omega arith, omega arith)
place_size m (negsuc n) h = (omega arith, omega arith)

pub gap_size : (a b : ℤ) → gap a b ≤ mag a + mag b + 1
gap_size a b =
    let m : ℕ = suc (mag a + mag b) in
    let ha : mag a < m = omega arith in
    let hb : mag b < m = omega arith in
    omega (arith, gap_place m a b ha hb, place_size m a ha, place_size m b hb)

-- the number before it
place_pred : (m : ℕ) (z : ℤ) → place m (pred_ℤ z) ≡ place m z - 1
unfolding place
place_pred m (pos zero) = omega arith
place_pred m (pos (suc n)) = omega arith
place_pred m (negsuc n) = omega arith

pub pred_size : (z : ℤ) → mag (pred_ℤ z) ≤ mag z + 1
pred_size (pos zero) = omega arith
pred_size (pos (suc n)) = omega arith
pred_size (negsuc n) = omega arith

-- ---- by keys

-- the key of a number of 32 bits is its place for 2^31
key_place : (z : ℤ) → key_of z ≡ place (2 ^ 31) z
unfolding key_of place
key_place (pos n) = refl
key_place (negsuc n) = refl

place_key : (z : ℤ) → mag z < 2 ^ 31 → place (2 ^ 31 + 1) z ≡ key_of z + 1
unfolding key_of place
place_key (pos n) h = omega arith
place_key (negsuc n) h = omega arith

module _ (a b : ℤ) (ha : mag a < 2 ^ 31) (hb : mag b < 2 ^ 31) where
  pub gap_key : gap a b ≡ (key_of a - key_of b) + (key_of b - key_of a)
  gap_key = rw (key_place a, key_place b) (gap_place (2 ^ 31) a b ha hb)

  -- the number before b need not be one of 32 bits
  pub gap_key_pred : gap a (pred_ℤ b) ≡ (key_of a + 1 - key_of b) + (key_of b - (key_of a + 1))
  gap_key_pred =
      let m : ℕ = 2 ^ 31 + 1 in
      let within : mag (pred_ℤ b) < m = omega (arith, pred_size b) in
      omega (arith, gap_place m a (pred_ℤ b) (omega arith) within, place_pred m b, place_key a ha, place_key b hb)
