-- Laws of numbers as text. Assumes nothing.
use Rattle.std.specs.Prelude.{◌≡◌, refl, Bool, true, false, cond, [], ◌∷◌, ◌++◌, ℕ, zero, suc, ◌*◌, ◌/◌, ◌%◌, ◌^◌, ◌≤◌, ◌<◌, ltb, length}
use Rattle.std.proofs.Common.{pow-suc, div-lt_iff_lt-mul, arith, ltb-true, ltb-false, lt-ltb, le-ltb, lit<, length-append}
use Rattle.text.specs.Text.{digit, digits_within, decimal}

-- more room than there are digits gives no more digits
within_same : (w v x : ℕ) → x < w → x < v → digits_within w x ≡ digits_within v x
unfolding digits_within
within_same zero v x small small' = absurd (omega arith)
within_same (suc w) zero x small small' = absurd (omega arith)
within_same (suc w) (suc v) x small small' = go (ltb x 10) refl (λ ten. within_same w v (x / 10) (omega arith) (omega arith))
  where
    go : (t : Bool) → ltb x 10 ≡ t → (10 ≤ x → digits_within w (x / 10) ≡ digits_within v (x / 10))
        → cond t (digit x ∷ []) (digits_within w (x / 10) ++ (digit (x % 10) ∷ []))
        ≡ cond t (digit x ∷ []) (digits_within v (x / 10) ++ (digit (x % 10) ∷ []))
    go true e same = refl
    go false e same = rw (same (ltb-false x 10 e))

-- a number below ten is one digit, another those of its tens and one more
pub decimal_one : (x : ℕ) → x < 10 → decimal x ≡ digit x ∷ []
unfolding decimal digits_within
decimal_one x small = rw (lt-ltb x 10 small)

pub decimal_more : (x : ℕ) → 10 ≤ x → decimal x ≡ decimal (x / 10) ++ (digit (x % 10) ∷ [])
unfolding decimal digits_within
decimal_more x large = rw (le-ltb x 10 large, within_same x (suc (x / 10)) (x / 10) (omega arith) (omega arith))

-- a number below 10^w has no more than w digits
pub decimal_length : (w x : ℕ) → x < 10 ^ suc w → length (decimal x) ≤ suc w
decimal_length zero x small = rw (decimal_one x (rw pow-suc at small)) (omega arith)
decimal_length (suc w) x small = go (ltb x 10) refl (decimal_length w (x / 10))
  where
    go : (t : Bool) → ltb x 10 ≡ t → (x / 10 < 10 ^ suc w → length (decimal (x / 10)) ≤ suc w) → length (decimal x) ≤ suc (suc w)
    go true e shorter = rw (decimal_one x (ltb-true x 10 e)) (omega arith)
    go false e shorter =
        let less : x < 10 ^ suc w * 10 = rw (pow-suc 10 (suc w)) at small in
        let before = shorter ((div-lt_iff_lt-mul (lit< tt)).1 less) in
        rw (decimal_more x (ltb-false x 10 e), length-append (decimal (x / 10)) (digit (x % 10) ∷ [])) (omega arith)
