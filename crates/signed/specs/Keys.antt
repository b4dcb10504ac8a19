-- Keys of whole numbers: numbers from 0 on, in the same order. Assumes nothing.
use Rattle.std.specs.Prelude.{◌≡◌, ℕ, suc, ◌+◌, ◌-◌, ◌^◌, ◌<◌, ◌≤◌, Bool, true, false, not, ◌&&◌, ℤ, pos, negsuc, ◌+ℤ◌, int_le, int_lt, nat_le, nat_lt, refl}
use Rattle.std.proofs.Common.{sym, ap, ◌∙◌, add_comm, arith, leb-true, le-leb, le-ltb, lit<}
use Rattle.std.proofs.lemmas.Bool.{lt-leb}
use Rattle.std.specs.Int.Signed.{mag}
use Rattle.limits.specs.Limits.{is_component, is_mark}
use Rattle.limits.specs.Tests.{same_leb, ltb_not, lt_z_not}

-- 2^31 more, so that every number of 32 bits has a key of its own
unfoldable pub key_of : ℤ → ℕ
key_of (pos n) = 2 ^ 31 + n
key_of (negsuc n) = 2 ^ 31 - suc n

-- ---- laws

-- the key of a number of 32 bits is one of 32 bits
pub key_fits : (z : ℤ) → mag z < 2 ^ 31 → key_of z < 2 ^ 32
unfolding key_of
key_fits (pos n) h = omega arith
key_fits (negsuc n) h = omega arith

-- a key is 2^31 more than its number
pub key_sum : (z : ℤ) → mag z < 2 ^ 31 → z +ℤ pos (2 ^ 31) ≡ pos (key_of z)
unfolding key_of
key_sum (pos n) h = ap pos (add_comm n (2 ^ 31))
key_sum (negsuc n) h =
    let bound : suc n ≤ 2 ^ 31 = omega arith in
    rw (le-ltb (2 ^ 31) (suc n) bound)

-- the order of keys is the order of numbers
pub key_le : (a b : ℤ) → mag a < 2 ^ 31 → mag b < 2 ^ 31 → int_le a b ≡ nat_le (key_of a) (key_of b)
unfolding key_of
key_le (pos a) (pos b) ha hb = same_leb a b (2 ^ 31 + a) (2 ^ 31 + b) (omega arith) (omega arith)
key_le (pos a) (negsuc b) ha hb = sym (lt-leb (2 ^ 31 + a) (2 ^ 31 - suc b) (omega arith))
key_le (negsuc a) (pos b) ha hb = sym (le-leb (2 ^ 31 - suc a) (2 ^ 31 + b) (omega arith))
key_le (negsuc a) (negsuc b) ha hb = same_leb b a (2 ^ 31 - suc a) (2 ^ 31 - suc b) (λ h. omega arith) (λ h. omega arith)

pub key_lt : (a b : ℤ) → mag a < 2 ^ 31 → mag b < 2 ^ 31 → int_lt a b ≡ nat_lt (key_of a) (key_of b)
key_lt a b ha hb = lt_z_not a b ∙ ap not (key_le b a hb ha) ∙ sym (ltb_not (key_of a) (key_of b))

-- the ranges of components and marks, by keys, for every whole number
within : (top : ℕ) (z : ℤ) → int_le (negsuc 32767) z && int_le z (pos top) ≡ nat_le (2 ^ 31 - 32768) (key_of z) && nat_le (key_of z) (2 ^ 31 + top)
unfolding key_of
within top (pos n) =
    rw (le-leb (2 ^ 31 - 32768) (2 ^ 31 + n) (omega arith)) (same_leb n top (2 ^ 31 + n) (2 ^ 31 + top) (omega arith) (omega arith))
within top (negsuc n) =
    rw (le-leb (2 ^ 31 - suc n) (2 ^ 31 + top) (omega arith))
    (ap (λ (t : Bool). t && true) (same_leb n 32767 (2 ^ 31 - 32768) (2 ^ 31 - suc n) (λ h. omega arith) (λ h. omega arith)))

pub key_component : (z : ℤ) → is_component z ≡ nat_le (2 ^ 31 - 32768) (key_of z) && nat_le (key_of z) (2 ^ 31 + 32767)
key_component z = within 32767 z

pub key_mark : (z : ℤ) → is_mark z ≡ nat_le (2 ^ 31 - 32768) (key_of z) && nat_le (key_of z) (2 ^ 31 + 32768)
key_mark z = within 32768 z

-- a component is a number of 32 bits, and so is a mark
small : (top : ℕ) → top < 2 ^ 31 → (z : ℤ) → int_le (negsuc 32767) z && int_le z (pos top) ≡ true → mag z < 2 ^ 31
small top t (pos n) h = omega (arith, leb-true n top h)
small top t (negsuc n) h = go (nat_le n 32767) refl h
  where
    go : (low : Bool) → nat_le n 32767 ≡ low → low && true ≡ true → n < 2 ^ 31
    go true e h = omega (arith, leb-true n 32767 e)
    go false e h =
        let impossible : ◌≡◌ {A = ℕ} 0 1 = cc in
        absurd (omega arith)

pub component_small : (z : ℤ) → is_component z ≡ true → mag z < 2 ^ 31
component_small z h = small 32767 (lit< tt) z h

pub mark_small : (z : ℤ) → is_mark z ≡ true → mag z < 2 ^ 31
mark_small z h = small 32768 (lit< tt) z h
