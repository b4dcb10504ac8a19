-- Signed numbers as bytes, from keys: 2^31 more than the key has the low bytes of the number in two's complement. Assumes nothing.
use Rattle.std.specs.Prelude.{◌≡◌, refl, ℕ, zero, suc, ◌+◌, ◌-◌, ◌*◌, ◌/◌, ◌%◌, ◌^◌, ◌<◌, ℤ, pos, negsuc}
use Rattle.std.proofs.Common.{sym, ap, ◌∙◌, pow-suc, mul_assoc, mul_comm, arith, of_z}
use Rattle.std.specs.Int.Signed.{mag}
use Rattle.std.specs.Int.{w16, w32}
use Rattle.signed.specs.Keys.{key_of}
use Rattle.records.specs.Bytes.{low_first}

-- x has the low bytes of z, which has 32 bits
pub record Bits (x : ℕ) (z : ℤ) : Type 0 where
  pub small : mag z < 2 ^ 31
  pub is : x ≡ key_of z + 2 ^ 31

-- only the low bytes are looked at
low_more : (w x k : ℕ) → low_first w (x + k * 256 ^ w) ≡ low_first w x
unfolding low_first
low_more zero x k = refl
low_more (suc w) x k =
    let grown : k * 256 ^ suc w ≡ 256 * (k * 256 ^ w) =
    ap (λ (p : ℕ). k * p) (pow-suc 256 w) ∙ sym (mul_assoc k (256 ^ w) 256) ∙ mul_comm (k * 256 ^ w) 256 in
    let low : (x + 256 * (k * 256 ^ w)) % 256 ≡ x % 256 = omega arith in
    let high : (x + 256 * (k * 256 ^ w)) / 256 ≡ x / 256 + k * 256 ^ w = omega arith in
    rw (grown, low, high, low_more w (x / 256) k)

pub low_mark : (x : ℕ) (z : ℤ) → Bits x z → low_first 4 x ≡ low_first 4 (of_z w32 z)
unfolding key_of
low_mark x (pos n) b =
    let more : x ≡ n + 1 * 256 ^ 4 = omega (arith, b.is) in
    rw more (low_more 4 n 1)
low_mark x (negsuc n) b =
    let same : x ≡ 2 ^ 32 - suc n = omega (arith, b.is, b.small) in
    rw same

pub low_component : (x : ℕ) (z : ℤ) → Bits x z → mag z < 2 ^ 15 → low_first 2 x ≡ low_first 2 (of_z w16 z)
unfolding key_of
low_component x (pos n) b few =
    let more : x ≡ n + 65536 * 256 ^ 2 = omega (arith, b.is) in
    rw more (low_more 2 n 65536)
low_component x (negsuc n) b few =
    let more : x ≡ 2 ^ 16 - suc n + 65535 * 256 ^ 2 = omega (arith, b.is, b.small) in
    rw more (low_more 2 (2 ^ 16 - suc n) 65535)
