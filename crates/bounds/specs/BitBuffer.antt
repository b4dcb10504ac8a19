-- A bit buffer over codes: bits that were read and not yet taken. Assumes nothing.
use Rattle.std.specs.Prelude.{◌≡◌, ℕ, zero, suc, ◌+◌, ◌-◌, ◌*◌, ◌/◌, ◌%◌, ◌^◌, ◌<◌, ◌≤◌, List, [], ◌∷◌, ◌++◌, drop, slice_index, slice_index_or}
use Rattle.std.proofs.Math.Path.{refl}
use Rattle.std.proofs.Common.{sym, ◌∙◌, zero-mul, suc-mul, suc-add, add_comm, add_assoc, add-mul, mul_assoc, mod-eq_of_lt, one-add, drop_at, drop-drop, pow-add}
use Rattle.std.proofs.Math.Nat.{zero-add}
use native.Mathlib.Omega.{arith}
use Rattle.std.proofs.Math.Seq.{drop-nil}
use Rattle.std.proofs.Math.Pow.{high, low, field, mod-mod-pow}
use Rattle.std.proofs.lemmas.Nat.{mod-pow-add}
use Rattle.codes.specs.Bits.{low_bits, from_bits, byte_bits, bits_at}
use Rattle.codes.specs.BitLaws.{Bytes, binary_drop, binary_bytes, length_low, from_low, from_lt, bits_at_lem}

-- the last `count` of `bits` are those of the codes from a place up to byte `next`
pub record Waits (codes : List ℕ) (from bits count next : ℕ) : Type 0 where
  pub place : from + count ≡ next * 8
  pub few : count ≤ 62
  pub begun : 1 ≤ next
  pub are : bits % 2 ^ count ≡ from_bits count (drop from (byte_bits codes))

-- the first w of the waiting bits, from a place on, were taken
pub record Taken (codes : List ℕ) (w from bits count next : ℕ) : Type 0 where
  pub region : bits / 2 ^ count % 2 ^ w ≡ bits_at codes from w
  pub rest : Waits codes (from + w) bits count next

-- the byte at an index and the next three, as one number
abbrev pub four_bytes : List ℕ → ℕ → ℕ
four_bytes codes i = ((slice_index codes i * 256 + slice_index codes (i + 1)) * 256 + slice_index codes (i + 2)) * 256 + slice_index codes (i + 3)

-- ---- laws

-- the number of the first v + w bits, by those of the first v and of the next w
from_split : (v w : ℕ) (bits : List ℕ) → from_bits (v + w) bits ≡ from_bits v bits * 2 ^ w + from_bits w (drop v bits)
unfolding from_bits
from_split zero w bits = rw (zero-add w, zero-mul (2 ^ w), zero-add)
from_split (suc v) w bits =
    rw (suc-add v w, from_split v w (drop 1 bits), pow-add 2 v w, drop-drop v 1 bits, add-mul, mul_assoc, one-add v) (sym (add_assoc _ _ _))

module _ (codes : List ℕ) (from : ℕ) where
  bits_lt : (w : ℕ) → from_bits w (drop from (byte_bits codes)) < 2 ^ w
  bits_lt w = from_lt w (binary_drop from (binary_bytes codes))

  pub begins : {bits : ℕ} → bits ≡ bits_at codes from (8 - from % 8) → Waits codes from bits (8 - from % 8) (from / 8 + 1)
  begins is =
      let few : 8 - from % 8 ≤ 8 = omega arith in
      record {
        place = omega arith;
        few = omega arith;
        begun = omega arith;
        are = rw (is, bits_at_lem codes from (8 - from % 8) few) (mod-eq_of_lt (bits_lt (8 - from % 8)));
      }

-- a byte's bits are its number
byte_bits_lem : (codes : List ℕ) → Bytes codes → (i : ℕ) → from_bits 8 (drop (i * 8) (byte_bits codes)) ≡ slice_index codes i
unfolding byte_bits
byte_bits_lem [] bytes i = rw (drop-nil (i * 8)) (unfold from_bits in refl)
byte_bits_lem (x ∷ codes) bytes zero = from_low 8 x (byte_bits codes) ∙ mod-eq_of_lt (bytes 0)
byte_bits_lem (x ∷ codes) bytes (suc i) =
    rw (
      suc-mul i 8,
      add_comm (i * 8) 8,
      ← drop-drop (i * 8) 8 (low_bits 8 x ++ byte_bits codes),
      drop_at (low_bits 8 x) (byte_bits codes) 8 (length_low 8 x),
    )
    (byte_bits_lem codes (λ j. bytes (suc j)) i)

-- a byte more
module _ (codes : List ℕ) (bytes : Bytes codes) (from : ℕ) where
  more : (bits count next : ℕ) → from + count ≡ next * 8 → bits % 2 ^ count ≡ from_bits count (drop from (byte_bits codes))
      → (bits * 256 + slice_index codes next) % 2 ^ (count + 8) ≡ from_bits (count + 8) (drop from (byte_bits codes))
  more bits count next place are =
      let small : slice_index_or codes next 0 < 2 ^ 8 = bytes next in
      mod-pow-add (bits * 2 ^ 8 + slice_index codes next) count 8
      ∙ rw (high bits 8 small, low bits 8 small, are, from_split count 8 (drop from (byte_bits codes)), drop-drop, place)
      (rw (byte_bits_lem codes bytes next))

  -- four more
  four_more : (bits count next : ℕ) → from + count ≡ next * 8 → bits % 2 ^ count ≡ from_bits count (drop from (byte_bits codes))
      → (bits * 4294967296 + four_bytes codes next) % 2 ^ (count + 32) ≡ from_bits (count + 32) (drop from (byte_bits codes))
  four_more bits count next place are =
      let one = more bits count next place are in
      let two = more _ (count + 8) (next + 1) (omega arith) one in
      let three = more _ (count + 8 + 8) (next + 2) (omega arith) two in
      let four = more _ (count + 8 + 8 + 8) (next + 3) (omega arith) three in
      let first = bits * 256 + slice_index_or codes next 0 in
      let joined : ((first * 256 + slice_index codes (next + 1)) * 256 + slice_index codes (next + 2)) * 256 + slice_index codes (next + 3)
      ≡ bits * 4294967296 + four_bytes codes next = omega arith in
      let all : count + 8 + 8 + 8 + 8 ≡ count + 32 = omega arith in
      rw (joined, all) at four

-- bits are taken off the front
taken : (codes : List ℕ) (w from bits left : ℕ) → w ≤ 8 → bits % 2 ^ (w + left) ≡ from_bits (w + left) (drop from (byte_bits codes))
    → (bits / 2 ^ left % 2 ^ w ≡ bits_at codes from w) × (bits % 2 ^ left ≡ from_bits left (drop (from + w) (byte_bits codes)))
taken codes w from bits left few are =
    let first = from_bits w (drop from (byte_bits codes)) in
    let whole : bits % 2 ^ (w + left) ≡ first * 2 ^ left + from_bits left (drop (from + w) (byte_bits codes)) =
    rw drop-drop at (are ∙ from_split w left (drop from (byte_bits codes))) in
    let small = bits_lt codes (from + w) left in (
      sym (field bits w left) ∙ rw (whole, high first left small) (sym (bits_at_lem codes from w few)),
      sym (mod-mod-pow bits w left) ∙ rw (whole, low first left small),
    )

-- what waits without the first w, with a byte more, and with seven
module _ {codes : List ℕ} {from bits count next : ℕ} (is : Waits codes from bits count next) (w : ℕ) (few : w ≤ 7) where
  pub takes : w ≤ count → Taken codes w from bits (count - w) next
  takes enough =
      let all : w + (count - w) ≡ count = omega arith in
      let both = taken codes w from bits (count - w) (omega arith) (rw all is.are) in
      record {
        region = both.0;
        rest = record { place = omega (arith, is.place); few = omega (arith, is.few); begun = is.begun; are = both.1 };
      }

  module _ (bytes : Bytes codes) (short : count < w) where
    pub one_more : Waits codes from (bits % 256 * 256 + slice_index codes next) (count + 8) (next + 1)
    one_more =
        let wide : 8 - count + count ≡ 8 = omega arith in
        let kept : bits % 256 % 2 ^ count ≡ from_bits count (drop from (byte_bits codes)) =
        rw wide at (mod-mod-pow bits (8 - count) count) ∙ is.are in
        record {
          place = omega (arith, is.place);
          few = omega arith;
          begun = omega arith;
          are = more codes bytes from (bits % 256) count next is.place kept;
        }

    -- the eight bytes begin with the one whose last bits wait
    pub seven_more : Waits codes from (four_bytes codes (next - 1) * 4294967296 + four_bytes codes (next + 3)) (count + 56) (next + 7)
    seven_more =
        let byte = (next - 1) * 8 in
        let front = four_bytes codes (next - 1) in
        let none : 0 % 2 ^ 0 ≡ from_bits 0 (drop byte (byte_bits codes)) = unfold from_bits in refl in
        let half : front % 2 ^ 32 ≡ from_bits 32 (drop byte (byte_bits codes)) =
        rw (zero-mul 4294967296, zero-add front) at (four_more codes bytes byte 0 0 (next - 1) (omega arith) none) in
        let whole = four_more codes bytes byte front 32 (next + 3) (omega (arith, is.begun)) half in
        let all : 8 - count + (count + 56) ≡ 64 = omega arith in
        let start : byte + (8 - count) ≡ from = omega (arith, is.place, is.begun) in
        let read =
        (taken codes (8 - count) byte (front * 4294967296 + four_bytes codes (next + 3)) (count + 56) (omega arith) (rw all whole)).1 in
        record { place = omega (arith, is.place); few = omega arith; begun = omega arith; are = rw start at read }
