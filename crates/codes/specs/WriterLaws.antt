-- Bits written into bytes from the front: some bytes are full, and the next has bits and free places. Assumes nothing.
use Rattle.std.specs.Prelude.{◌≡◌, refl, List, [], ◌∷◌, ◌++◌, ℕ, zero, suc, ◌+◌, ◌-◌, ◌*◌, ◌/◌, ◌%◌, ◌^◌, ◌≤◌, ◌<◌, min, length, take, set}
use Rattle.std.proofs.Common.{sym, ◌∙◌, append_assoc, append-nil, mod-lt, add-zero, add-one, arith, length-set, length-append, pow_pos, pow-add, shr_lt, length-take-le, take_all, take_at, take-suc-set}
use Rattle.std.proofs.Math.Nat.{min-eq_left, min-eq_right, sub_self}
use Rattle.std.proofs.Math.Arith.{digits_lt}
use Rattle.codes.specs.Bits.{low_bits, byte_bits, bytes_of}
use Rattle.codes.specs.BitLaws.{Bytes, length_low, length_byte_bits, low_split, low_mod, low_join, bytes_bits, bytes_same, same_zeros}
use Rattle.codes.specs.declared.bit_writer.BitWriter.{BitWriter}
use Rattle.codes.specs.BitWriter.{placed, written_bits, Writes}

-- the bits are in the bytes before byte `next`, and the last of them in the number of that byte's bits; it may be full
pub record Filled (bits bytes : List ℕ) (next byte free : ℕ) : Type 0 where
  pub within : next ≤ length bytes
  pub few : free ≤ 8
  pub small : byte < 2 ^ (8 - free)
  pub are : Bytes (take next bytes)
  pub is : byte_bits (take next bytes) ++ low_bits (8 - free) byte ≡ bits

-- so it is of a writer, whose next byte is not full
pub filled_by : {bytes : List ℕ} {writer : BitWriter} → Writes bytes writer
    → Filled (written_bits bytes writer) bytes writer.next writer.byte writer.free
filled_by at = record { within = at.within; few = at.few; small = at.small; are = at.are; is = refl }

-- a writer at the first bit has written none
pub begins : (bytes : List ℕ) {writer : BitWriter} → (writer.next ≡ 0) × (writer.byte ≡ 0) × (writer.free ≡ 8)
    → Writes bytes writer × (written_bits bytes writer ≡ [])
unfolding byte_bits low_bits
begins bytes at =
    rw (at.0, at.1, at.2)
    (record { within = omega arith; some = omega arith; few = omega arith; small = omega arith; are = λ i. omega arith }, refl)

-- how many bits they are
pub position : {bits bytes : List ℕ} {next byte free : ℕ} → Filled bits bytes next byte free → length bits ≡ next * 8 + (8 - free)
position {bytes = bytes} {next = next} {byte = byte} {free = free} at =
    rw (← at.is)
    (length-append (byte_bits (take next bytes)) (low_bits (8 - free) byte)
    ∙ rw (length_byte_bits (take next bytes), length-take-le next bytes at.within, length_low (8 - free) byte))

-- c bits are placed behind the others
place_bits : {bits bytes : List ℕ} {next byte free : ℕ} → Filled bits bytes next byte free → (c y : ℕ) → c ≤ free → y < 2 ^ c
    → Filled (bits ++ low_bits c y) bytes next (byte * 2 ^ c + y) (free - c)
place_bits {bytes = bytes} {next = next} {byte = byte} {free = free} at c y room own =
    let wide : 8 - (free - c) ≡ 8 - free + c = omega (arith, at.few) in
    record {
      within = at.within;
      few = omega (arith, at.few);
      small = rw (wide, pow-add) (digits_lt at.small own);
      are = at.are;
      is = rw (wide, ← low_join (8 - free) c byte y own, ← append_assoc, at.is);
    }

bits_behind : (xs ys : List ℕ) → byte_bits (xs ++ ys) ≡ byte_bits xs ++ byte_bits ys
unfolding byte_bits
bits_behind [] ys = refl
bits_behind (x ∷ xs) ys = rw (bits_behind xs ys) (sym (append_assoc (low_bits 8 x) (byte_bits xs) (byte_bits ys)))

bytes_behind : (xs : List ℕ) {x : ℕ} → Bytes xs → x < 256 → Bytes (xs ++ x ∷ [])
bytes_behind [] are small zero = small
bytes_behind [] are small (suc i) = omega arith
bytes_behind (y ∷ xs) are small zero = are 0
bytes_behind (y ∷ xs) are small (suc i) = bytes_behind xs (λ j. are (suc j)) small i

-- a full byte is written
write : {bits bytes : List ℕ} {next byte : ℕ} → Filled bits bytes next byte 0 → next < length bytes
    → Filled bits (set bytes next byte) (next + 1) 0 8
unfolding byte_bits low_bits
write {bits} {bytes} {next} {byte} at room =
    let front : take (next + 1) (set bytes next byte) ≡ take next bytes ++ byte ∷ [] = rw add-one (take-suc-set bytes next byte room) in
    record {
      within = simp length-set (omega arith);
      few = omega arith;
      small = omega arith;
      are = rw front (bytes_behind (take next bytes) at.are at.small);
      is = rw (front, bits_behind (take next bytes) (byte ∷ []), append-nil, append-nil) at.is;
    }

-- ---- a number

-- its first c bits
first_low : (c left x : ℕ) → take c (low_bits (c + left) x) ≡ low_bits c (x / 2 ^ left)
first_low c left x = rw (low_split c left x) (take_at (low_bits c (x / 2 ^ left)) (low_bits left x) c (length_low c (x / 2 ^ left)))

module _ {bits bytes : List ℕ} {next byte free : ℕ} (at : Filled bits bytes next byte free) (w x : ℕ) (own : x < 2 ^ w) where
  -- a step: the first of its w bits stand behind the others, as many as were free
  pub step : Filled (bits ++ take (min w free) (low_bits w x)) bytes next (placed x w byte free) (free - min w free)
  step =
      let c = min w free in
      let left = w - c in
      let all : w ≡ c + left = omega arith in
      rw (rw (← all) at (first_low c left x)) (place_bits at c (x / 2 ^ left) (omega arith) (shr_lt c left (rw all at own)))

  -- it takes one step
  pub one_step : w < free → Filled (bits ++ low_bits w x) bytes next (placed x w byte free) (free - w)
  one_step less =
      let whole : min w free ≡ w = min-eq_left (omega arith) in
      rw whole (rw (whole, take_all w (low_bits w x) (omega (arith, length_low w x))) at step)

  -- or two: the first fills the byte
  module _ (less : free ≤ w) where
    filled : Filled (bits ++ take free (low_bits w x)) bytes next (placed x w byte free) 0
    filled =
        let most : min w free ≡ free = min-eq_right less in
        rw most (rw (most, sub_self free) at step)

    pub byte_small : placed x w byte free < 256
    byte_small = filled.small

-- the second places the rest
pub two_steps : {bits bytes : List ℕ} {next byte free : ℕ} → Filled bits bytes next byte free → (w x : ℕ) → x < 2 ^ w → free ≤ w
    → next < length bytes → w - free < 8
    → Filled (bits ++ low_bits w x) (set bytes next (placed x w byte free)) (next + 1)
    (placed (x % 2 ^ (w - free)) (w - free) 0 8) (8 - (w - free))
two_steps {free = free} at w x own less room few =
    let left = w - free in
    let all : w ≡ free + left = omega arith in
    let number : low_bits w x ≡ take free (low_bits w x) ++ low_bits left x =
    rw (← all) at (rw (← first_low free left x) at (low_split free left x)) in
    rw (number, ← low_mod left x, ← append_assoc)
    (one_step (write (filled at w x own less) room) left (x % 2 ^ left) (mod-lt x (pow_pos left)) few)

-- ---- the end

-- with no bit in the next byte the bytes are the bits'
pub complete : {bits bytes : List ℕ} {next byte free : ℕ} → Filled bits bytes next byte free → 8 ≤ free → length bytes ≤ next
    → bytes ≡ bytes_of (length bytes) bits
unfolding low_bits
complete {bytes = bytes} {next = next} {free = free} at none past =
    let nothing : 8 - free ≡ 0 = omega arith in
    let front : take next bytes ≡ bytes = take_all next bytes past in
    rw (← at.is, nothing, front, append-nil) (sym (bytes_bits bytes (rw front at at.are)))

-- otherwise the last byte's free bits are zero
module _ {bits bytes : List ℕ} {next byte free : ℕ} (at : Filled bits bytes next byte free) where
  zeros : Filled (bits ++ low_bits free 0) bytes next (byte * 2 ^ free) 0
  zeros = rw (sub_self free, add-zero) at (place_bits at free 0 (omega arith) (pow_pos free))

  pub last_lt : byte * 2 ^ free < 256
  last_lt = zeros.small

  pub last_byte : length bytes ≡ next + 1 → set bytes next (byte * 2 ^ free) ≡ bytes_of (length bytes) bits
  last_byte one =
      complete (write zeros (omega arith)) (omega arith) (simp length-set (omega arith))
      ∙ rw length-set (sym (bytes_same (length bytes) bits (bits ++ low_bits free 0) (same_zeros free bits)))
