-- Laws of numbers as lists of bits. Assumes nothing.
use Rattle.std.specs.Prelude.{◌≡◌, refl, Bool, true, false, ◌&&◌, List, [], ◌∷◌, ◌++◌, ℕ, zero, suc, ◌+◌, ◌-◌, ◌*◌, ◌/◌, ◌%◌, ◌^◌, ◌≤◌, ◌<◌, eqb, length, get_or, take, drop, replicate}
use Rattle.std.proofs.Common.{sym, ap, ◌∙◌, append_assoc, append-nil, zero-le, suc-add, add_comm, zero-add, suc-mul, zero-mul, mul_assoc, mul_comm, add-zero, mul-le-mul_right, mod-lt, mod-eq_of_lt, pow-suc, le_of_suc-le-suc, one-add, arith, eqb-true, le-leb, ne_eqb, length-append, drop_at, get_or-drop, drop-drop, pow_pos, pow_mono, shr-shr}
use Rattle.std.proofs.Math.Bool.{and-eq-true_iff}
use Rattle.std.proofs.Math.Nat.{sub-zero, suc-sub-suc, zero-div, mul-add-div_right, mul-add-mod_self_right, pow-succ'}
use Rattle.std.proofs.lemmas.Bool.{eqb-false}
use Rattle.std.proofs.Math.Arith.{digits_lt}
use Rattle.std.proofs.Math.Seq.{drop-nil}
use Rattle.std.proofs.Math.Pow.{high, split}
use Rattle.std.proofs.lemmas.Nat.{mod-pow-add}
use Rattle.codes.specs.Bits.{low_bits, from_bits, bytes_of, byte_bits, bits_at, all_zero}

-- each is 0 or 1
pub data Binary : List ℕ → Type 0 where
  none : Binary []
  more : {x : ℕ} {bits : List ℕ} → x < 2 → Binary bits → Binary (x ∷ bits)

pub binary_drop : (n : ℕ) {bits : List ℕ} → Binary bits → Binary (drop n bits)
binary_drop zero h = h
binary_drop (suc n) none = none
binary_drop (suc n) (more x h) = binary_drop n h

pub binary_take : (n : ℕ) {bits : List ℕ} → Binary bits → Binary (take n bits)
binary_take zero h = none
binary_take (suc n) none = none
binary_take (suc n) (more x h) = more x (binary_take n h)

pub binary_append : {one other : List ℕ} → Binary one → Binary other → Binary (one ++ other)
binary_append none h = h
binary_append (more x g) h = more x (binary_append g h)

-- ---- the low bits of a number

pub length_low : (w x : ℕ) → length (low_bits w x) ≡ w
unfolding low_bits
length_low zero x = refl
length_low (suc w) x = ap suc (length_low w x)

pub binary_low : (w x : ℕ) → Binary (low_bits w x)
unfolding low_bits
binary_low zero x = none
binary_low (suc w) x = more (mod-lt (x / 2 ^ w) (omega arith)) (binary_low w x)

-- split at a place
pub low_split : (v w x : ℕ) → low_bits (v + w) x ≡ low_bits v (x / 2 ^ w) ++ low_bits w x
unfolding low_bits
low_split zero w x = rw zero-add
low_split (suc v) w x = rw (suc-add v w, shr-shr x w v, add_comm w v, low_split v w x)

-- a multiple of 2^w adds nothing to the low w bits
low_over : (w h l : ℕ) → low_bits w (h * 2 ^ w + l) ≡ low_bits w l
unfolding low_bits
low_over zero h l = refl
low_over (suc w) h l =
    rw (
      pow-suc 2 w,
      mul_comm (2 ^ w) 2,
      ← mul_assoc h 2 (2 ^ w),
      mul-add-div_right (pow_pos w) (h * 2) l,
      mul-add-mod_self_right h 2 (l / 2 ^ w),
      low_over w (h * 2) l,
    )

pub low_mod : (w x : ℕ) → low_bits w (x % 2 ^ w) ≡ low_bits w x
low_mod w x = sym (low_over w (x / 2 ^ w) (x % 2 ^ w)) ∙ ap (low_bits w) (split x w)

-- two numbers' bits joined
pub low_join : (v w a r : ℕ) → r < 2 ^ w → low_bits v a ++ low_bits w r ≡ low_bits (v + w) (a * 2 ^ w + r)
low_join v w a r h = sym (low_split v w (a * 2 ^ w + r) ∙ rw (high a w h, low_over w a r))

-- ---- the number of the first bits of a list

pub from_low : (w x : ℕ) (rest : List ℕ) → from_bits w (low_bits w x ++ rest) ≡ x % 2 ^ w
unfolding low_bits from_bits
from_low zero x rest = omega arith
from_low (suc w) x rest =
    rw (from_low w x rest) (sym (ap (λ (n : ℕ). x % 2 ^ n) (sym (one-add w)) ∙ mod-pow-add x 1 w))

-- the field of w bits behind the first v, of a number of v + w + u bits
pub from_field : (v w u x : ℕ) (rest : List ℕ) → from_bits w (drop v (low_bits (v + (w + u)) x ++ rest)) ≡ x / 2 ^ u % 2 ^ w
from_field v w u x rest =
    rw (
      low_split v (w + u) x,
      append_assoc,
      drop_at (low_bits v (x / 2 ^ (w + u))) (low_bits (w + u) x ++ rest) v (length_low v (x / 2 ^ (w + u))),
      low_split w u x,
      append_assoc,
    )
    (from_low w (x / 2 ^ u) (low_bits u x ++ rest))

binary_first : {bits : List ℕ} → Binary bits → get_or bits 0 0 < 2
binary_first none = omega arith
binary_first (more x h) = x

pub from_lt : (w : ℕ) {bits : List ℕ} → Binary bits → from_bits w bits < 2 ^ w
unfolding from_bits
from_lt zero h = omega arith
from_lt (suc w) h = rw (pow-succ' 2 w) (digits_lt (binary_first h) (from_lt w (binary_drop 1 h)))

digits_zero : (x m y : ℕ) → 0 < m → eqb (x * m + y) 0 ≡ eqb x 0 && eqb y 0
digits_zero x m y h = go (eqb x 0) refl
  where
    go : (t : Bool) → eqb x 0 ≡ t → eqb (x * m + y) 0 ≡ t && eqb y 0
    go true e = rw (eqb-true x 0 e, zero-mul, zero-add)
    go false e =
        let some : ¬ (x ≡ 0) = eqb-false x 0 e in
        let least : 1 * m ≤ x * m = mul-le-mul_right m (omega arith) in
        ne_eqb (x * m + y) 0 (omega arith)

-- it is 0 if each bit is
pub from_zero : (w : ℕ) (bits : List ℕ) → length bits ≤ w → eqb (from_bits w bits) 0 ≡ all_zero bits
unfolding from_bits all_zero
from_zero zero [] h = refl
from_zero zero (x ∷ bits) h = absurd (omega arith)
from_zero (suc w) [] h = rw (zero-mul, zero-add) (from_zero w [] zero-le)
from_zero (suc w) (x ∷ bits) h =
    digits_zero x (2 ^ w) (from_bits w bits) (pow_pos w) ∙ ap (λ (t : Bool). eqb x 0 && t) (from_zero w bits (le_of_suc-le-suc h))

-- ---- lists that differ in zeros at the end alone

abbrev pub Same : List ℕ → List ℕ → Type 0
Same one other = (i : ℕ) → get_or one i 0 ≡ get_or other i 0

pub same_drop : (n : ℕ) (one other : List ℕ) → Same one other → Same (drop n one) (drop n other)
same_drop n one other same i = rw (get_or-drop n one i 0, get_or-drop n other i 0) (same (n + i))

pub from_same : (w : ℕ) (one other : List ℕ) → Same one other → from_bits w one ≡ from_bits w other
unfolding from_bits
from_same zero one other same = refl
from_same (suc w) one other same = rw (same 0, from_same w (drop 1 one) (drop 1 other) (same_drop 1 one other same))

pub bytes_same : (count : ℕ) (one other : List ℕ) → Same one other → bytes_of count one ≡ bytes_of count other
unfolding bytes_of
bytes_same zero one other same = refl
bytes_same (suc count) one other same =
    rw (from_same 8 one other same, bytes_same count (drop 8 one) (drop 8 other) (same_drop 8 one other same))

-- zeros at the end are not seen
pub same_zeros : (w : ℕ) (bits : List ℕ) → Same bits (bits ++ low_bits w 0)
unfolding low_bits
same_zeros zero [] i = refl
same_zeros (suc w) [] zero = rw zero-div
same_zeros (suc w) [] (suc i) = same_zeros w [] i
same_zeros w (x ∷ bits) zero = refl
same_zeros w (x ∷ bits) (suc i) = same_zeros w bits i

-- the first w bits of a list, with zeros past its end
unfoldable pub padded : ℕ → List ℕ → List ℕ
padded zero bits = []
padded (suc w) bits = get_or bits 0 0 ∷ padded w (drop 1 bits)

pub padded_add : (v w : ℕ) (bits : List ℕ) → padded (v + w) bits ≡ padded v bits ++ padded w (drop v bits)
unfolding padded
padded_add zero w bits = rw zero-add
padded_add (suc v) w bits = rw (suc-add v w, padded_add v w (drop 1 bits), drop-drop v 1 bits, one-add v)

pub padded_long : (w : ℕ) (bits : List ℕ) → length bits ≤ w → padded w bits ≡ bits ++ replicate (w - length bits) 0
unfolding padded
padded_long zero [] h = refl
padded_long zero (x ∷ bits) h = absurd (omega arith)
padded_long (suc w) [] h = rw (padded_long w [] zero-le, sub-zero, sub-zero)
padded_long (suc w) (x ∷ bits) h = rw (padded_long w bits (le_of_suc-le-suc h), suc-sub-suc)

-- of a list that has so many
pub padded_take : (w : ℕ) (bits : List ℕ) → w ≤ length bits → padded w bits ≡ take w bits
unfolding padded
padded_take zero bits h = refl
padded_take (suc w) [] h = absurd (omega arith)
padded_take (suc w) (x ∷ bits) h = ap (λ (r : List ℕ). x ∷ r) (padded_take w bits (le_of_suc-le-suc h))

zero_at : (bits : List ℕ) → all_zero bits ≡ true → Same [] bits
unfolding all_zero
zero_at [] zeros i = refl
zero_at (x ∷ bits) zeros zero = sym (eqb-true x 0 ((and-eq-true_iff (eqb x 0) (all_zero bits)).0 zeros).0)
zero_at (x ∷ bits) zeros (suc i) = zero_at bits ((and-eq-true_iff (eqb x 0) (all_zero bits)).0 zeros).1 i

pub zeros : (n : ℕ) → all_zero (replicate n 0) ≡ true
unfolding all_zero
zeros zero = refl
zeros (suc n) = zeros n

-- nothing is lost where the other bits are zero
pub padded_same : (w : ℕ) (bits : List ℕ) → all_zero (drop w bits) ≡ true → Same (padded w bits) bits
unfolding padded
padded_same zero bits zeros i = zero_at bits zeros i
padded_same (suc w) bits zeros zero = refl
padded_same (suc w) [] zeros (suc i) = padded_same w [] (rw drop-nil zeros) i
padded_same (suc w) (x ∷ bits) zeros (suc i) = padded_same w bits zeros i

-- nor is it where the bits are cut there
pub take_same : (w : ℕ) (bits : List ℕ) → all_zero (drop w bits) ≡ true → Same (take w bits) bits
take_same zero bits zeros i = zero_at bits zeros i
take_same (suc w) [] zeros i = refl
take_same (suc w) (x ∷ bits) zeros zero = refl
take_same (suc w) (x ∷ bits) zeros (suc i) = take_same w bits zeros i

pub same_behind : (front one other : List ℕ) → Same one other → Same (front ++ one) (front ++ other)
same_behind [] one other same i = same i
same_behind (x ∷ front) one other same zero = refl
same_behind (x ∷ front) one other same (suc i) = same_behind front one other same i

pub low_from : (w : ℕ) {bits : List ℕ} → Binary bits → low_bits w (from_bits w bits) ≡ padded w bits
unfolding low_bits from_bits padded
low_from zero h = refl
low_from (suc w) {bits} h =
    rw (
      high (get_or bits 0 0) w (from_lt w (binary_drop 1 h)),
      mod-eq_of_lt (binary_first h),
      low_over w (get_or bits 0 0) (from_bits w (drop 1 bits)),
      low_from w (binary_drop 1 h),
    )

-- ---- bytes

abbrev pub Bytes : List ℕ → Type 0
Bytes bytes = (i : ℕ) → get_or bytes i 0 < 256

pub bytes_of_lem : (count : ℕ) {bits : List ℕ} → Binary bits → Bytes (bytes_of count bits)
unfolding bytes_of
bytes_of_lem zero h i = omega arith
bytes_of_lem (suc count) h zero = from_lt 8 h
bytes_of_lem (suc count) h (suc i) = bytes_of_lem count (binary_drop 8 h) i

-- bits as bytes, read back
pub bits_bytes : (count : ℕ) {bits : List ℕ} → Binary bits → byte_bits (bytes_of count bits) ≡ padded (count * 8) bits
unfolding byte_bits bytes_of padded
bits_bytes zero h = refl
bits_bytes (suc count) {bits} h =
    rw (low_from 8 h, bits_bytes count (binary_drop 8 h), suc-mul count 8, add_comm (count * 8) 8) (sym (padded_add 8 (count * 8) bits))

-- where there is room for all they are the bits, and then zeros
pub bits_then_zeros : (count : ℕ) {bits : List ℕ} → Binary bits → length bits ≤ count * 8
    → byte_bits (bytes_of count bits) ≡ bits ++ replicate (count * 8 - length bits) 0
bits_then_zeros count {bits} h room = bits_bytes count h ∙ padded_long (count * 8) bits room

-- and bytes as bits
pub bytes_bits : (bytes : List ℕ) → Bytes bytes → bytes_of (length bytes) (byte_bits bytes) ≡ bytes
unfolding byte_bits bytes_of
bytes_bits [] h = refl
bytes_bits (x ∷ bytes) h =
    rw (
      from_low 8 x (byte_bits bytes),
      mod-eq_of_lt (h 0),
      drop_at (low_bits 8 x) (byte_bits bytes) 8 (length_low 8 x),
      bytes_bits bytes (λ i. h (suc i)),
    )

pub length_bytes : (count : ℕ) (bits : List ℕ) → length (bytes_of count bits) ≡ count
unfolding bytes_of
length_bytes zero bits = refl
length_bytes (suc count) bits = ap suc (length_bytes count (drop 8 bits))

pub length_byte_bits : (bytes : List ℕ) → length (byte_bits bytes) ≡ length bytes * 8
unfolding byte_bits
length_byte_bits [] = refl
length_byte_bits (x ∷ bytes) =
    rw (length-append (low_bits 8 x) (byte_bits bytes), length_low 8 x, length_byte_bits bytes, suc-mul) (omega arith)

pub binary_bytes : (bytes : List ℕ) → Binary (byte_bits bytes)
unfolding byte_bits
binary_bytes [] = none
binary_bytes (x ∷ bytes) = binary_append (binary_low 8 x) (binary_bytes bytes)

-- the bits behind those of the first bytes are those of the other bytes
pub drop_bytes : (q : ℕ) (bytes : List ℕ) → drop (q * 8) (byte_bits bytes) ≡ byte_bits (drop q bytes)
unfolding byte_bits
drop_bytes zero bytes = refl
drop_bytes (suc q) [] = drop-nil (suc q * 8)
drop_bytes (suc q) (x ∷ bytes) =
    rw (
      suc-mul q 8,
      add_comm (q * 8) 8,
      ← drop-drop (q * 8) 8 (low_bits 8 x ++ byte_bits bytes),
      drop_at (low_bits 8 x) (byte_bits bytes) 8 (length_low 8 x),
    )
    (drop_bytes q bytes)

-- the bits of the first two bytes, as those of one number, in front of the rest
two_bytes : (bytes : List ℕ) → Bytes bytes
    → Same (byte_bits bytes) (low_bits 16 (get_or bytes 0 0 * 256 + get_or bytes 1 0) ++ byte_bits (drop 2 bytes))
unfolding byte_bits
two_bytes [] small = rw append-nil (same_zeros 16 [])
two_bytes (x ∷ []) small = rw (append-nil (low_bits 8 x), append-nil, ← low_join 8 8 x 0 (small 1)) (same_zeros 8 (low_bits 8 x))
two_bytes (x ∷ y ∷ bytes) small = rw (← append_assoc, low_join 8 8 x y (small 1)) (λ i. refl)

in_two : (bytes : List ℕ) → Bytes bytes → (r w : ℕ) → r < 8 → w ≤ 8
    → from_bits w (drop r (byte_bits bytes)) ≡ (get_or bytes 0 0 * 256 + get_or bytes 1 0) / 2 ^ (16 - r - w) % 2 ^ w
in_two bytes small r w place few =
    let two = get_or bytes 0 0 * 256 + get_or bytes 1 0 in
    let all : r + (w + (16 - r - w)) ≡ 16 = omega arith in
    let wide = low_bits 16 two ++ byte_bits (drop 2 bytes) in
    from_same w (drop r (byte_bits bytes)) (drop r wide) (same_drop r (byte_bits bytes) wide (two_bytes bytes small))
    ∙ rw all at (from_field r w (16 - r - w) two (byte_bits (drop 2 bytes)))

-- w bits from bit r of byte i on stand in that byte and the next
pub bits_in_two : (bytes : List ℕ) → Bytes bytes → (i r w : ℕ) → r < 8 → w ≤ 8
    → from_bits w (drop (i * 8 + r) (byte_bits bytes)) ≡ (get_or bytes i 0 * 256 + get_or bytes (i + 1) 0) / 2 ^ (16 - r - w) % 2 ^ w
bits_in_two bytes small i r w place few =
    let rest : Bytes (drop i bytes) = λ j. rw (get_or-drop i bytes j 0) (small (i + j)) in
    rw (← drop-drop r (i * 8) (byte_bits bytes), drop_bytes i bytes)
    (rw (get_or-drop i bytes 0 0, get_or-drop i bytes 1 0, add-zero i) at (in_two (drop i bytes) rest r w place few))

-- up to 8 bits are read as they stand, and make a byte
pub bits_at_lem : (bytes : List ℕ) (from w : ℕ) → w ≤ 8 → bits_at bytes from w ≡ from_bits w (drop from (byte_bits bytes))
unfolding bits_at
bits_at_lem bytes from w few = rw (le-leb w 8 few)

pub bits_at_lt : (bytes : List ℕ) (from w : ℕ) → w ≤ 8 → bits_at bytes from w < 256
bits_at_lt bytes from w few =
    let power : 2 ^ w ≤ 2 ^ 8 = pow_mono few in
    rw (bits_at_lem bytes from w few) (omega (arith, from_lt w (binary_drop from (binary_bytes bytes))))
