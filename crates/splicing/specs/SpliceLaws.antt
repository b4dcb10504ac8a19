-- Laws of bits of bytes that are spliced: bytes of the front as they are, one byte at the seam, and the rest shifted. Assumes nothing.
use Rattle.std.specs.Prelude.{◌≡◌, refl, Bool, true, false, cond, List, [], ◌∷◌, ◌++◌, ℕ, zero, suc, ◌+◌, ◌-◌, ◌*◌, ◌/◌, ◌%◌, ◌^◌, ◌≤◌, ◌<◌, ltb, length, take, set}
use Rattle.std.proofs.Math.Path.{sym, ap}
use Rattle.std.proofs.Common.{◌∙◌, append_assoc, append-nil, zero-add, suc-add, suc-mul, add_comm, add-zero, zero-mul, mul_assoc, mod-eq_of_lt, add-one, arith, ltb-true, ltb-false, take-append-drop, length-drop, length-set, drop_of_length-le, pow-add, drop_at, take-add, take_at, take-take, take_all, length-take-le, take-suc-set}
use Rattle.std.proofs.Math.Arith.{digits_lt}
use Rattle.std.proofs.Math.ListN.{drop}
use Rattle.std.proofs.Math.Seq.{drop-drop, take-nil, append_snoc}
use Rattle.codes.specs.Bits.{low_bits, from_bits, bytes_of, byte_bits}
use Rattle.codes.specs.BitLaws.{Bytes, length_low, from_low, from_lt, length_byte_bits, binary_drop, binary_bytes}
use Rattle.splicing.specs.Splice.{spliced_bytes}

-- the number of the bits of one list and then of another
from_append : (u v : ℕ) (front rest : List ℕ) → length front ≡ u
    → from_bits (u + v) (front ++ rest) ≡ from_bits u front * 2 ^ v + from_bits v rest
unfolding from_bits
from_append zero v [] rest size = rw (zero-add v, zero-mul, zero-add)
from_append zero v (x ∷ front) rest size = absurd (omega arith)
from_append (suc u) v [] rest size = absurd (omega arith)
from_append (suc u) v (x ∷ front) rest size =
    let tail : length front ≡ u = omega arith in
    rw (suc-add u v, from_append u v front rest tail, pow-add 2 u v) (omega (arith, mul_assoc x (2 ^ u) (2 ^ v)))

-- bits behind the first do not count
pub from_take : (w : ℕ) (bits : List ℕ) → from_bits w (take w bits) ≡ from_bits w bits
unfolding from_bits
from_take zero bits = refl
from_take (suc w) [] = refl
from_take (suc w) (x ∷ bits) = rw (from_take w bits)

-- the bits of the first bytes
take_bytes : (count : ℕ) (bytes : List ℕ) → take (count * 8) (byte_bits bytes) ≡ byte_bits (take count bytes)
unfolding byte_bits
take_bytes zero bytes = refl
take_bytes (suc count) [] = take-nil (suc count * 8)
take_bytes (suc count) (x ∷ bytes) =
    rw (
      suc-mul count 8,
      add_comm (count * 8) 8,
      take-add 8 (count * 8) (low_bits 8 x ++ byte_bits bytes),
      take_at (low_bits 8 x) (byte_bits bytes) 8 (length_low 8 x),
      drop_at (low_bits 8 x) (byte_bits bytes) 8 (length_low 8 x),
      take_bytes count bytes,
    )

-- bytes whose bits come first stand as they are
pub bytes_first : (bytes : List ℕ) → Bytes bytes → (count : ℕ) (rest : List ℕ)
    → bytes_of (length bytes + count) (byte_bits bytes ++ rest) ≡ bytes ++ bytes_of count rest
unfolding byte_bits bytes_of
bytes_first [] small count rest = rw (zero-add count)
bytes_first (x ∷ bytes) small count rest =
    rw (
      suc-add (length bytes) count,
      append_assoc,
      from_low 8 x (byte_bits bytes ++ rest),
      mod-eq_of_lt (small 0),
      drop_at (low_bits 8 x) (byte_bits bytes ++ rest) 8 (length_low 8 x),
      bytes_first bytes (λ i. small (suc i)) count rest,
    )

-- ---- the front's bits up to a bit: some whole bytes, and bits of the next

pub record Cut (p bytes whole used : ℕ) : Type 0 where
  pub within : whole ≤ bytes
  pub few : used < 8
  pub before : whole * 8 ≤ p
  pub has : whole * 8 + used ≤ bytes * 8
  pub same : (bits : List ℕ) → length bits ≡ bytes * 8 → take p bits ≡ take (whole * 8 + used) bits

pub cut : {p bytes whole used : ℕ} → whole ≡ cond (ltb (p / 8) bytes) (p / 8) bytes → used ≡ cond (ltb (p / 8) bytes) (p % 8) 0
    → Cut p bytes whole used
cut {p} {bytes} {whole} {used} = go (ltb (p / 8) bytes) refl
  where
    go : (t : Bool) → ltb (p / 8) bytes ≡ t → whole ≡ cond t (p / 8) bytes → used ≡ cond t (p % 8) 0 → Cut p bytes whole used
    go true e is rest =
        let inside : p / 8 < bytes = ltb-true (p / 8) bytes e in
        let all : p ≡ whole * 8 + used = omega arith in
        record {
          within = omega arith;
          few = omega arith;
          before = omega arith;
          has = omega arith;
          same = λ bits size. ap (λ (n : ℕ). take n bits) all;
        }
    go false e is rest =
        let past : bytes ≤ p / 8 = omega (arith, ltb-false (p / 8) bytes e) in
        record {
          within = omega arith;
          few = omega arith;
          before = omega arith;
          has = omega arith;
          same = λ bits size. take_all p bits (omega arith) ∙ sym (take_all (whole * 8 + used) bits (omega arith));
        }

-- the number of the byte at the seam
abbrev pub seam_byte : List ℕ → ℕ → ℕ → List ℕ → ℕ → ℕ
seam_byte front whole used back q =
    from_bits used (drop (whole * 8) (byte_bits front)) * 2 ^ (8 - used) + from_bits (8 - used) (drop q (byte_bits back))

pub seam_small : (front : List ℕ) (whole : ℕ) {used : ℕ} → used < 8 → (back : List ℕ) (q : ℕ) → seam_byte front whole used back q < 256
seam_small front whole {used} few back q =
    let eight : used + (8 - used) ≡ 8 = omega arith in
    rw (← pow-add 2 used (8 - used), eight) at
    (digits_lt (from_lt used (binary_drop (whole * 8) (binary_bytes front))) (from_lt (8 - used) (binary_drop q (binary_bytes back))))

-- bytes of a part are bytes
take_small : (n : ℕ) (bytes : List ℕ) → Bytes bytes → Bytes (take n bytes)
take_small zero bytes small i = omega arith
take_small (suc n) [] small i = omega arith
take_small (suc n) (x ∷ bytes) small zero = small 0
take_small (suc n) (x ∷ bytes) small (suc i) = take_small n bytes (λ j. small (suc j)) i

module _ (front : List ℕ) (small : Bytes front) (back : List ℕ) (q : ℕ) {p whole used : ℕ} (at : Cut p (length front) whole used) where
  -- some bytes of the front, at most the whole ones, and then the other bits
  front_first : (count : ℕ) → count ≤ whole → (rest : List ℕ)
      → take p (byte_bits front) ++ rest ≡ byte_bits (take count front) ++ (drop (count * 8) (take p (byte_bits front)) ++ rest)
  front_first count within rest =
      rw (
        ← take_bytes count front,
        ← take-take (count * 8) p (byte_bits front) (omega (arith, at.before)),
        ← append_assoc,
        take-append-drop (count * 8) (take p (byte_bits front)),
      )

  bytes_of_front : (count more : ℕ) → count ≤ whole
      → spliced_bytes (count + more) front p back q
      ≡ take count front ++ bytes_of more (drop (count * 8) (take p (byte_bits front)) ++ drop q (byte_bits back))
  bytes_of_front count more within =
      let size : length (take count front) ≡ count = length-take-le count front (omega (arith, at.within)) in
      let rest = drop (count * 8) (take p (byte_bits front)) ++ drop q (byte_bits back) in
      rw (front_first count within (drop q (byte_bits back)))
      (rw size at (bytes_first (take count front) (take_small count front small) more rest))

  -- a buffer that has no more than the whole bytes
  pub splice_short : (count : ℕ) → count ≤ whole → spliced_bytes count front p back q ≡ take count front
  unfolding bytes_of
  splice_short count within = rw (add-zero, append-nil) at (bytes_of_front count 0 within)

  -- bits of the byte behind the whole ones
  abbrev over : List ℕ
  over = take used (drop (whole * 8) (byte_bits front))

  over_length : length over ≡ used
  over_length =
      length-take-le used (drop (whole * 8) (byte_bits front))
      (simp (length-drop, length_byte_bits) (omega (arith, at.has)))

  over_is : drop (whole * 8) (take p (byte_bits front)) ≡ over
  over_is =
      rw (
        at.same (byte_bits front) (length_byte_bits front),
        take-add (whole * 8) used (byte_bits front),
        drop_at (take (whole * 8) (byte_bits front)) over (whole * 8)
            (length-take-le (whole * 8) (byte_bits front) (rw (length_byte_bits front) (omega (arith, at.has)))),
      )

  -- a longer one has the byte at the seam, and then the other's bits behind those that stand in it
  pub splice_long : (more : ℕ) → spliced_bytes (whole + suc more) front p back q
      ≡ take whole front ++ (seam_byte front whole used back q ∷ bytes_of more (drop (q + (8 - used)) (byte_bits back)))
  unfolding bytes_of
  splice_long more =
      let behind = drop q (byte_bits back) in
      let eight : used + (8 - used) ≡ 8 = omega (arith, at.few) in
      let byte : from_bits 8 (over ++ behind) ≡ seam_byte front whole used back q =
      rw eight at (from_append used (8 - used) over behind over_length)
      ∙ rw (from_take used (drop (whole * 8) (byte_bits front))) in
      let rest : drop 8 (over ++ behind) ≡ drop (q + (8 - used)) (byte_bits back) =
      ap (λ (n : ℕ). drop n (over ++ behind)) (sym eight)
      ∙ sym (drop-drop (8 - used) used (over ++ behind))
      ∙ ap (drop (8 - used)) (drop_at over behind used over_length)
      ∙ drop-drop (8 - used) q (byte_bits back) in
      rw (byte, rest) at (rw over_is at (bytes_of_front whole (suc more) (omega arith)))

  -- ---- the buffer, as it is filled

  pub filled_short : (out last : List ℕ) → length out ≤ whole → last ≡ take (length out) front ++ drop (length out) out
      → last ≡ spliced_bytes (length out) front p back q
  filled_short out last within copied =
      copied
      ∙ rw (drop_of_length-le out {i = length out} (omega arith), append-nil, splice_short (length out) within)

  module _ (out copied last : List ℕ) (byte from : ℕ) (more : whole < length out) (first : copied ≡ take whole front ++ drop whole out)
      (room : length copied ≡ length out) (is : byte ≡ seam_byte front whole used back q) (place : from ≡ q + (8 - used)) where
    pub filled_long : last ≡ take (whole + 1) (set copied whole byte)
        ++ bytes_of (length (set copied whole byte) - (whole + 1)) (drop from (byte_bits back))
        → last ≡ spliced_bytes (length out) front p back q
    filled_long shifted =
        let rest = length out - (whole + 1) in
        let size : length (set copied whole byte) - (whole + 1) ≡ rest = rw (length-set, room) in
        let all : length out ≡ whole + suc rest = omega arith in
        let front-part : take whole copied ≡ take whole front =
        rw first (take_at (take whole front) (drop whole out) whole (length-take-le whole front at.within)) in
        let written : take (whole + 1) (set copied whole byte) ≡ take whole front ++ (seam_byte front whole used back q ∷ []) =
        rw (add-one, take-suc-set copied whole byte (omega (arith, room)), front-part, is) in
        shifted
        ∙ rw (size, written, place) (append_snoc (take whole front) (seam_byte front whole used back q) _)
        ∙ sym (rw (← all) at (splice_long rest))
