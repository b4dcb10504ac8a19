-- What `shift` has to show: what is written so far, with the bits that are left, is the whole. Assumes nothing.
use mathlib.Core.Path.{◌≡◌}
use mathlib.Core.List.{List, ◌++◌}
use Prim.Native.Nat.{ℕ, suc, ◌+◌, ◌-◌, ◌*◌, ◌/◌, ◌%◌, ◌^◌, ◌≤◌, ◌<◌}
use native.Mathlib.Omega.{arith}
use lib.ListN.{length, get_or, take, drop, set, length-set}
use lib.Seq.{drop-drop}
use Rattle.limits.specs.Written.{written_one, written_all}
use Rattle.codes.specs.Bits.{from_bits, bytes_of, byte_bits}
use Rattle.codes.specs.BitLaws.{Bytes, bits_in_two}

-- Bytes of the buffer up to o are written, and the next one's bits begin in byte i of the other, whose number is known.
pub record Shifting (back : List ℕ) (first bit at : ℕ) (out₀ out : List ℕ) (high i o : ℕ) : Type 0 where
  pub room : length out ≡ length out₀
  pub within : o ≤ length out₀
  pub place : i + at ≡ first + o
  pub known : high ≡ get_or back i 0
  pub so_far : take o out ++ bytes_of (length out₀ - o) (drop (i * 8 + bit) (byte_bits back))
      ≡ take at out₀ ++ bytes_of (length out₀ - at) (drop (first * 8 + bit) (byte_bits back))

module _ {back : List ℕ} {first bit at : ℕ} {out₀ out : List ℕ} {high i o : ℕ} (now : Shifting back first bit at out₀ out high i o) where
  pub shifts : Bytes back → bit < 8 → o < length out₀ → {next : ℕ} → next ≡ get_or back (i + 1) 0
      → Shifting back first bit at out₀ (set out o ((high * 256 + next) / 2 ^ (8 - bit) % 2 ^ 8)) next (i + 1) (o + 1)
  unfolding bytes_of
  shifts small few more {next} is =
      let left : length out₀ - o ≡ suc (length out₀ - (o + 1)) = omega arith in
      let power : 16 - bit - 8 ≡ 8 - bit = omega arith in
      let eight : i * 8 + bit + 8 ≡ (i + 1) * 8 + bit = omega arith in
      let byte : from_bits 8 (drop (i * 8 + bit) (byte_bits back)) ≡ (high * 256 + next) / 2 ^ (8 - bit) % 2 ^ 8 =
      rw (now.known, is) (rw power at (bits_in_two back small i bit 8 few (omega arith))) in
      record {
        room = simp length-set now.room;
        within = omega arith;
        place = omega (arith, now.place);
        known = is;
        so_far = written_one out o ((high * 256 + next) / 2 ^ (8 - bit) % 2 ^ 8) _ _ (omega (arith, now.room))
            (rw (byte, drop-drop 8 (i * 8 + bit) (byte_bits back), eight) at (rw left at now.so_far));
      }

  pub shifted : length out₀ ≤ o → out ≡ take at out₀ ++ bytes_of (length out₀ - at) (drop (first * 8 + bit) (byte_bits back))
  unfolding bytes_of
  shifted past =
      let none : length out₀ - o ≡ 0 = omega arith in
      written_all out o _ (omega (arith, now.room)) (rw none at now.so_far)
