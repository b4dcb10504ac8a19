-- What `take` has to show: what is written so far, with what is left to be read off the bits, is the whole. Assumes nothing.
use mathlib.Core.Path.{◌≡◌}
use mathlib.Core.List.{List, ◌++◌, append-nil}
use Prim.Native.Nat.{ℕ, suc, ◌+◌, ◌-◌, ◌*◌, ◌^◌, ◌≤◌, ◌<◌}
use native.Mathlib.Omega.{arith}
use lib.ListN.{length, take, drop, set, length-set}
use lib.Seq.{drop-drop}
use Rattle.limits.specs.Written.{written_one}
use Rattle.codes.specs.Bits.{byte_bits, bits_at}
use Rattle.codes.specs.BitLaws.{bits_at_lem}
use Rattle.codes.specs.Fields.{read_fields}

-- what holds before the number at i is read
pub record Taking (codes : List ℕ) (w end room : ℕ) (whole numbers : List ℕ) (at i : ℕ) : Type 0 where
  pub within : i ≤ end
  pub long : length numbers ≡ room
  pub near : at + 8 * (end - i) < 2 ^ 63
  pub so_far : take i numbers ++ read_fields w (end - i) (drop at (byte_bits codes)) ≡ whole

module _ {codes : List ℕ} {w end room : ℕ} {whole numbers : List ℕ} {at i : ℕ} (now : Taking codes w end room whole numbers at i) where
  pub takes : w ≤ 8 → end ≤ room → i < end → Taking codes w end room whole (set numbers i (bits_at codes at w)) (at + w) (i + 1)
  unfolding read_fields
  takes few there more =
      let left : end - i ≡ suc (end - (i + 1)) = omega arith in
      record {
        within = omega arith;
        long = simp length-set now.long;
        near = omega (arith, now.near);
        so_far =
            written_one numbers i (bits_at codes at w) _ _ (omega (arith, now.long))
            (rw (bits_at_lem codes at w few, ← drop-drop) (rw left at now.so_far));
      }

  pub done : end ≤ i → take end numbers ≡ whole
  unfolding read_fields
  done past =
      let none : end - i ≡ 0 = omega arith in
      let there : i ≡ end = omega (arith, now.within) in
      rw (none, append-nil, there) at now.so_far
