-- What `put` has to show: behind what was written stand the bits of the numbers before i. Assumes nothing.
use mathlib.Core.Path.{◌≡◌, ◌∙◌}
use mathlib.Core.Bool.{true, and-eq-true_iff}
use mathlib.Core.List.{List, ◌++◌, append_assoc}
use Prim.Native.Nat.{ℕ, suc, ◌+◌, ◌-◌, ◌*◌, ◌%◌, ◌^◌, ◌≤◌, ◌<◌}
use native.Mathlib.Nat.{mul-le-mul_right, suc-mul}
use native.Mathlib.Omega.{arith}
use borrow.Author.Tests.{ltb-true}
use lib.Dec.{ltb}
use lib.ListN.{length, get_or, take, drop, set, length-set, length-append}
use lib.Seq.{length-take-le}
use Rattle.codes.specs.Bits.{low_bits}
use Rattle.codes.specs.Fields.{fields, all_below}
use Rattle.codes.specs.FieldLaws.{length_fields, fields_next, below_next}
use Rattle.codes.specs.BitWriter.{placed}
use Rattle.codes.specs.WriterLaws.{Filled, position, one_step, two_steps}

-- behind the bits that were written stand those of i numbers; the other numbers are below their bound too
pub record Putting (start numbers : List ℕ) (w room : ℕ) (bytes : List ℕ) (next byte free i : ℕ) : Type 0 where
  pub long : length bytes ≡ room
  pub some : 1 ≤ free
  pub below : all_below (2 ^ w) (drop i numbers) ≡ true
  pub filled : Filled (start ++ fields w (take i numbers)) bytes next byte free

-- the number at i is put
module _ {start numbers : List ℕ} {w room : ℕ} {bytes : List ℕ} {next byte free i : ℕ}
    (at : Putting start numbers w room bytes next byte free i) (more : i < length numbers) where
  abbrev pub x : ℕ
  x = get_or numbers i 0

  pub fits : (x < 2 ^ w) × (all_below (2 ^ w) (drop (i + 1) numbers) ≡ true)
  fits =
      let both = (and-eq-true_iff (ltb x (2 ^ w)) _).0 (rw (below_next (2 ^ w) numbers i more) at at.below) in
      (ltb-true x (2 ^ w) both.0, both.1)

  bits : (start ++ fields w (take i numbers)) ++ low_bits w x ≡ start ++ fields w (take (i + 1) numbers)
  bits = rw (fields_next w numbers i more, append_assoc)

  -- in one step
  pub one : w < free → Putting start numbers w room bytes next (placed x w byte free) (free - w) (i + 1)
  one less =
      record {
        long = at.long;
        some = omega arith;
        below = fits.1;
        filled = rw (← bits) (one_step at.filled w x fits.0 less);
      }

  -- in two, the first of which fills the byte
  module _ (less : free ≤ w) (fit : length start + length numbers * w ≤ room * 8) where
    pub has_room : next < length bytes
    has_room =
        let front = fields w (take i numbers) in
        let count : length front ≡ i * w = length_fields w (take i numbers) ∙ rw (length-take-le i numbers (omega arith)) in
        let next_one : suc i * w ≤ length numbers * w = mul-le-mul_right w more in
        omega (arith, position at.filled, length-append start front, suc-mul i w, at.long, at.filled.few)

    pub two : w ≤ 8 → Putting start numbers w room (set bytes next (placed x w byte free)) (next + 1)
        (placed (x % 2 ^ (w - free)) (w - free) 0 8) (8 - (w - free)) (i + 1)
    two few =
        record {
          long = simp length-set at.long;
          some = omega (arith, at.some);
          below = fits.1;
          filled = rw (← bits) (two_steps at.filled w x fits.0 less has_room (omega (arith, at.some)));
        }
