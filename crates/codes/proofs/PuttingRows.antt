-- Numbers that are put row by row: behind what is written come the bits of the rows that are left. Assumes nothing.
use mathlib.Core.Path.{◌≡◌}
use mathlib.Core.Bool.{true, and-eq-true_iff}
use mathlib.Core.List.{List, ◌++◌, append_assoc}
use Prim.Native.Nat.{ℕ, ◌+◌, ◌-◌, ◌*◌, ◌/◌, ◌%◌, ◌^◌, ◌≤◌, ◌<◌}
use lib.ListN.{length, drop}
use Rattle.codes.specs.declared.bit_writer.BitWriter.{BitWriter}
use Rattle.codes.specs.Fields.{fields, all_below}
use Rattle.codes.specs.FieldLaws.{fields_room}
use Rattle.codes.specs.BitWriter.{written_bits, Writes}
use Rattle.codes.specs.Codes.{joined, regions_fit}
use Rattle.codes.specs.Rows.{Rows, rows_next, part, row_joined_at, row_fit_at}

-- what holds before a row: behind what is written come the numbers from i on, all of whole rows and their dimensions'
pub record Putting (d b : ℕ) (regions : List ℕ) (room : ℕ) (codes : List ℕ) (writer : BitWriter) (i : ℕ) : Type 0 where
  pub left : Rows d (length regions - i)
  pub long : length codes ≡ room
  pub fit : regions_fit d b 0 (drop i regions) ≡ true
  pub writes : Writes codes writer
  pub whole : written_bits codes writer ++ joined d b 0 (drop i regions) ≡ joined d b 0 regions

-- the next row: the numbers of its two runs, and the rows behind it
module _ {d b : ℕ} {regions : List ℕ} {room : ℕ} {codes : List ℕ} {writer : BitWriter} {i : ℕ} (some : 0 < d)
    (at : Putting d b regions room codes writer i) (more : i < length regions) where
  pub row : (i + d ≤ length regions) × Rows d (length regions - (i + d))
  row = rows_next at.left more

  abbrev wide : List ℕ
  wide = part i (i + b % d) regions

  abbrev narrow : List ℕ
  narrow = part (i + b % d) (i + d) regions

  abbrev rest : List ℕ
  rest = joined d b 0 (drop (i + d) regions)

  bits : written_bits codes writer ++ (fields (b / d + 1) wide ++ (fields (b / d) narrow ++ rest)) ≡ joined d b 0 regions
  bits = rw (← row_joined_at d b some regions i row.0) at.whole

  bits_behind : (written_bits codes writer ++ fields (b / d + 1) wide) ++ (fields (b / d) narrow ++ rest) ≡ joined d b 0 regions
  bits_behind = rw append_assoc bits

  pub first_room : length (written_bits codes writer) + length wide * (b / d + 1) ≤ length (joined d b 0 regions)
  first_room = fields_room (written_bits codes writer) (b / d + 1) wide (fields (b / d) narrow ++ rest) bits

  pub second_room : {written : List ℕ} → written ≡ written_bits codes writer ++ fields (b / d + 1) wide
      → length written + length narrow * (b / d) ≤ length (joined d b 0 regions)
  second_room {written} e = fields_room written (b / d) narrow rest {all = joined d b 0 regions} (rw e bits_behind)

  pub fits : (all_below (2 ^ (b / d + 1)) wide ≡ true) × (all_below (2 ^ (b / d)) narrow ≡ true)
      × (regions_fit d b 0 (drop (i + d) regions) ≡ true)
  fits =
      let both = (and-eq-true_iff _ _).0 (rw (row_fit_at d b some regions i row.0) at at.fit) in
      let others = (and-eq-true_iff _ _).0 both.1 in
      (both.0, others.0, others.1)

  -- it was put
  pub put : {back : List ℕ} {after : BitWriter} → Writes back after → length back ≡ room
      → written_bits back after ≡ (written_bits codes writer ++ fields (b / d + 1) wide) ++ fields (b / d) narrow
      → Putting d b regions room back after (i + d)
  put writes long e =
      record {
        left = row.1;
        long = long;
        fit = fits.2;
        writes = writes;
        whole = rw (e, append_assoc) bits_behind;
      }
