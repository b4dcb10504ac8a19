-- Numbers that are read row by row: the rows written so far, with those left to be read off the bits, are the whole. Assumes nothing.
use mathlib.Core.Path.{◌≡◌}
use mathlib.Core.List.{List, ◌++◌, append_assoc}
use Prim.Native.Nat.{ℕ, ◌+◌, ◌-◌, ◌*◌, ◌/◌, ◌%◌, ◌≤◌, ◌<◌}
use native.Mathlib.Nat.{sub-add-eq, add-sub_cancel_left}
use native.Mathlib.Omega.{arith}
use lib.ListN.{length, take, drop}
use lib.Seq.{drop-drop}
use Rattle.order.proofs.Written.{written_all}
use Rattle.limits.specs.Limits.{max_dimension_bits}
use Rattle.layout.specs.Stretch.{Shape}
use Rattle.codes.specs.Bits.{byte_bits}
use Rattle.codes.specs.Fields.{read_fields}
use Rattle.codes.specs.Codes.{split}
use Rattle.codes.specs.Rows.{Rows, rows_next, row_split}
use Rattle.codes.proofs.Columns.{fewest}

-- what holds before a row, for n numbers in all
pub record Taking (d b : ℕ) (codes regions : List ℕ) (n from i : ℕ) : Type 0 where
  pub left : Rows d (n - i)
  pub long : length regions ≡ n
  pub near : from ≤ max_dimension_bits * i
  pub so_far : take i regions ++ split d b 0 (n - i) (drop from (byte_bits codes)) ≡ split d b 0 n (byte_bits codes)

module _ {d b : ℕ} {codes regions : List ℕ} {n from i : ℕ} (now : Taking d b codes regions n from i) where
  pub row : i < length regions → (i + d ≤ n) × Rows d (n - (i + d))
  row more = rows_next now.left (omega (arith, now.long))

  -- the row's two runs were read
  pub takes : {back : List ℕ} → Shape d b → i < length regions → length back ≡ n
      → take (i + d) back
      ≡ (take i regions ++ read_fields (b / d + 1) (i + b % d - i) (drop from (byte_bits codes)))
      ++ read_fields (b / d) (i + d - (i + b % d)) (drop (from + b % d * (b / d + 1)) (byte_bits codes))
      → Taking d b codes back n (from + b) (i + d)
  takes shaped more long runs =
      let count : n - i ≡ d + (n - (i + d)) = omega (arith, (row more).0) in
      record {
        left = (row more).1;
        long = long;
        near = omega (arith, now.near, shaped.bits);
        so_far =
            rw (runs, sub-add-eq (i + d) i (b % d), add-sub_cancel_left i (b % d), add-sub_cancel_left i d, append_assoc, append_assoc)
            (rw (count, row_split d b shaped.some (fewest shaped) (n - (i + d)) (drop from (byte_bits codes)), drop-drop, drop-drop)
            at now.so_far);
      }

  pub done : length regions ≤ i → regions ≡ split d b 0 n (byte_bits codes)
  unfolding split
  done past =
      let none : n - i ≡ 0 = omega (arith, now.long) in
      written_all regions i _ past (rw none at now.so_far)
