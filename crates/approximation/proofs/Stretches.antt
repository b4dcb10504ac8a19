-- The marks of a column's dimension in the marks buffer, from one column to the next, and the components from i on, the first of them in
-- column t. Assumes nothing.
use mathlib.Core.Path.{◌≡◌, refl, ◌∙◌}
use mathlib.Core.Bool.{Bool, true, false, ◌&&◌, cond}
use mathlib.Core.List.{List, ◌∷◌}
use Prim.Native.Nat.{ℕ, suc, ◌+◌, ◌-◌, ◌*◌, ◌/◌, ◌%◌, ◌^◌, ◌≤◌, ◌<◌}
use native.Mathlib.Nat.{add-zero}
use native.Mathlib.Numerals.{add-one}
use native.Mathlib.Omega.{arith}
use borrow.Author.Tests.{ne_eqb}
use lib.Dec.{ltb, eqb}
use lib.IntN.{ℤ, pos}
use lib.ListN.{length, get_or, take, drop}
use lib.Pow.{pow_mono}
use lib.Seq.{drop-cons}
use Rattle.limits.specs.Limits.{max_dimension_bits}
use Rattle.layout.specs.declared.Layout.{Layout}
use Rattle.layout.specs.Layout.{bits_of, region_count, first_marks}
use Rattle.layout.specs.Laws.{fewest_le, bits_le, marks_within, first_next_marks}
use Rattle.layout.specs.Stretch.{Shape}
use Rattle.region.specs.Region.{region_of, in_marks}
use Rattle.partition.specs.Marks.{dimension_marks}
use Rattle.partition.proofs.Power.{shifted}
use Rattle.codes.specs.Codes.{next_column}
use Rattle.codes.proofs.Columns.{next_below}
use Rattle.approximation.specs.Vectors.{regions_from, inside_from}

pub shaped_by : (l : Layout) → Shape l.d l.b
shaped_by l = record { some = l.some; few = l.few; bits = l.within }

-- ---- How many regions a column's dimension has

pub record Counted (d b column regions : ℕ) : Type 0 where
  pub is : regions ≡ region_count d b (suc column)
  pub few : regions ≤ 2 ^ max_dimension_bits

-- The code works out the fewest regions of a dimension by a shift.
abbrev pub fewest_of : ℕ → ℕ → ℕ
fewest_of d b = 1 * 2 ^ (b / d) % 2 ^ 64

module _ {d b : ℕ} (shaped : Shape d b) where
  pub few_bits : b / d ≤ max_dimension_bits
  few_bits = fewest_le max_dimension_bits d b shaped.bits

  pub fewest_few : fewest_of d b ≤ 2 ^ max_dimension_bits
  fewest_few = rw (shifted (b / d) few_bits) (pow_mono few_bits)

  pub counted : {column regions : ℕ} → regions ≡ cond (ltb column (b % d)) (fewest_of d b + fewest_of d b) (fewest_of d b)
      → Counted d b column regions
  unfolding bits_of
  counted {column} {regions} e =
      let power = shifted (b / d) few_bits in
      let is : regions ≡ region_count d b (suc column) = (rw power at e) ∙ go (ltb column (b % d)) in
      record { is = is; few = rw is (pow_mono (bits_le max_dimension_bits d b column shaped.some shaped.bits)) }
    where
      go : (t : Bool) → cond t (2 ^ (b / d) + 2 ^ (b / d)) (2 ^ (b / d)) ≡ 2 ^ (b / d + cond t 1 0)
      go true = rw add-one (omega arith)
      go false = rw add-zero refl

-- ---- Where the marks of a column's dimension are

-- The marks of a column's dimension begin at this offset.
pub record Begins (d b column offset : ℕ) : Type 0 where
  pub inside : column < d
  pub there : offset ≡ first_marks d b column

first_none : (d b : ℕ) → 0 ≡ first_marks d b 0
unfolding first_marks
first_none d b = refl

-- The first column's marks are at the front.
pub begins : {d b : ℕ} → Shape d b → Begins d b 0 0
begins {d} {b} shaped = record { inside = shaped.some; there = first_none d b }

module _ {d b : ℕ} (marks : List ℤ) (exact : length marks ≡ first_marks d b d) {column offset regions : ℕ} (at : Begins d b column offset)
    (counts : Counted d b column regions) where
  pub end_is : offset + regions + 1 ≡ first_marks d b (suc column)
  end_is = rw (at.there, counts.is) (omega (arith, first_next_marks d b column))

  pub part_within : offset + regions + 1 ≤ length marks
  part_within = rw (exact, end_is) (marks_within d b d column at.inside)

  pub part_is : take (offset + regions + 1 - offset) (drop offset marks) ≡ dimension_marks d b marks (suc column)
  unfolding dimension_marks
  part_is =
      let size : offset + regions + 1 - offset ≡ regions + 1 = omega arith in
      let before : suc column - 1 ≡ column = omega arith in
      rw (size, at.there, counts.is, before)

  -- The next column's marks begin where these end.
  pub goes_on_lem : Begins d b (next_column d column) (cond (eqb (next_column d column) 0) 0 (offset + regions + 1))
  goes_on_lem = record { inside = next_below d column at.inside; there = go (eqb (suc column) d) }
    where
      go : (t : Bool) → cond (eqb (cond t 0 (suc column)) 0) 0 (offset + regions + 1) ≡ first_marks d b (cond t 0 (suc column))
      go true = first_none d b
      go false = rw (ne_eqb (suc column) 0 (omega arith)) end_is

-- ---- The components from i on

module _ (d b : ℕ) (marks : List ℤ) (t : ℕ) (vectors : List ℤ) (i : ℕ) (more : i < length vectors) where
  pub inside_next : inside_from d b marks t (drop i vectors)
      ≡ in_marks (dimension_marks d b marks (suc t)) (get_or vectors i (pos 0)) && inside_from d b marks (next_column d t) (drop (i + 1) vectors)
  unfolding inside_from
  inside_next = rw (drop-cons vectors i (pos 0) more, add-one)

  pub regions_next : regions_from d b marks t (drop i vectors)
      ≡ region_of (dimension_marks d b marks (suc t)) (get_or vectors i (pos 0)) ∷ regions_from d b marks (next_column d t) (drop (i + 1) vectors)
  unfolding regions_from
  regions_next = rw (drop-cons vectors i (pos 0) more, add-one)
