-- The sizes of a library whose counts are within the limits, and the places of its records as numbers. Assumes nothing.
use Rattle.std.specs.Prelude.{◌≡◌, refl, not, [], ◌∷◌, ℕ, suc, ◌+◌, ◌-◌, ◌*◌, ◌^◌, ◌≤◌, ◌<◌, Ok}
use Rattle.std.proofs.Common.{suc-mul, mul-le-mul_left, mul-le-mul_right, le_trans, add-one, arith}
use Rattle.std.proofs.lemmas.Bool.{not-false}
use Rattle.refusal.specs.declared.Refusal.TheVariants.{Count}
use Rattle.refusal.specs.First.{◌⇒◌, first, outcome_accepted, passed}
use Rattle.limits.specs.Limits.{max_dimensions, max_dimension_bits, max_vectors, is_vector_count}
use Rattle.limits.specs.Tests.{between}
use Rattle.layout.specs.declared.Layout.{Layout}
use Rattle.layout.specs.Layout.{bits_of, first_marks}
use Rattle.layout.specs.Laws.{bits_le, marks_le, marks_within}
use Rattle.layout.specs.Stretch.{Shape, shape_causes, marks_length}
use Rattle.records.specs.Records.{vector_kind, formats, widths_among, widths_of, sum, record_length}
use Rattle.records.specs.RowLaws.{both}
use Rattle.library.specs.Library.{mark_total, mark_place, vector_place, library_length}
use Rattle.library.specs.Tests.{counts_causes}

-- d dimensions with b bits in all, and no more than so many vectors
pub record Small (d b n : ℕ) : Type 0 where
  pub shape_passes : first (shape_causes d b) ≡ Ok tt
  pub few : n ≤ max_vectors

pub small : (d b n : ℕ) → first (counts_causes d b n) ≡ Ok tt → Small d b n
small d b n accepted =
    let rows = both (shape_causes d b) ((not (is_vector_count n) ⇒ Count) ∷ []) accepted in
    let counted = not-false (is_vector_count n) (passed _ Count [] rows.back).fails in
    record { shape_passes = rows.front; few = (between 1 n max_vectors counted).below }

-- ---- places as numbers

pub mark_place_lem : (i : ℕ) → mark_place i ≡ 5 + i * 5
unfolding mark_place record_length sum widths_of widths_among formats
mark_place_lem i = refl

pub vector_place_lem : (m i : ℕ) → vector_place m i ≡ 5 + m * 5 + i * 69
unfolding vector_place mark_place record_length sum widths_of widths_among formats
vector_place_lem m i = refl

pub library_length_lem : (d b n : ℕ) → library_length d b n ≡ 5 + mark_total d b * 5 + n * 69 + 1
unfolding library_length vector_place mark_place record_length sum widths_of widths_among formats
library_length_lem d b n = refl

pub vector_length : record_length vector_kind ≡ 69
unfolding record_length sum widths_of widths_among formats
vector_length = refl

-- ---- limits

pub marks_few : (d b : ℕ) → Shape d b → mark_total d b ≤ 2080
marks_few d b is = le_trans (marks_le max_dimension_bits d b d is.some is.bits) (mul-le-mul_left (2 ^ max_dimension_bits + 1) is.few)

-- of a layout that is within its limits
pub layout_marks : (d b : ℕ) → 1 ≤ d → d ≤ max_dimensions → b ≤ max_dimension_bits * d → first_marks d b d ≤ 2080
layout_marks d b some few within = marks_few d b (record { some = some; few = few; bits = within })

pub marks_length_is : (d b : ℕ) → first (shape_causes d b) ≡ Ok tt → marks_length d b ≡ mark_total d b
unfolding marks_length
marks_length_is d b accepted = outcome_accepted _ _ accepted

-- the numbers of a dimension's first and last mark, for the dimension with t dimensions before it
pub record EndsAt (d b t first last : ℕ) : Type 0 where
  pub first_is : first ≡ first_marks d b t
  pub last_is : last ≡ first_marks d b t + 2 ^ bits_of d b (suc t)
  pub within : last < mark_total d b
  pub small : mark_total d b ≤ 2080

-- they are those of the stretch of its dimension: the last stands as many behind the first as there are regions
module _ (l : Layout) (t : ℕ) {bits : ℕ} (among : t < l.d) (bits_are : bits ≡ bits_of l.d l.b (t + 1)) where
  pub stretch_bits : bits ≤ max_dimension_bits
  stretch_bits = rw (bits_are, add-one t) (bits_le max_dimension_bits l.d l.b t l.some l.within)

  pub ends_at : {offset regions : ℕ} → offset ≡ first_marks l.d l.b (t + 1 - 1) → regions ≡ 2 ^ bits
      → EndsAt l.d l.b t offset (offset + regions)
  unfolding first_marks
  ends_at offset_is regions_are =
      let before : t + 1 - 1 ≡ t = omega arith in
      let room = marks_within l.d l.b l.d t among in
      record {
        first_is = rw before at offset_is;
        last_is = rw (offset_is, before, regions_are, bits_are, add-one t);
        within = rw (offset_is, before, regions_are, bits_are, add-one t) (omega (arith, room));
        small = layout_marks l.d l.b l.some l.few l.within;
      }

-- a vector's components are among those of n vectors
pub row_within : {i n : ℕ} (d : ℕ) → i < n → i * d + d ≤ n * d
row_within {i} {n} d h =
    let rows : suc i * d ≤ n * d = mul-le-mul_right d h in
    rw (suc-mul i d) at rows
