-- A table that is filled a dimension at a time, each dimension's entries into their own stretch. Assumes nothing.
use Rattle.std.specs.Prelude.{◌≡◌, List, ◌++◌, ℤ, pos, drop}
use Rattle.std.proofs.Math.Path.{refl, sym, ap}
use Rattle.std.proofs.Common.{◌∙◌, append_assoc, add-one, le_trans, mul-le-mul_left, length-append, take_at, take_all, length-take-le}
use Prim.Native.Nat.{ℕ, suc, ◌+◌, ◌-◌, ◌*◌, ◌%◌, ◌^◌, ◌≤◌, ◌<◌}
use native.Mathlib.Omega.{arith}
use Rattle.std.proofs.Math.ListN.{length, take, get_or}
use borrow.Rule.Slice.PartMut.{mid_of, post_of, put_mid, mid_len, same_len_mid}
use Rattle.limits.specs.Limits.{max_dimension_bits}
use Rattle.layout.specs.declared.Layout.{Layout}
use Rattle.layout.specs.declared.Stretch.{Stretch}
use Rattle.layout.specs.Layout.{bits_of, mark_count, first_marks}
use Rattle.layout.specs.Laws.{shifted, bits_le, marks_le, marks_within, first_next_marks}
use Rattle.partition.specs.Marks.{dimension_marks}
use Rattle.table.specs.Table.{max_table, steps_from, table_first, table_of}
use Rattle.table.specs.TableLaws.{length_steps}

-- where dimension t + 1's entries begin and end, as code works it out from its stretch
pub record Place (d b t start bits end : ℕ) : Type 0 where
  pub begins : start ≡ first_marks d b t
  pub few : bits ≤ max_dimension_bits
  pub ends : end ≡ first_marks d b (suc t)
  pub within : first_marks d b (suc t) ≤ first_marks d b d
  pub small : first_marks d b d ≤ max_table

pub place : (l : Layout) {t : ℕ} {s : Stretch} → t < l.d → s.offset ≡ first_marks l.d l.b (t + 1 - 1) → s.bits ≡ bits_of l.d l.b (t + 1)
    → Place l.d l.b t s.offset s.bits (s.offset + 1 * 2 ^ s.bits % 2 ^ 64 + 1)
place l {t} {s} below offset_is bits_are =
    let number : t + 1 - 1 ≡ t = omega arith in
    let few : s.bits ≤ max_dimension_bits = rw (bits_are, add-one t) (bits_le max_dimension_bits l.d l.b t l.some l.within) in
    let begins : s.offset ≡ first_marks l.d l.b t = rw number at offset_is in
    record {
      begins = begins;
      few = few;
      ends = rw (shifted s.bits (omega (arith, few)), bits_are, add-one t) (omega (arith, begins, first_next_marks l.d l.b t));
      within = marks_within l.d l.b l.d t below;
      small = le_trans (marks_le max_dimension_bits l.d l.b l.d l.some l.within) (mul-le-mul_left (2 ^ max_dimension_bits + 1) l.few);
    }

-- the entries of the first t dimensions stand at the table's front
pub record Filled (step : ℤ → ℤ → ℤ → ℕ) (d b : ℕ) (marks : List ℤ) (factors : List ℕ) (query : List ℤ) (table : List ℕ) (t : ℕ)
    : Type 0 where
  pub within : t ≤ d
  pub room : length table ≡ first_marks d b d
  pub front : take (first_marks d b t) table ≡ table_first step d b marks factors query t

-- the first elements, up to the end of the part that is put back
put_front : (a e : ℕ) (xs ys : List ℕ) → a ≤ e → e ≤ length xs → length ys ≡ e - a → take e (put_mid a (e - a) xs ys) ≡ take a xs ++ ys
put_front a e xs ys first within count =
    let post = post_of a (e - a) xs in
    let long : length (take a xs ++ ys) ≡ e = simp length-append (omega (arith, length-take-le a xs (omega arith))) in
    rw (← append_assoc (take a xs) ys post) (take_at (take a xs ++ ys) post e long)

module _ (step : ℤ → ℤ → ℤ → ℕ) (d b : ℕ) (marks : List ℤ) (factors : List ℕ) (query : List ℤ) where
  pub filled_none : (table : List ℕ) → length table ≡ first_marks d b d → Filled step d b marks factors query table 0
  filled_none table room = record { within = omega arith; room = room; front = unfold table_first first_marks in refl }

  -- the entries of dimension t + 1 are written over the part behind it
  pub filled_next : {t start bits end : ℕ} {table : List ℕ} (ys : List ℕ) → Place d b t start bits end → t < d
      → ys ≡ steps_from step (get_or factors t 0) (get_or query t (pos 0)) (take (end - start) (drop start marks)) 0
      (length (mid_of start (end - start) table))
      → Filled step d b marks factors query table t → Filled step d b marks factors query (put_mid start (end - start) table ys) (t + 1)
  unfolding table_first dimension_marks
  filled_next {t} {start} {bits} {end} {table} ys at below is so_far =
      let factor = get_or factors t 0 in
      let q = get_or query t (pos 0) in
      let next = first_next_marks d b t in
      let count : end - start ≡ mark_count d b (suc t) = omega (arith, at.begins, at.ends, next) in
      let inside : end ≤ length table = omega (arith, at.ends, at.within, so_far.room) in
      let number : suc t - 1 ≡ t = omega arith in
      let own : take (end - start) (drop start marks) ≡ dimension_marks d b marks (suc t) = rw (count, at.begins, number) in
      let part = mid_len start end table inside in
      let entries : ys ≡ steps_from step factor q (dimension_marks d b marks (suc t)) 0 (mark_count d b (suc t)) = rw (own, part, count) at is in
      let long : length ys ≡ end - start = ap length entries ∙ length_steps step factor q (dimension_marks d b marks (suc t)) 0 _ ∙ sym count in
      let first : start ≤ end = omega (arith, at.begins, at.ends, next) in
      record {
        within = omega arith;
        room = same_len_mid start (end - start) table ys (long ∙ sym part) ∙ so_far.room;
        front = rw (add-one t, ← at.ends, put_front start end table ys first inside long, entries, at.begins, so_far.front);
      }

  pub filled_all : {table : List ℕ} {t : ℕ} → Filled step d b marks factors query table t → d ≤ t
      → table ≡ table_of step d b marks factors query
  filled_all {table} {t} so_far past =
      let all : t ≡ d = omega (arith, so_far.within) in
      sym (take_all (first_marks d b d) table (omega (arith, so_far.room))) ∙ rw all at so_far.front
