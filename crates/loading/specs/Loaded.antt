-- What holds of a library whose records pass: every record has passed its own causes, all of it is there, its marks are good, its
-- components in range, and its vectors inside the marks. So writing accepts it. Assumes nothing.
use Rattle.std.specs.Prelude.{◌≡◌, refl, Bool, true, false, not, ◌&&◌, ◌||◌, ℕ, suc, ◌+◌, ◌-◌, ◌*◌, ◌/◌, ◌%◌, ◌^◌, ◌≤◌, ◌<◌, ltb, eqb, ℤ, pos, negsuc, length, get_or, drop, Ok}
use Rattle.std.proofs.Common.{◌∙◌, suc-mul, mul-le-mul_right, arith}
use mathlib.Core.List.{List, [], ◌∷◌, ◌++◌}
use borrow.Author.Tests.{ltb-true, ltb-false, le-leb, lt-ltb, eqb-true, not-false}
use Rattle.std.proofs.Math.Arith.{digits_div, digits_mod}
use Rattle.std.specs.Int.Signed.{le_z, lt_z}
use Rattle.std.proofs.Math.ListN.{length-drop}
use Rattle.std.specs.Int.{w16}
use mir.Val.{to_z, sel}
use Rattle.refusal.specs.declared.Refusal.TheVariants.{Count, Component, Mark, Outside}
use Rattle.refusal.specs.First.{◌⇒◌, first, passed}
use Rattle.limits.specs.Limits.{is_vector_count, is_mark, is_component}
use Rattle.limits.specs.Tests.{le_z_not}
use Rattle.signed.specs.Components.{are_components, all_components}
use Rattle.layout.specs.Layout.{mark_count, first_marks}
use Rattle.layout.specs.Laws.{marks_within}
use Rattle.layout.specs.Stretch.{shape_causes, Shape, shape}
use Rattle.region.specs.Dimension.{not_above, good_dimension}
use Rattle.region.specs.Region.{in_marks}
use Rattle.partition.specs.Marks.{dimension_marks, good_marks}
use Rattle.partition.specs.Parts.{part_at, part_length}
use Rattle.records.specs.Records.{head_kind, mark_kind, vector_kind, end_kind, record_length, kind_of, value_of}
use Rattle.records.specs.RowLaws.{both}
use Rattle.records.specs.Frame.{frame_causes, framed}
use Rattle.library.specs.EachLaws.{tabulate_length, tabulate_at, every_at, every_all, accepted_at}
use Rattle.library.specs.Library.{Library, mark_total, component_in, library_length, vector_place, mark_place, mark_at, settings_at, stored_at}
use Rattle.library.specs.Library.{component_at, read_library}
use Rattle.library.specs.Read.{mark_read}
use Rattle.library.specs.Tests.{inside}
use Rattle.library.specs.MarkLaws.{good_each}
use Rattle.loading.specs.Load.{head_causes, mark_causes, mark_wrong, zero_beyond, vector_causes, marks_causes, vectors_causes, end_causes}
use Rattle.loading.specs.Load.{records_causes}

-- ---- marks and components

neither : (s t : Bool) → s || t ≡ false → (s ≡ false) × (t ≡ false)
neither true t e = (e, cc)
neither false t e = (refl, e)

-- marks in range of which none is below the one before it are good
good_dimension_lem : (marks : List ℤ) → ((i : ℕ) → i < length marks → is_mark (get_or marks i (pos 0)) ≡ true)
    → ((i : ℕ) → suc i < length marks → le_z (get_or marks i (pos 0)) (get_or marks (suc i) (pos 0)) ≡ true) → good_dimension marks ≡ true
unfolding good_dimension not_above
good_dimension_lem [] range rise = refl
good_dimension_lem (m ∷ []) range rise = rw (range 0 (omega arith))
good_dimension_lem (m ∷ next ∷ ms) range rise =
    rw (
      range 0 (omega arith),
      rise 0 (omega arith),
      good_dimension_lem (next ∷ ms) (λ i h. range (suc i) (omega arith)) (λ i h. rise (suc i) (omega arith)),
    )

-- a number of 16 bits is a component
bits_component : (x : ℕ) → is_component (to_z w16 x) ≡ true
bits_component x = go (ltb x (2 ^ 15)) refl
  where
    go : (t : Bool) → ltb x (2 ^ 15) ≡ t → is_component (sel t (pos x) (negsuc (2 ^ 16 - suc x))) ≡ true
    go true e = le-leb x 32767 (omega (arith, ltb-true x (2 ^ 15) e))
    go false e = rw (le-leb (2 ^ 16 - suc x) 32767 (omega (arith, ltb-false x (2 ^ 15) e)))

-- ---- a library whose records pass

-- what each record has passed
pub record Passes (bytes : List ℕ) (l : Library) : Type 0 where
  pub head : first (head_causes l bytes) ≡ Ok tt
  pub mark : (t i : ℕ) → t < l.d → i < mark_count l.d l.b (suc t) → first (mark_causes bytes (first_marks l.d l.b t) i) ≡ Ok tt
  pub vector : (i : ℕ) → i < l.n → first (vector_causes l bytes i) ≡ Ok tt
  pub end : first (end_causes l bytes) ≡ Ok tt

pub passes : (bytes : List ℕ) (l : Library) → first (records_causes l bytes) ≡ Ok tt → Passes bytes l
passes bytes l accepted =
    let all = both (head_causes l bytes ++ marks_causes l bytes ++ vectors_causes l bytes) (end_causes l bytes) accepted in
    let some = both (head_causes l bytes ++ marks_causes l bytes) (vectors_causes l bytes) all.front in
    let few = both (head_causes l bytes) (marks_causes l bytes) some.front in
    record {
      head = few.front;
      mark = λ t i h k. accepted_at (mark_count l.d l.b (suc t)) _ (accepted_at l.d _ few.back t h) i k;
      vector = accepted_at l.n (vector_causes l bytes) some.back;
      end = all.back;
    }

module _ (bytes : List ℕ) (accepted : first (records_causes (read_library bytes) bytes) ≡ Ok tt) where
  abbrev l : Library
  l = read_library bytes

  abbrev total : ℕ
  total = mark_total l.d l.b

  -- ---- the head

  own_head : first (shape_causes l.d l.b ++ ((not (is_vector_count l.n) ⇒ Count) ∷ [])) ≡ Ok tt
  own_head = (both (frame_causes (eqb (kind_of bytes) head_kind) bytes) _ (passes bytes l accepted).head).back

  pub loaded_shape : first (shape_causes l.d l.b) ≡ Ok tt
  loaded_shape = (both (shape_causes l.d l.b) ((not (is_vector_count l.n) ⇒ Count) ∷ []) own_head).front

  pub loaded_count : is_vector_count l.n ≡ true
  loaded_count = not-false (is_vector_count l.n) (passed _ Count [] (both (shape_causes l.d l.b) _ own_head).back).fails

  pub shaped : Shape l.d l.b
  shaped = shape l.d l.b loaded_shape

  -- ---- lengths

  pub marks_count : length l.marks ≡ total
  unfolding read_library
  marks_count = tabulate_length total (mark_at bytes)

  pub settings_count : length l.settings ≡ l.n
  unfolding read_library
  settings_count = tabulate_length l.n (settings_at total bytes)

  pub components_count : length l.components ≡ l.n * l.d
  unfolding read_library
  components_count = tabulate_length (l.n * l.d) (λ k. component_at total bytes (k / l.d) (k % l.d))

  -- all of it is there
  pub loaded_within : library_length l.d l.b l.n ≤ length bytes
  unfolding library_length record_length
  loaded_within =
      let place = vector_place total l.n in
      let frame =
      (both (frame_causes (eqb (kind_of (drop place bytes)) end_kind) (drop place bytes)) [] (passes bytes l accepted).end).front in
      let is = framed (eqb (kind_of (drop place bytes)) end_kind) (drop place bytes) frame in
      let kind = eqb-true (kind_of (drop place bytes)) end_kind is.there in
      omega (arith, rw (kind, length-drop place bytes) at is.whole)

  -- ---- the marks

  module _ (t : ℕ) (among : t < l.d) where
    abbrev from : ℕ
    from = first_marks l.d l.b t

    abbrev count : ℕ
    count = mark_count l.d l.b (suc t)

    abbrev part : List ℤ
    part = dimension_marks l.d l.b l.marks (suc t)

    size : length part ≡ count
    size = part_length l.d l.b l.marks marks_count t among

    read : (i : ℕ) → i < count → get_or part i (pos 0) ≡ mark_at bytes (from + i)
    unfolding first_marks
    read i h =
        part_at l.d l.b l.marks t i (pos 0) h
        ∙ mark_read bytes (from + i) (omega (arith, marks_within l.d l.b l.d t among))

    right : (i : ℕ) → i < count
        → (not (is_mark (mark_at bytes (from + i))) ≡ false)
        × (ltb 0 i && lt_z (mark_at bytes (from + i)) (mark_at bytes (from + i - 1)) ≡ false)
    right i h =
        let rest = drop (mark_place (from + i)) bytes in
        let own = (both (frame_causes (eqb (kind_of rest) mark_kind) rest) _ ((passes bytes l accepted).mark t i among h)).back in
        neither _ _ (passed (mark_wrong bytes (from + i) i) Mark [] own).fails

    in_range : (i : ℕ) → i < length part → is_mark (get_or part i (pos 0)) ≡ true
    in_range i h =
        let within : i < count = omega (arith, size) in
        rw (read i within) (not-false _ (right i within).0)

    rises : (i : ℕ) → suc i < length part → le_z (get_or part i (pos 0)) (get_or part (suc i) (pos 0)) ≡ true
    rises i h =
        let within : suc i < count = omega (arith, size) in
        let before : from + suc i - 1 ≡ from + i = omega arith in
        let not_below : lt_z (mark_at bytes (from + suc i)) (mark_at bytes (from + i)) ≡ false =
        rw (before, lt-ltb 0 (suc i) (omega arith)) at (right (suc i) within).1 in
        rw (read i (omega arith), read (suc i) within, le_z_not (mark_at bytes (from + suc i)) (mark_at bytes (from + i)), not_below)

    good_part : good_dimension part ≡ true
    good_part = good_dimension_lem part in_range rises

  pub loaded_marks : good_marks l.d l.b l.marks ≡ true
  loaded_marks =
      good_each l.d l.b l.marks l.d
      ∙ every_all l.d (λ t. good_dimension (dimension_marks l.d l.b l.marks (suc t))) good_part

  -- ---- the vectors

  pub component_at_lem : (k : ℕ) → k < l.n * l.d → get_or l.components k (pos 0) ≡ component_at total bytes (k / l.d) (k % l.d)
  unfolding read_library
  component_at_lem k h = tabulate_at (l.n * l.d) (λ k. component_at total bytes (k / l.d) (k % l.d)) (pos 0) k h

  pub component_read : (i t : ℕ) → i < l.n → t < l.d → component_in l i t ≡ component_at total bytes i t
  component_read i t h k =
      let rows : suc i * l.d ≤ l.n * l.d = mul-le-mul_right l.d h in
      component_at_lem (i * l.d + t) (omega (arith, suc-mul i l.d)) ∙ rw (digits_div i k, digits_mod i k)

  pub loaded_components : are_components l.components ≡ true
  unfolding stored_at
  loaded_components =
      all_components l.components
      (λ k h. rw (component_at_lem k (rw components_count at h))
      (bits_component (value_of vector_kind (suc (k % l.d)) (drop (vector_place total (k / l.d)) bytes))))

  pub vector_inside : (i : ℕ) → i < l.n → inside l.d l.b l.marks (component_at total bytes i) ≡ true
  vector_inside i h =
      let rest = drop (vector_place total i) bytes in
      let own = (both (frame_causes (eqb (kind_of rest) vector_kind) rest) _ ((passes bytes l accepted).vector i h)).back in
      not-false _ (passed _ Outside [] (passed (not (zero_beyond l.d rest)) Component _ own).rest).fails

  pub loaded_inside : (i : ℕ) → i < l.n → inside l.d l.b l.marks (component_in l i) ≡ true
  unfolding inside
  loaded_inside i h =
      every_all l.d (λ t. in_marks (dimension_marks l.d l.b l.marks (suc t)) (component_in l i t))
      (λ t k. rw (component_read i t h k)
      (every_at l.d (λ t. in_marks (dimension_marks l.d l.b l.marks (suc t)) (component_at total bytes i t))
      (vector_inside i h) t k))
