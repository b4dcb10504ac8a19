-- What was written loads: where writing accepts a library, loading accepts its bytes, whatever follows. Assumes nothing.
use Rattle.std.specs.Prelude.{◌≡◌, false, not, ◌||◌, ℕ, zero, suc, ◌+◌, ◌-◌, ◌^◌, ◌≤◌, ◌<◌, pos, length, get_or, drop, Ok}
use Rattle.std.proofs.Math.Path.{refl}
use Rattle.std.proofs.Common.{◌∙◌, lt-ltb, le-ltb, eq-eqb, lit<, SFits}
use Rattle.std.proofs.Math.Bool.{true}
use mathlib.Core.List.{List, [], ◌∷◌, ◌++◌}
use Rattle.std.proofs.Math.Decide.{dec_lt}
use native.Mathlib.Omega.{arith}
use Rattle.std.proofs.Math.Dec.{ltb, eqb}
use Rattle.std.proofs.Math.ListN.{get_or-eq_default}
use Rattle.std.specs.Int.{w32}
use Rattle.refusal.specs.declared.Refusal.TheVariants.{Count, Length}
use Rattle.refusal.specs.First.{Row, ◌⇒◌, first, first_next}
use Rattle.limits.specs.Limits.{max_dimensions, is_vector_count}
use Rattle.signed.specs.Keys.{mark_small}
use Rattle.signed.specs.Components.{component_at_lem}
use Rattle.layout.specs.Layout.{mark_count, first_marks}
use Rattle.layout.specs.Laws.{marks_within}
use Rattle.layout.specs.Stretch.{shape_causes}
use Rattle.region.specs.Region.{in_marks}
use Rattle.partition.specs.Marks.{dimension_marks}
use Rattle.records.specs.Records.{head_kind, mark_kind, vector_kind, end_kind, formats, is_among, is_kind, record_bytes, kind_of, value_of}
use Rattle.records.specs.RowLaws.{go_on}
use Rattle.records.specs.Frame.{frame_causes, frame_passes, record_framed}
use Rattle.library.specs.Each.{each}
use Rattle.library.specs.EachLaws.{Begins, each_accepted, every_at, every_all}
use Rattle.library.specs.Library.{Library, mark_total, component_in, library_bytes, vector_place, component_at}
use Rattle.library.specs.Tests.{inside}
use Rattle.library.specs.MarkLaws.{numbered, good_range, good_rise}
use Rattle.loading.specs.Load.{marks_room, settings_room, components_room, record_causes, head_causes, mark_wrong, mark_causes, zero_beyond}
use Rattle.loading.specs.Load.{vector_causes, marks_causes, vectors_causes, end_causes, load_causes}
use Rattle.writing.specs.Writable.{Writable, component_fits}
use Rattle.round_trip.specs.Places.{head_there, mark_there, vector_there, end_there}
use Rattle.round_trip.specs.ReadWritten.{Storable, mark_value, component_value, beyond_value, read_written}

-- ---- a library that can be written has room for its values

module _ (l : Library) (room : ℕ) (w : Writable l room) where
  mark_fits : (i : ℕ) → SFits w32 (get_or l.marks i (pos 0))
  mark_fits i = go (dec_lt i (mark_total l.d l.b))
    where
      count : length l.marks ≡ mark_total l.d l.b
      count = w.sizes.marks_count

      go : Dec (i < mark_total l.d l.b) → SFits w32 (get_or l.marks i (pos 0))
      go (yes h) =
          let of = numbered l.d l.b l.d i h in
          let range = good_range l.d l.b l.marks count of.t of.among w.marks of.i of.within in
          rw of.is (record { sfits = mark_small (get_or l.marks (first_marks l.d l.b of.t + of.i) (pos 0)) range })
      go (no h) =
          let past : length l.marks ≤ i = omega arith in
          rw (get_or-eq_default l.marks (pos 0) past) (record { sfits = lit< tt })

  pub storable : ((i : ℕ) → get_or l.settings i 0 < 2 ^ 32) → Storable l
  storable settings = record {
    some = w.shaped.some;
    few = w.shaped.few;
    bits = omega (arith, w.shaped.few, w.shaped.bits);
    count = omega (arith, w.few);
    marks_count = w.sizes.marks_count;
    settings_count = w.sizes.settings_count;
    components_count = w.sizes.components_count;
    mark = mark_fits;
    setting = settings;
    component = λ i. component_fits _ (component_at_lem l.components w.components i);
  }

-- a record where it was written passes, with its own causes
record_passes : (kind : ℕ) (values bytes : List ℕ) (own : List Row) → is_kind kind ≡ true → Begins (record_bytes kind values) bytes
    → first own ≡ Ok tt → first (record_causes kind bytes own) ≡ Ok tt
unfolding record_bytes
record_passes kind values bytes own known there passes =
    rw there.is
    (go_on (frame_causes (eqb (kind_of (record_bytes kind values ++ there.tail)) kind) _) own
    (frame_passes (record_framed kind values there.tail known (eq-eqb kind kind refl))) ∙ passes)

module _ (l : Library) (room : ℕ) (w : Writable l room) (settings : (i : ℕ) → get_or l.settings i 0 < 2 ^ 32) (rest : List ℕ) where
  abbrev bytes : List ℕ
  bytes = library_bytes l ++ rest

  abbrev total : ℕ
  total = mark_total l.d l.b

  fit : Storable l
  fit = storable l room w settings

  head_passes : first (head_causes l bytes) ≡ Ok tt
  unfolding first is_kind is_among formats
  head_passes =
      record_passes head_kind (l.d ∷ l.b ∷ l.n ∷ []) bytes _ refl (head_there l rest)
      (go_on (shape_causes l.d l.b) ((not (is_vector_count l.n) ⇒ Count) ∷ []) w.shape_passes ∙ rw w.count_passes)

  module _ (t : ℕ) (among : t < l.d) where
    place : (i : ℕ) → i < mark_count l.d l.b (suc t) → first_marks l.d l.b t + i < total
    unfolding first_marks
    place i h = omega (arith, marks_within l.d l.b l.d t among)

    mark_right : (i : ℕ) → i < mark_count l.d l.b (suc t) → mark_wrong bytes (first_marks l.d l.b t + i) i ≡ false
    mark_right zero h =
        let here = good_range l.d l.b l.marks w.sizes.marks_count t among w.marks 0 h in
        rw (mark_value l fit rest (first_marks l.d l.b t + 0) (place 0 h), here)
    mark_right (suc i) h =
        let p = first_marks l.d l.b t in
        let here = good_range l.d l.b l.marks w.sizes.marks_count t among w.marks (suc i) h in
        let rises = good_rise l.d l.b l.marks w.sizes.marks_count t among w.marks i h in
        let before : p + suc i - 1 ≡ p + i = omega arith in
        rw (
          before,
          mark_value l fit rest (p + suc i) (place (suc i) h),
          mark_value l fit rest (p + i) (place i (omega arith)),
          here,
          rises,
          lt-ltb 0 (suc i) (omega arith),
        )

    mark_passes : (i : ℕ) → i < mark_count l.d l.b (suc t) → first (mark_causes bytes (first_marks l.d l.b t) i) ≡ Ok tt
    unfolding first is_kind is_among formats
    mark_passes i h =
        record_passes mark_kind _ _ _ refl (mark_there l rest (first_marks l.d l.b t + i) (place i h)) (rw (mark_right i h))

    dimension_passes : first (each (mark_count l.d l.b (suc t)) (mark_causes bytes (first_marks l.d l.b t))) ≡ Ok tt
    dimension_passes = each_accepted (mark_count l.d l.b (suc t)) (mark_causes bytes (first_marks l.d l.b t)) mark_passes

  zero_beyond_lem : (i : ℕ) → i < l.n → zero_beyond l.d (drop (vector_place total i) bytes) ≡ true
  unfolding zero_beyond
  zero_beyond_lem i h = every_all max_dimensions _ (λ t k. go t k (dec_lt t l.d))
    where
      go : (t : ℕ) → t < max_dimensions → Dec (t < l.d)
          → ltb t l.d || eqb (value_of vector_kind (suc t) (drop (vector_place total i) bytes)) 0 ≡ true
      go t k (yes less) = rw (lt-ltb t l.d less)
      go t k (no more) =
          let past : l.d ≤ t = omega arith in
          rw (le-ltb t l.d past, beyond_value l fit rest i t h past k)

  insides : (i : ℕ) → i < l.n → inside l.d l.b l.marks (component_at total bytes i) ≡ true
  unfolding inside
  insides i h =
      every_all l.d _
      (λ t k. rw (component_value l fit rest i t h k)
      (every_at l.d (λ t. in_marks (dimension_marks l.d l.b l.marks (suc t)) (component_in l i t)) (w.insides i h) t k))

  vector_passes : (i : ℕ) → i < l.n → first (vector_causes l bytes i) ≡ Ok tt
  unfolding first is_kind is_among formats
  vector_passes i h = record_passes vector_kind _ _ _ refl (vector_there l rest i h) (rw (zero_beyond_lem i h, insides i h))

  end_passes : first (end_causes l bytes) ≡ Ok tt
  unfolding first is_kind is_among formats
  end_passes = record_passes end_kind [] _ [] refl (end_there l rest) refl

  pub load_passes : first (load_causes marks_room settings_room components_room bytes) ≡ Ok tt
  unfolding load_causes
  load_passes =
      let head = head_causes l bytes in
      let marks = marks_causes l bytes in
      let vectors = vectors_causes l bytes in
      rw (read_written l fit rest)
      (first_next Length _ refl
      ∙ go_on (head ++ marks ++ vectors) (end_causes l bytes)
      (go_on (head ++ marks) vectors (go_on head marks head_passes ∙ each_accepted l.d _ dimension_passes)
      ∙ each_accepted l.n (vector_causes l bytes) vector_passes)
      ∙ end_passes)
