-- What was loaded is written again: writing accepts it, and the bytes of the library that was loaded are the bytes that loading used.
-- Assumes nothing.
use Rattle.std.specs.Prelude.{◌≡◌, ◌||◌, pos, length, take, Ok}
use Rattle.std.proofs.Math.Path.{refl}
use Rattle.std.proofs.Common.{sym, ap, ◌∙◌, lit<, drop-drop, take-add}
use mathlib.Core.List.{List, [], ◌∷◌, ◌++◌}
use Prim.Native.Nat.{ℕ, zero, suc, ◌+◌, ◌*◌, ◌^◌, ◌≤◌, ◌<◌}
use Rattle.std.proofs.Math.Decide.{dec_lt}
use native.Mathlib.Omega.{arith}
use borrow.Author.Tests.{eq-eqb, eqb-true, not-false, le-ltb}
use Rattle.std.proofs.Math.Dec.{eqb, ltb}
use Rattle.std.proofs.Math.ListN.{get_or, drop}
use mir.Syntax.{w16, w32}
use mir.Val.{of_z}
use mir.ValLaws.{of_z-to_z}
use Rattle.refusal.specs.declared.Refusal.TheVariants.{Component}
use Rattle.refusal.specs.First.{Row, first, passed}
use Rattle.limits.specs.Limits.{max_dimensions}
use Rattle.layout.specs.Stretch.{shape_causes}
use Rattle.records.specs.Bytes.{AreBytes}
use Rattle.records.specs.ByteLaws.{bytes_drop}
use Rattle.records.specs.Records.{head_kind, mark_kind, vector_kind, end_kind, formats, widths_among, widths_of, record_length, record_bytes}
use Rattle.records.specs.Records.{kind_of, value_of}
use Rattle.records.specs.RecordLaws.{value_below, written_read, head_widths, mark_widths, vector_widths}
use Rattle.records.specs.RowLaws.{both, go_on}
use Rattle.records.specs.Frame.{frame_causes, framed}
use Rattle.library.specs.Each.{each}
use Rattle.library.specs.EachLaws.{each_same, each_parts, tabulate_at, tabulate_past, every_at, every_all}
use Rattle.library.specs.Library.{Library, mark_total, head_bytes, mark_bytes, vector_values, vector_bytes, end_bytes, component_in, library_bytes}
use Rattle.library.specs.Library.{mark_place, vector_place, library_length, head_value, mark_at, settings_at, stored_at, read_library}
use Rattle.library.specs.Read.{mark_read, setting_read}
use Rattle.library.specs.MarkLaws.{numbered}
use Rattle.library.specs.Tests.{inside}
use Rattle.loading.specs.Load.{record_causes, zero_beyond, records_causes}
use Rattle.loading.specs.ReadLaws.{component_below}
use Rattle.loading.specs.Loaded.{Passes, passes, component_read, loaded_shape, loaded_count, marks_count, settings_count, components_count}
use Rattle.loading.specs.Loaded.{loaded_components, loaded_marks, loaded_inside}
use Rattle.writing.specs.Write.{shaped_causes, write_causes}

-- writing accepts a library that was loaded
pub loaded_writable : (bytes : List ℕ) → first (records_causes (read_library bytes) bytes) ≡ Ok tt → let l = read_library bytes in
    first (write_causes l (library_length l.d l.b l.n)) ≡ Ok tt
unfolding first
loaded_writable bytes rows =
    let l = read_library bytes in
    let used = library_length l.d l.b l.n in
    let insides = every_all l.n (λ i. inside l.d l.b l.marks (component_in l i)) (loaded_inside bytes rows) in
    go_on (shape_causes l.d l.b) (shaped_causes l used) (loaded_shape bytes rows)
    ∙ rw (
      loaded_count bytes rows,
      eq-eqb _ _ (marks_count bytes rows),
      eq-eqb _ _ (settings_count bytes rows),
      eq-eqb _ _ (components_count bytes rows),
      eq-eqb used used refl,
      loaded_components bytes rows,
      loaded_marks bytes rows,
      insides,
    )

-- the bytes of a record that passes, from its values
record_again : (kind : ℕ) (values bytes : List ℕ) (own : List Row) → AreBytes bytes → first (record_causes kind bytes own) ≡ Ok tt
    → ((i : ℕ) → i < length (widths_of kind) → get_or values i 0 ≡ value_of kind i bytes)
    → record_bytes kind values ≡ take (record_length kind) bytes
record_again kind values bytes own are accepted same =
    let is = framed (eqb (kind_of bytes) kind) bytes (both (frame_causes (eqb (kind_of bytes) kind) bytes) own accepted).front in
    let kind-is = eqb-true (kind_of bytes) kind is.there in
    written_read kind values bytes are kind-is (rw kind-is at is.whole) same

-- parts of a list that stand one behind the other
one_behind_the_other : (size n place : ℕ) (f : ℕ → List ℕ) (bytes : List ℕ)
    → ((i : ℕ) → i < n → f i ≡ take size (drop (place + i * size) bytes))
    → take place bytes ++ each n f ≡ take (place + n * size) bytes
one_behind_the_other size n place f bytes same =
    let parts =
    each_same n f (λ i. take size (drop (i * size) (drop place bytes)))
    (λ i h. same i h ∙ ap (take size) (sym (drop-drop (i * size) place bytes))) in
    rw (parts, each_parts size n (drop place bytes)) (sym (take-add place (n * size) bytes))

one_value : {x : ℕ} (f : ℕ → ℕ) → x ≡ f 0 → (j : ℕ) → j < 1 → get_or (x ∷ []) j 0 ≡ f j
one_value f e zero h = e
one_value f e (suc j) h = absurd (omega arith)

module _ (bytes : List ℕ) (are : AreBytes bytes) (rows : first (records_causes (read_library bytes) bytes) ≡ Ok tt) where
  abbrev l : Library
  l = read_library bytes

  abbrev total : ℕ
  total = mark_total l.d l.b

  each_passes : Passes bytes l
  each_passes = passes bytes l rows

  -- ---- the head

  head_again : head_bytes l.d l.b l.n ≡ take (record_length head_kind) bytes
  unfolding read_library head_value
  head_again = record_again head_kind (l.d ∷ l.b ∷ l.n ∷ []) bytes _ are each_passes.head (rw head_widths same)
    where
      same : (i : ℕ) → i < 3 → get_or (l.d ∷ l.b ∷ l.n ∷ []) i 0 ≡ value_of head_kind i bytes
      same zero h = refl
      same (suc zero) h = refl
      same (suc (suc zero)) h = refl
      same (suc (suc (suc i))) h = absurd (omega arith)

  -- ---- the marks

  mark_again : (i : ℕ) → i < total → mark_bytes (get_or l.marks i (pos 0)) ≡ take (record_length mark_kind) (drop (mark_place i) bytes)
  unfolding mark_at
  mark_again i h =
      let of = numbered l.d l.b l.d i h in
      let passes-there = each_passes.mark of.t of.i of.among of.within in
      let rest = drop (mark_place i) bytes in
      let rest_are : AreBytes rest = bytes_drop (mark_place i) bytes are in
      let below : value_of mark_kind 0 rest < 2 ^ 32 = rw mark_widths at (value_below mark_kind 0 rest rest_are (rw mark_widths (lit< tt))) in
      let value : of_z w32 (mark_at bytes i) ≡ value_of mark_kind 0 rest = of_z-to_z w32 (value_of mark_kind 0 rest) (record { fits = below }) in
      rw (mark_read bytes i h)
      (record_again mark_kind (of_z w32 (mark_at bytes i) ∷ []) rest _ rest_are (rw (← of.is) at passes-there)
      (rw mark_widths (one_value (λ j. value_of mark_kind j rest) value)))

  -- ---- the vectors

  -- one vector's record
  module _ (i : ℕ) (h : i < l.n) where
    abbrev rest : List ℕ
    rest = drop (vector_place total i) bytes

    abbrev values : List ℕ
    values = vector_values l.d (get_or l.settings i 0) (component_in l i)

    rest_are : AreBytes rest
    rest_are = bytes_drop (vector_place total i) bytes are

    beyond : (t : ℕ) → t < max_dimensions → l.d ≤ t → value_of vector_kind (suc t) rest ≡ 0
    unfolding zero_beyond
    beyond t within past =
        let own = (both (frame_causes (eqb (kind_of rest) vector_kind) rest) _ (each_passes.vector i h)).back in
        let zeros = not-false (zero_beyond l.d rest) (passed _ Component _ own).fails in
        let here = every_at max_dimensions (λ t. ltb t l.d || eqb (value_of vector_kind (suc t) rest) 0) zeros t within in
        eqb-true (value_of vector_kind (suc t) rest) 0 (rw (le-ltb t l.d past) at here)

    value_same : (j : ℕ) → j < suc max_dimensions → get_or values j 0 ≡ value_of vector_kind j rest
    unfolding settings_at stored_at
    value_same zero k = setting_read bytes i h
    value_same (suc t) k = go (dec_lt t l.d)
      where
        within : t < max_dimensions
        within = omega arith

        stored : ℕ → ℕ
        stored t = of_z w16 (component_in l i t)

        go : Dec (t < l.d) → get_or values (suc t) 0 ≡ value_of vector_kind (suc t) rest
        go (yes less) =
            let below = component_below bytes are (vector_place total i) t within in
            tabulate_at l.d stored 0 t less
            ∙ ap (of_z w16) (component_read bytes rows i t h less)
            ∙ of_z-to_z w16 (value_of vector_kind (suc t) rest) (record { fits = below })
        go (no more) =
            let past : l.d ≤ t = omega arith in
            tabulate_past l.d stored 0 t past ∙ sym (beyond t within past)

    vector_again : vector_bytes l.d (get_or l.settings i 0) (component_in l i) ≡ take (record_length vector_kind) rest
    vector_again = record_again vector_kind values rest _ rest_are (each_passes.vector i h) (rw vector_widths value_same)

  -- ---- all of it

  end_again : end_bytes ≡ take (record_length end_kind) (drop (vector_place total l.n) bytes)
  unfolding widths_of widths_among formats
  end_again =
      let place = vector_place total l.n in
      record_again end_kind [] (drop place bytes) [] (bytes_drop place bytes are) each_passes.end (λ i h. absurd (omega arith))

  marks_again : head_bytes l.d l.b l.n ++ each total (λ i. mark_bytes (get_or l.marks i (pos 0))) ≡ take (mark_place total) bytes
  unfolding mark_place
  marks_again = rw head_again (one_behind_the_other (record_length mark_kind) total (record_length head_kind) _ bytes mark_again)

  pub written_loaded : library_bytes l ≡ take (library_length l.d l.b l.n) bytes
  unfolding library_bytes library_length vector_place
  written_loaded =
      rw (
        marks_again,
        one_behind_the_other (record_length vector_kind) l.n (mark_place total)
            (λ i. vector_bytes l.d (get_or l.settings i 0) (component_in l i)) bytes vector_again,
        end_again,
      )
      (sym (take-add (vector_place total l.n) (record_length end_kind) bytes))
