-- What was written is read again: the library that a library's bytes begin with is that library, whatever follows. Assumes nothing.
use Rattle.std.specs.Prelude.{◌≡◌, List, [], ◌∷◌, ◌++◌, ℕ, zero, suc, ◌+◌, ◌*◌, ◌/◌, ◌%◌, ◌^◌, ◌≤◌, ◌<◌, pos, drop, replicate}
use Rattle.std.proofs.Math.Path.{ap}
use Rattle.std.proofs.Common.{◌∙◌, div-add-mod', mod-lt, div-lt_iff_lt-mul, arith, lit<, SFits, of_z, to_z}
use Rattle.std.proofs.Math.Decide.{dec_lt}
use Rattle.std.proofs.Math.ListN.{length, get_or}
use Rattle.std.proofs.lemmas.List.{length-replicate, get_or-replicate}
use mir.Syntax.{w16, w32}
use mir.ValLaws.{to_z-of_z, of_z_fits}
use Rattle.limits.specs.Limits.{max_dimensions}
use Rattle.records.specs.Records.{head_kind, mark_kind, vector_kind, widths_of, value_of}
use Rattle.records.specs.RecordLaws.{Fitting, value_written, head_widths, mark_widths, vector_widths}
use Rattle.library.specs.Each.{tabulate}
use Rattle.library.specs.EachLaws.{tabulate_at, tabulate_past, tabulate_is}
use Rattle.library.specs.Library.{Library, mark_total, vector_values, component_in, library_bytes, vector_place, head_value, mark_at, settings_at}
use Rattle.library.specs.Library.{stored_at, component_at, read_library}
use Rattle.round_trip.specs.Places.{head_there, mark_there, vector_there}

-- each value of the library has room in its record, and its lists are as long as its counts say
pub record Storable (l : Library) : Type 0 where
  pub some : 0 < l.d
  pub few : l.d ≤ max_dimensions
  pub bits : l.b < 2 ^ 8
  pub count : l.n < 2 ^ 16
  pub marks_count : length l.marks ≡ mark_total l.d l.b
  pub settings_count : length l.settings ≡ l.n
  pub components_count : length l.components ≡ l.n * l.d
  pub mark : (i : ℕ) → SFits w32 (get_or l.marks i (pos 0))
  pub setting : (i : ℕ) → get_or l.settings i 0 < 2 ^ 32
  pub component : (i : ℕ) → SFits w16 (get_or l.components i (pos 0))

module _ (l : Library) (fit : Storable l) (rest : List ℕ) where
  abbrev bytes : List ℕ
  bytes = library_bytes l ++ rest

  -- ---- the head

  head_fits : Fitting (widths_of head_kind) (l.d ∷ l.b ∷ l.n ∷ [])
  head_fits = rw head_widths go
    where
      go : Fitting (1 ∷ 1 ∷ 2 ∷ []) (l.d ∷ l.b ∷ l.n ∷ [])
      go zero h = omega (arith, fit.few)
      go (suc zero) h = fit.bits
      go (suc (suc zero)) h = fit.count
      go (suc (suc (suc i))) h = absurd (omega arith)

  head_value_lem : (i : ℕ) → i < 3 → head_value bytes i ≡ get_or (l.d ∷ l.b ∷ l.n ∷ []) i 0
  unfolding head_value
  head_value_lem i h =
      let there = head_there l rest in
      let within : i < length (widths_of head_kind) = rw head_widths h in
      rw there.is (value_written head_kind (l.d ∷ l.b ∷ l.n ∷ []) there.tail head_fits i within)

  -- ---- the marks

  mark_fits : (i : ℕ) → Fitting (4 ∷ []) (of_z w32 (get_or l.marks i (pos 0)) ∷ [])
  mark_fits i zero h = (of_z_fits w32 (get_or l.marks i (pos 0)) (fit.mark i)).fits
  mark_fits i (suc j) h = absurd (omega arith)

  pub mark_value : (i : ℕ) → i < mark_total l.d l.b → mark_at bytes i ≡ get_or l.marks i (pos 0)
  unfolding mark_at
  mark_value i h =
      let there = mark_there l rest i h in
      let mark = get_or l.marks i (pos 0) in
      let within : 0 < length (widths_of mark_kind) = rw mark_widths (lit< tt) in
      rw there.is
      (ap (to_z w32) (value_written mark_kind (of_z w32 mark ∷ []) there.tail (rw mark_widths (mark_fits i)) 0 within)
      ∙ to_z-of_z w32 mark (fit.mark i))

  -- ---- the vectors

  abbrev values : ℕ → List ℕ
  values i = vector_values l.d (get_or l.settings i 0) (component_in l i)

  -- a component as it is stored, and those beyond the last
  stored : (i t : ℕ) → t < l.d → get_or (values i) (suc t) 0 ≡ of_z w16 (component_in l i t)
  stored i t h = tabulate_at l.d (λ t. of_z w16 (component_in l i t)) 0 t h

  beyond : (i t : ℕ) → l.d ≤ t → get_or (values i) (suc t) 0 ≡ 0
  beyond i t h = tabulate_past l.d (λ t. of_z w16 (component_in l i t)) 0 t h

  stored_fits : (i t : ℕ) → get_or (values i) (suc t) 0 < 2 ^ 16
  stored_fits i t = go (dec_lt t l.d)
    where
      go : Dec (t < l.d) → get_or (values i) (suc t) 0 < 2 ^ 16
      go (yes h) = rw (stored i t h) (of_z_fits w16 (component_in l i t) (fit.component (i * l.d + t))).fits
      go (no h) =
          let past : l.d ≤ t = omega arith in
          rw (beyond i t past) (lit< tt)

  vector_fits : (i : ℕ) → Fitting (4 ∷ replicate max_dimensions 2) (values i)
  vector_fits i zero h = fit.setting i
  vector_fits i (suc t) h =
      let within : t < max_dimensions = omega (arith, length-replicate {A = ℕ} max_dimensions 2) in
      rw (get_or-replicate {A = ℕ} max_dimensions t 2 0 within) (stored_fits i t)

  vector_value : (i : ℕ) → i < l.n → (j : ℕ) → j ≤ max_dimensions
      → value_of vector_kind j (drop (vector_place (mark_total l.d l.b) i) bytes) ≡ get_or (values i) j 0
  vector_value i h j few =
      let there = vector_there l rest i h in
      let within : j < length (widths_of vector_kind) = rw vector_widths (omega (arith, length-replicate {A = ℕ} max_dimensions 2)) in
      rw there.is (value_written vector_kind (values i) there.tail (rw vector_widths (vector_fits i)) j within)

  pub setting_value : (i : ℕ) → i < l.n → settings_at (mark_total l.d l.b) bytes i ≡ get_or l.settings i 0
  unfolding settings_at
  setting_value i h = vector_value i h 0 (omega arith)

  pub component_value : (i t : ℕ) → i < l.n → t < l.d → component_at (mark_total l.d l.b) bytes i t ≡ component_in l i t
  unfolding stored_at
  component_value i t h k =
      ap (to_z w16) (vector_value i h (suc t) (omega (arith, fit.few)) ∙ stored i t k)
      ∙ to_z-of_z w16 (component_in l i t) (fit.component (i * l.d + t))

  pub beyond_value : (i t : ℕ) → i < l.n → l.d ≤ t → t < max_dimensions
      → value_of vector_kind (suc t) (drop (vector_place (mark_total l.d l.b) i) bytes) ≡ 0
  beyond_value i t h past few = vector_value i h (suc t) few ∙ beyond i t past

  -- ---- all of it

  read_marks : tabulate (mark_total l.d l.b) (mark_at bytes) ≡ l.marks
  read_marks = tabulate_is l.marks (pos 0) (mark_total l.d l.b) (mark_at bytes) fit.marks_count mark_value

  read_settings : tabulate l.n (settings_at (mark_total l.d l.b) bytes) ≡ l.settings
  read_settings = tabulate_is l.settings 0 l.n (settings_at (mark_total l.d l.b) bytes) fit.settings_count setting_value

  read_components : tabulate (l.n * l.d) (λ k. component_at (mark_total l.d l.b) bytes (k / l.d) (k % l.d)) ≡ l.components
  read_components =
      tabulate_is l.components (pos 0) (l.n * l.d) (λ k. component_at (mark_total l.d l.b) bytes (k / l.d) (k % l.d))
      fit.components_count
      (λ k h.
      let within : k / l.d < l.n = (div-lt_iff_lt-mul fit.some).1 h in
      component_value (k / l.d) (k % l.d) within (mod-lt k fit.some)
      ∙ ap (λ (p : ℕ). get_or l.components p (pos 0)) (div-add-mod' k l.d))

  pub read_written : read_library bytes ≡ l
  unfolding read_library
  read_written =
      rw (head_value_lem 0 (lit< tt), head_value_lem 1 (lit< tt), head_value_lem 2 (lit< tt))
      (λ i. record { d = l.d; b = l.b; n = l.n; marks = read_marks i; settings = read_settings i; components = read_components i })
