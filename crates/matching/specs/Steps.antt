-- The text of a match by the steps in which it is found: the library, k, the query, the answer. Assumes nothing.
use Rattle.std.specs.Prelude.{◌≡◌, Bool, true, not, cond, ◌&&◌, List, [], ◌∷◌, ◌++◌, ℕ, ◌*◌, ◌≤◌, ◌<◌, leb, ℤ, length, take, drop, Ok, Err}
use Rattle.std.proofs.Math.Path.{refl}
use Rattle.std.proofs.Common.{sym, ap, ap₂, ◌∙◌, mul-le-mul, arith, ltb-false, lt-ltb, le-ltb, eq-eqb, length-take, take_at}
use Rattle.std.proofs.Math.Bool.{false}
use Rattle.std.proofs.lemmas.Bool.{not-false}
use Rattle.refusal.specs.declared.Refusal.{Refusal}
use Rattle.refusal.specs.declared.Refusal.TheVariants.{Dimension, Neighbours, Length, Truncated}
use Rattle.refusal.specs.Refusal.{Verdict}
use Rattle.refusal.specs.First.{◌⇒◌, first, outcome, outcome_refused, first_here, first_next, passed}
use Rattle.limits.specs.Limits.{max_dimensions, max_vectors, is_dimension_count}
use Rattle.limits.specs.Tests.{between}
use Rattle.presence.specs.Presence.{word_causes}
use Rattle.signed.specs.Components.{are_components}
use Rattle.layout.specs.Stretch.{shape_causes}
use Rattle.codes.specs.Codes.{code_length}
use Rattle.approximation.specs.VectorCauses.{pack_vectors_causes}
use Rattle.search.specs.Search.{Query, search_causes}
use Rattle.search.specs.Ready.{room_of}
use Rattle.records.specs.RowLaws.{go_on, stop}
use Rattle.loading.specs.declared.Loaded.{Loaded}
use Rattle.library.specs.Library.{Library, library_with, mark_total, library_length, read_library}
use Rattle.loading.specs.Load.{loaded, marks_room, settings_room, components_room, records_causes as library_causes, load_causes, counts, filled}
use Rattle.loading.specs.Loaded.{loaded_shape, loaded_count, shaped, marks_count, settings_count, components_count, loaded_within}
use Rattle.query.specs.Query.{present_query_causes as lentCauses, present_causes_of}
use Rattle.matching.specs.Answer.{searchable, refused_text, answer_text}
use Rattle.matching.specs.Match.{behind, k_length, k_of, read_query, k_causes, match_text}
use Rattle.matching.specs.Answerable.{packs, searches}

-- behind a library that passes, and behind a k that passes; `rest` is what stands behind the library
abbrev pub rest_text : Library → List ℕ → List ℕ
rest_text l rest =
    outcome (first (k_causes l.n rest ++ present_causes_of l.d (drop k_length rest)))
    (answer_text l (read_query l.d (drop k_length rest)) (k_of rest))
    refused_text

abbrev pub query_text : Library → ℕ → List ℕ → List ℕ
query_text l k bytes = outcome (first (present_causes_of l.d bytes)) (answer_text l (read_query l.d bytes) k) refused_text

-- what the library can be asked: packing takes it, the search takes it with any query and any k that pass, and each vector has settings
pub record Ready (l : Library) : Type 0 where
  pub of_packing : first (pack_vectors_causes l.d l.b l.n l.components l.marks (code_length l.b l.n)) ≡ Ok tt
  pub of_search : (query : Query) (k : ℕ) → length query.components ≡ l.d → are_components query.components ≡ true
      → first (word_causes l.d query.word) ≡ Ok tt → leb 1 k && leb k l.n ≡ true
      → first (search_causes (searchable l) query k (room_of k l.n)) ≡ Ok tt
  pub of_settings : length l.settings ≡ l.n

pub ready : (input : List ℕ) → first (library_causes (read_library input) input) ≡ Ok tt → Ready (read_library input)
ready input passes = record {
  of_packing =
      packs input passes;
  of_search = searches input passes;
  of_settings = settings_count input passes;
}

-- ---- a step that refuses, and one that passes

pub library_refused : (input : List ℕ) {cause : Refusal} → first (library_causes (read_library input) input) ≡ Err cause
    → match_text input ≡ refused_text cause
unfolding match_text
library_refused input refused = outcome_refused _ refused_text (stop (library_causes (read_library input) input) _ refused)

pub library_passes : (input : List ℕ) → first (library_causes (read_library input) input) ≡ Ok tt
    → match_text input ≡ rest_text (read_library input) (behind (read_library input) input)
unfolding match_text
library_passes input passes =
    let l = read_library input in
    let rest = behind l input in
    ap (λ (v : Verdict). outcome v (answer_text l (read_query l.d (drop k_length rest)) (k_of rest)) refused_text)
    (go_on (library_causes l input) _ passes)

pub k_refused : (l : Library) (rest : List ℕ) {cause : Refusal} → first (k_causes l.n rest) ≡ Err cause
    → rest_text l rest ≡ refused_text cause
k_refused l rest refused = outcome_refused _ refused_text (stop (k_causes l.n rest) _ refused)

pub k_passes : (l : Library) (rest : List ℕ) → first (k_causes l.n rest) ≡ Ok tt
    → rest_text l rest ≡ query_text l (k_of rest) (drop k_length rest)
k_passes l rest passes =
    ap (λ (v : Verdict). outcome v (answer_text l (read_query l.d (drop k_length rest)) (k_of rest)) refused_text)
    (go_on (k_causes l.n rest) _ passes)

pub k_among : (n : ℕ) (rest : List ℕ) → first (k_causes n rest) ≡ Ok tt → leb 1 (k_of rest) && leb (k_of rest) n ≡ true
k_among n rest passes = not-false _ (passed _ Neighbours _ (passed _ Truncated _ passes).rest).fails

pub k_truncated : (n : ℕ) (rest : List ℕ) → length rest < k_length → first (k_causes n rest) ≡ Err Truncated
k_truncated n rest short = first_here Truncated _ (lt-ltb (length rest) k_length short)

pub k_tested : (n : ℕ) (rest : List ℕ) → k_length ≤ length rest
    → first (k_causes n rest) ≡ cond (leb 1 (k_of rest) && leb (k_of rest) n) (Ok tt) (Err Neighbours)
k_tested n rest there = first_next Truncated _ (le-ltb (length rest) k_length there) ∙ go (leb 1 (k_of rest) && leb (k_of rest) n)
  where
    go : (t : Bool) → first ((not t ⇒ Neighbours) ∷ []) ≡ cond t (Ok tt) (Err Neighbours)
    go true = unfold first in refl
    go false = unfold first in refl

pub k_there : (n : ℕ) (rest : List ℕ) → first (k_causes n rest) ≡ Ok tt → k_length ≤ length rest
k_there n rest passes = ltb-false (length rest) k_length (passed _ Truncated _ passes).fails

-- ---- the query

pub ready_dimensions : {l : Library} → Ready l → is_dimension_count l.d ≡ true
ready_dimensions {l} is = not-false _ (passed (not (is_dimension_count l.d)) Dimension _ is.of_packing).fails

pub query_rows : (d room : ℕ) (bytes : List ℕ) → is_dimension_count d ≡ true → room ≡ d
    → first (lentCauses d room bytes) ≡ first (present_causes_of d bytes)
unfolding first lentCauses
query_rows d room bytes dimensions exact = rw (dimensions, eq-eqb room d exact)

-- ---- the library

-- a buffer begins with these elements
abbrev pub Begins : {A : Type 0} → List A → List A → Type 0
Begins front buffer = take (length front) buffer ≡ front

pub begins_within : {A : Type 0} (front buffer : List A) → Begins front buffer → length front ≤ length buffer
begins_within front buffer begins = omega (arith, sym (length-take (length front) buffer) ∙ ap length begins)

-- what loading leaves of an input whose library passes
pub record HoldsLibrary (input : List ℕ) (d b n used : ℕ) (marks : List ℤ) (settings : List ℕ) (components : List ℤ) : Type 0 where
  pub passes : first (library_causes (read_library input) input) ≡ Ok tt
  pub d_is : d ≡ (read_library input).d
  pub b_is : b ≡ (read_library input).b
  pub n_is : n ≡ (read_library input).n
  pub used_is : used ≡ library_length (read_library input).d (read_library input).b (read_library input).n
  pub marks_begin : Begins (read_library input).marks marks
  pub settings_begin : Begins (read_library input).settings settings
  pub components_begin : Begins (read_library input).components components

-- loading with buffers of the right lengths refuses for the records alone
pub load_rows : {marks settings components : ℕ} (input : List ℕ) → marks ≡ marks_room → settings ≡ settings_room → components ≡ components_room
    → first (load_causes marks settings components input) ≡ first (library_causes (read_library input) input)
unfolding load_causes
load_rows input of_marks of_settings of_components =
    first_next Length _ (rw (eq-eqb _ _ of_marks, eq-eqb _ _ of_settings, eq-eqb _ _ of_components))

-- where loading refuses, the verdict does
pub counts_refused : {v : Verdict} (l : Library) {cause : Refusal} → counts v l ≡ Err cause → v ≡ Err cause
counts_refused {v = v} l {cause = cause} is = go v is
  where
    go : (w : Verdict) → counts w l ≡ Err cause → w ≡ Err cause
    go (Ok _) same =
        let impossible : ◌≡◌ {A = ℕ} 0 1 = cc in
        absurd (omega arith)
    go (Err other) same = cc

-- what was loaded, and that nothing refuses it
pub record Loads (v : Verdict) (l : Library) (r : Loaded) : Type 0 where
  pub accepted : v ≡ Ok tt
  pub is : r ≡ loaded l

pub counts_loaded : {v : Verdict} (l : Library) {r : Loaded} → counts v l ≡ Ok r → Loads v l r
counts_loaded {v = v} l {r = r} is = go v is
  where
    go : (w : Verdict) → counts w l ≡ Ok r → Loads w l r
    go (Ok _) same = record { accepted = refl; is = cc }
    go (Err other) same =
        let impossible : ◌≡◌ {A = ℕ} 0 1 = cc in
        absurd (omega arith)

pub filled_begins : {A : Type 0} (v : Verdict) (new old : List A) → v ≡ Ok tt → Begins new (filled v new old)
filled_begins v new old accepted = rw accepted (take_at new (drop (length new) old) (length new) refl)

module _ {input : List ℕ} {d b n used : ℕ} {marks : List ℤ} {settings : List ℕ} {components : List ℤ}
    (is : HoldsLibrary input d b n used marks settings components) where
  abbrev l : Library
  l = read_library input

  pub held_shape : first (shape_causes d b) ≡ Ok tt
  held_shape = rw (is.d_is, is.b_is) (loaded_shape input is.passes)

  pub held_few : n * d ≤ components_room
  held_few =
      let few = (between 1 l.n max_vectors (loaded_count input is.passes)).below in
      mul-le-mul {n₂ = max_vectors} {m₂ = max_dimensions} (rw is.n_is few) (rw is.d_is (shaped input is.passes).few)

  pub held_within : used ≤ length input
  held_within = rw is.used_is (loaded_within input is.passes)

  -- how many of each there are
  pub held_marks : mark_total d b ≡ length l.marks
  held_marks = rw (is.d_is, is.b_is) (sym (marks_count input is.passes))

  pub held_settings : n ≡ length l.settings
  held_settings = is.n_is ∙ sym (settings_count input is.passes)

  pub held_components : n * d ≡ length l.components
  held_components = rw (is.n_is, is.d_is) (sym (components_count input is.passes))

  -- the library of these counts and of the fronts of these buffers
  held_library : library_with d b n (take (mark_total d b) marks) (take n settings) (take (n * d) components) ≡ l
  held_library =
      let of_marks : take (mark_total d b) marks ≡ l.marks = rw held_marks is.marks_begin in
      let of_settings : take n settings ≡ l.settings = ap (λ (m : ℕ). take m settings) held_settings ∙ is.settings_begin in
      let of_components : take (n * d) components ≡ l.components = rw held_components is.components_begin in
      rw (of_marks, of_settings, of_components, is.d_is, is.b_is, is.n_is)

  pub held_ready : Ready (library_with d b n (take (mark_total d b) marks) (take n settings) (take (n * d) components))
  held_ready = rw held_library (ready input is.passes)

  pub held_text : rest_text (library_with d b n (take (mark_total d b) marks) (take n settings) (take (n * d) components)) (drop used input)
      ≡ match_text input
  held_text =
      ap₂ (λ (library : Library) (from : ℕ). rest_text library (drop from input)) held_library is.used_is
      ∙ sym (library_passes input is.passes)

-- ---- what loading tells

module _ (input : List ℕ) {room-marks room-settings room-components : ℕ} (of_marks : room-marks ≡ marks_room)
    (of_settings : room-settings ≡ settings_room)
    (of_components : room-components ≡ components_room) where
  abbrev v : Verdict
  v = first (load_causes room-marks room-settings room-components input)

  pub loaded_refused : {cause : Refusal} → counts v (read_library input) ≡ Err cause → match_text input ≡ refused_text cause
  loaded_refused refused = library_refused input (sym (load_rows input of_marks of_settings of_components) ∙ counts_refused (read_library input) refused)

  pub loaded_holds : {r : Loaded} → counts v (read_library input) ≡ Ok r
      → {marks : List ℤ} {settings : List ℕ} {components : List ℤ} (marks₀ : List ℤ) (settings₀ : List ℕ) (components₀ : List ℤ)
      → marks ≡ filled v (read_library input).marks marks₀ → settings ≡ filled v (read_library input).settings settings₀
      → components ≡ filled v (read_library input).components components₀
      → HoldsLibrary input r.d r.b r.n r.used marks settings components
  loaded_holds given marks₀ settings₀ components₀ marks_are settings-are components_are =
      let told = counts_loaded (read_library input) given in
      let passes = told.accepted in
      let same = told.is in
      record {
        passes = sym (load_rows input of_marks of_settings of_components) ∙ passes;
        d_is = ap (λ (loaded : Loaded). loaded.d) same;
        b_is = ap (λ (loaded : Loaded). loaded.b) same;
        n_is = ap (λ (loaded : Loaded). loaded.n) same;
        used_is = ap (λ (loaded : Loaded). loaded.used) same;
        marks_begin = rw marks_are (filled_begins v (read_library input).marks marks₀ passes);
        settings_begin = rw settings-are (filled_begins v (read_library input).settings settings₀ passes);
        components_begin = rw components_are (filled_begins v (read_library input).components components₀ passes);
      }
