-- What holds where an addition or a removal is not refused. Assumes nothing.
use Rattle.std.specs.Prelude.{◌≡◌, true, not, ◌&&◌, List, [], ℕ, suc, ◌-◌, ◌*◌, ◌≤◌, ◌<◌, ltb, eqb, ℤ, length, Ok}
use Rattle.std.proofs.Math.Bool.{and-eq-true_iff}
use Rattle.std.proofs.Common.{arith, eqb-true, ltb-true}
use Rattle.std.proofs.lemmas.Bool.{not-false, eqb-false}
use Rattle.refusal.specs.declared.Refusal.TheVariants.{Count, Length, Component, Mark, Outside, Code, Full, NotRemovable}
use Rattle.refusal.specs.First.{first, passed, accepted_front, accepted_behind}
use Rattle.limits.specs.Limits.{max_vectors, is_vector_count}
use Rattle.limits.specs.Tests.{between}
use Rattle.signed.specs.Components.{are_components}
use Rattle.layout.specs.Layout.{first_marks, code_length}
use Rattle.layout.specs.Stretch.{shape_causes}
use Rattle.partition.specs.Marks.{good_marks}
use Rattle.cells.specs.Cells.{good_codes}
use Rattle.approximation.specs.Vectors.{vectors_inside}
use Rattle.updating.specs.declared.Lengths.{Lengths}
use Rattle.updating.specs.Updated.{CodedLibrary}
use Rattle.updating.specs.UpdateCauses.{exact_for, lengths_of, sizes_of, contents_of, add_causes, remove_causes}

-- the lengths of buffers of n vectors
pub record Exact (d b n : ℕ) (lengths : Lengths) : Type 0 where
  pub of_vectors : lengths.vectors ≡ n * d
  pub of_settings : lengths.settings ≡ n
  pub of_codes : lengths.codes ≡ code_length b n

pub exact_told : (d b n : ℕ) (lengths : Lengths) → exact_for d b n lengths ≡ true → Exact d b n lengths
exact_told d b n lengths holds =
    let front = eqb lengths.vectors (n * d) && eqb lengths.settings n in
    let all = (and-eq-true_iff front (eqb lengths.codes (code_length b n))).0 holds in
    let two = (and-eq-true_iff (eqb lengths.vectors (n * d)) (eqb lengths.settings n)).0 all.0 in
    record {
      of_vectors = eqb-true lengths.vectors (n * d) two.0;
      of_settings = eqb-true lengths.settings n two.1;
      of_codes = eqb-true lengths.codes (code_length b n) all.1;
    }

-- the numbers of a library, and the lengths of its buffers
pub record Measured (l : CodedLibrary) : Type 0 where
  pub shaped : first (shape_causes l.d l.b) ≡ Ok tt
  pub counted : is_vector_count l.n ≡ true
  pub of_marks : length l.marks ≡ first_marks l.d l.b l.d
  pub exact : Exact l.d l.b l.n (lengths_of l)

pub measured : (l : CodedLibrary) → first (sizes_of l) ≡ Ok tt → Measured l
measured l accepted =
    let shapes = shape_causes l.d l.b in
    let marks = eqb (length l.marks) (first_marks l.d l.b l.d) in
    let buffers = exact_for l.d l.b l.n (lengths_of l) in
    let count = passed (not (is_vector_count l.n)) Count _ (accepted_behind shapes _ accepted) in
    let all = passed (not (marks && buffers)) Length [] count.rest in
    let both = (and-eq-true_iff marks buffers).0 (not-false (marks && buffers) all.fails) in
    record {
      shaped = accepted_front shapes _ accepted;
      counted = not-false (is_vector_count l.n) count.fails;
      of_marks = eqb-true (length l.marks) (first_marks l.d l.b l.d) both.0;
      exact = exact_told l.d l.b l.n (lengths_of l) both.1;
    }

-- its components, and more, in range and inside good marks, and good codes
pub record Sound (l : CodedLibrary) (more : List ℤ) : Type 0 where
  pub components : are_components l.vectors ≡ true
  pub more_components : are_components more ≡ true
  pub good : good_marks l.d l.b l.marks ≡ true
  pub inside : vectors_inside l.d l.b l.marks l.vectors ≡ true
  pub more_inside : vectors_inside l.d l.b l.marks more ≡ true
  pub named : good_codes l.d l.b l.n l.marks l.codes ≡ true

pub sound : (l : CodedLibrary) (more : List ℤ) → first (contents_of l more) ≡ Ok tt → Sound l more
sound l more accepted =
    let range = are_components l.vectors in
    let more-range = are_components more in
    let marks = good_marks l.d l.b l.marks in
    let place = vectors_inside l.d l.b l.marks l.vectors in
    let more-place = vectors_inside l.d l.b l.marks more in
    let codes = good_codes l.d l.b l.n l.marks l.codes in
    let ranged = passed (not (range && more-range)) Component _ accepted in
    let marked = passed (not marks) Mark _ ranged.rest in
    let placed = passed (not (place && more-place)) Outside _ marked.rest in
    let coded = passed (not codes) Code [] placed.rest in
    let ranges = (and-eq-true_iff range more-range).0 (not-false (range && more-range) ranged.fails) in
    let places = (and-eq-true_iff place more-place).0 (not-false (place && more-place) placed.fails) in
    record {
      components = ranges.0;
      more_components = ranges.1;
      good = not-false marks marked.fails;
      inside = places.0;
      more_inside = places.1;
      named = not-false codes coded.fails;
    }

-- ---- an addition

pub record Addable (l : CodedLibrary) (vector : List ℤ) (room : Lengths) : Type 0 where
  pub library : Measured l
  pub size : length vector ≡ l.d
  pub exact : Exact l.d l.b (suc l.n) room
  pub not_full : suc l.n ≤ max_vectors
  pub contents : Sound l vector

pub addable : (l : CodedLibrary) (vector : List ℤ) (room : Lengths) → first (add_causes l vector room) ≡ Ok tt → Addable l vector room
addable l vector room accepted =
    let d = l.d in
    let n = l.n in
    let library = measured l (accepted_front (sizes_of l) _ accepted) in
    let lengths = eqb (length vector) d && exact_for d l.b (suc n) room in
    let sized = passed (not lengths) Length _ (accepted_behind (sizes_of l) _ accepted) in
    let limit = passed (eqb n max_vectors) Full _ sized.rest in
    let both = (and-eq-true_iff (eqb (length vector) d) (exact_for d l.b (suc n) room)).0 (not-false lengths sized.fails) in
    let below : n ≤ max_vectors = (between 1 n max_vectors library.counted).below in
    record {
      library = library;
      size = eqb-true (length vector) d both.0;
      exact = exact_told d l.b (suc n) room both.1;
      not_full = omega (arith, eqb-false n max_vectors limit.fails);
      contents = sound l vector limit.rest;
    }

-- ---- a removal

pub record Removable (l : CodedLibrary) (i : ℕ) (room : Lengths) : Type 0 where
  pub library : Measured l
  pub exact : Exact l.d l.b (l.n - 1) room
  pub stored : i < l.n
  pub others : 1 < l.n
  pub contents : Sound l []

pub removable : (l : CodedLibrary) (i : ℕ) (room : Lengths) → first (remove_causes l i room) ≡ Ok tt → Removable l i room
removable l i room accepted =
    let d = l.d in
    let n = l.n in
    let stored = ltb i n && ltb 1 n in
    let sized = passed (not (exact_for d l.b (n - 1) room)) Length _ (accepted_behind (sizes_of l) _ accepted) in
    let there = passed (not stored) NotRemovable _ sized.rest in
    let both = (and-eq-true_iff (ltb i n) (ltb 1 n)).0 (not-false stored there.fails) in
    record {
      library = measured l (accepted_front (sizes_of l) _ accepted);
      exact = exact_told d l.b (n - 1) room (not-false (exact_for d l.b (n - 1) room) sized.fails);
      stored = ltb-true i n both.0;
      others = ltb-true 1 n both.1;
      contents = sound l [] there.rest;
    }
