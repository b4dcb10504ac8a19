-- What holds where the search is not refused, and that it is not refused where all of that holds. Assumes nothing.
use Rattle.std.specs.Prelude.{◌≡◌, refl, true, false, ℕ, ◌*◌, ◌≤◌, length, Ok}
use Rattle.std.proofs.Math.Bool.{and-eq-true_iff}
use Rattle.std.proofs.Common.{arith, eqb-true, eq-eqb}
use Rattle.std.proofs.lemmas.Bool.{not-false}
use Rattle.refusal.specs.First.{first, passed}
use Rattle.limits.specs.Limits.{max_neighbours, is_dimension_count, is_bits, is_vector_count, is_neighbour_count}
use Rattle.limits.specs.Tests.{neighbours}
use Rattle.presence.specs.Presence.{has_bit_past, has_too_few, word_causes}
use Rattle.signed.specs.Components.{are_components}
use Rattle.order.specs.Counted.{counted_length}
use Rattle.selection.proofs.Theorems.{best_length}
use Rattle.layout.specs.Layout.{first_marks}
use Rattle.partition.specs.Marks.{good_marks}
use Rattle.codes.specs.Codes.{code_length}
use Rattle.cells.specs.Cells.{good_codes}
use Rattle.search.specs.Search.{Index, Query, Room, numbers_in, distance_in, low_in, searched, in_own_cells, exact_lengths, search_causes}

-- the search is not refused
abbrev pub Accepts : Index → Query → ℕ → Room → Type 0
Accepts l query k room = first (search_causes l query k room) ≡ Ok tt

pub record Passes (l : Index) (query : Query) (k : ℕ) (room : Room) : Type 0 where
  pub dimensions : is_dimension_count l.d ≡ true
  pub bits : is_bits l.d l.b ≡ true
  pub count : is_vector_count l.n ≡ true
  pub neighbours : is_neighbour_count l.n k ≡ true
  pub word : first (word_causes l.d query.word) ≡ Ok tt
  pub lengths : exact_lengths l query k room ≡ true
  pub components : are_components query.components ≡ true
  pub marks : good_marks l.d l.b l.marks ≡ true
  pub codes : good_codes l.d l.b l.n l.marks l.codes ≡ true
  pub cells : in_own_cells l (searched l query k).reads ≡ true

-- both tests of a presence word fail, and the other way round
pub word_passes : (d word : ℕ) → has_bit_past d word ≡ false → has_too_few d word ≡ false → first (word_causes d word) ≡ Ok tt
unfolding first
word_passes d word past few = rw (past, few) refl

pub word_told : (d word : ℕ) → first (word_causes d word) ≡ Ok tt → (has_bit_past d word ≡ false) × (has_too_few d word ≡ false)
word_told d word accepted =
    let past = passed _ _ _ accepted in
    (past.fails, (passed _ _ _ past.rest).fails)

pub passes : (l : Index) (query : Query) (k : ℕ) (room : Room) → Accepts l query k room → Passes l query k room
passes l query k room accepts =
    let dimensions = passed _ _ _ accepts in
    let bits = passed _ _ _ dimensions.rest in
    let count = passed _ _ _ bits.rest in
    let neighbours = passed _ _ _ count.rest in
    let past = passed _ _ _ neighbours.rest in
    let present = passed _ _ _ past.rest in
    let lengths = passed _ _ _ present.rest in
    let components = passed _ _ _ lengths.rest in
    let marks = passed _ _ _ components.rest in
    let codes = passed _ _ _ marks.rest in
    let cells = passed _ _ _ codes.rest in
    record {
      dimensions = not-false (is_dimension_count l.d) dimensions.fails;
      bits = not-false (is_bits l.d l.b) bits.fails;
      count = not-false (is_vector_count l.n) count.fails;
      neighbours = not-false (is_neighbour_count l.n k) neighbours.fails;
      word = word_passes l.d query.word past.fails present.fails;
      lengths = not-false (exact_lengths l query k room) lengths.fails;
      components = not-false (are_components query.components) components.fails;
      marks = not-false (good_marks l.d l.b l.marks) marks.fails;
      codes = not-false (good_codes l.d l.b l.n l.marks l.codes) codes.fails;
      cells = not-false (in_own_cells l (searched l query k).reads) cells.fails;
    }

pub accepts : (l : Index) (query : Query) (k : ℕ) (room : Room) → Passes l query k room → Accepts l query k room
unfolding first
accepts l query k room p =
    let word = word_told l.d query.word p.word in
    rw (p.dimensions, p.bits, p.count, p.neighbours, word.0, word.1, p.lengths, p.components, p.marks, p.codes, p.cells) refl

-- then the search finds k vectors, no more than an array of entries holds
pub best_few : (l : Index) (query : Query) (k : ℕ) (room : Room) → Accepts l query k room → k ≤ max_neighbours
best_few l query k room held =
    let p = passes l query k room held in
    (neighbours l.n k p.count p.neighbours).few

pub best_size : (l : Index) (query : Query) (k : ℕ) (room : Room) → Accepts l query k room → length (searched l query k).best ≡ k
best_size l query k room held =
    let p = passes l query k room held in
    let among = neighbours l.n k p.count p.neighbours in
    omega (arith, best_length k (low_in l query) (distance_in l query) (numbers_in l), counted_length 0 l.n, among.enough)

-- ---- the lengths

pub record Lengths (l : Index) (query : Query) (k : ℕ) (room : Room) : Type 0 where
  pub of_query : length query.components ≡ l.d
  pub of_marks : length l.marks ≡ first_marks l.d l.b l.d
  pub of_codes : length l.codes ≡ code_length l.b l.n
  pub of_vectors : length l.vectors ≡ l.n * l.d
  pub of_entries : room.entries ≡ k
  pub of_reads : room.reads ≡ l.n

pub lengths_told : (l : Index) (query : Query) (k : ℕ) (room : Room) → exact_lengths l query k room ≡ true → Lengths l query k room
lengths_told l query k room exact =
    let query-and = (and-eq-true_iff _ _).0 exact in
    let marks-and = (and-eq-true_iff _ _).0 query-and.1 in
    let codes-and = (and-eq-true_iff _ _).0 marks-and.1 in
    let vectors-and = (and-eq-true_iff _ _).0 codes-and.1 in
    let room-and = (and-eq-true_iff _ _).0 vectors-and.1 in
    record {
      of_query = eqb-true _ _ query-and.0;
      of_marks = eqb-true _ _ marks-and.0;
      of_codes = eqb-true _ _ codes-and.0;
      of_vectors = eqb-true _ _ vectors-and.0;
      of_entries = eqb-true _ _ room-and.0;
      of_reads = eqb-true _ _ room-and.1;
    }

pub lengths_exact : (l : Index) (query : Query) (k : ℕ) (room : Room) → Lengths l query k room → exact_lengths l query k room ≡ true
lengths_exact l query k room n =
    rw (
      eq-eqb _ _ n.of_query,
      eq-eqb _ _ n.of_marks,
      eq-eqb _ _ n.of_codes,
      eq-eqb _ _ n.of_vectors,
      eq-eqb _ _ n.of_entries,
      eq-eqb _ _ n.of_reads,
    )
    refl
