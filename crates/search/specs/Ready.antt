-- What the search may count on once nothing was refused at its entry. Assumes nothing.
use Rattle.std.specs.Prelude.{◌≡◌, true, List, ℕ, suc, ◌+◌, ◌*◌, ◌^◌, ◌≤◌, ◌<◌, ℤ, length, get_or, Ok}
use Rattle.std.proofs.Math.Path.{refl}
use Rattle.std.proofs.Common.{suc-mul, mul-le-mul, mul-le-mul_right, arith}
use borrow.Author.Tests.{not-false}
use Rattle.refusal.specs.First.{first, passed}
use Rattle.limits.specs.Limits.{max_dimensions, max_vectors, max_neighbours, is_vector_count, is_neighbour_count}
use Rattle.limits.specs.Tests as limits
use Rattle.presence.specs.Presence.{word_causes}
use Rattle.signed.specs.Components.{are_components}
use Rattle.layout.specs.Layout.{first_marks}
use Rattle.layout.specs.Stretch.{shape_causes, shape}
use Rattle.codes.specs.Codes.{code_length}
use Rattle.partition.specs.Marks.{good_marks}
use Rattle.cells.specs.Cells.{vector_at, good_codes}
use Rattle.cells.specs.CellLaws.{vector_size}
use Rattle.order.specs.Members.{member_get_d}
use Rattle.order.specs.Counted.{counted, counted_length}
use Rattle.order.specs.Ranking.{ranked_count, ranked_among}
use Rattle.selection.specs.Reading.{reading_order}
use Rattle.search.specs.Search.{Index, Query, Room, numbers_in, exact_lengths, entry_causes}
use Rattle.search.specs.declared.Terms.{Terms}
use Rattle.search.specs.Accepted.{word_passes, lengths_told}

-- the library of these numbers and buffers
abbrev pub index_of : Terms → List ℤ → List ℕ → List ℤ → Index
index_of t marks codes vectors = record { d = t.d; b = t.b; n = t.n; marks = marks; codes = codes; vectors = vectors }

abbrev pub terms_of : ℕ → ℕ → ℕ → ℕ → ℕ → Terms
terms_of d b n k word = record { d = d; b = b; n = n; k = k; word = word }

-- the query of these components, with the word of these numbers
abbrev pub query_of : Terms → List ℤ → Query
query_of t components = record { components = components; word = t.word }

-- the room of so many entries and numbers
abbrev pub room_of : ℕ → ℕ → Room
room_of entries reads = record { entries = entries; reads = reads }

pub record Ready (l : Index) (query : Query) (k : ℕ) : Type 0 where
  pub shaped : first (shape_causes l.d l.b) ≡ Ok tt
  pub dimensions : l.d ≤ max_dimensions
  pub count : l.n ≤ max_vectors
  pub some : 1 ≤ k
  pub enough : k ≤ l.n
  pub few : k ≤ max_neighbours
  pub word : first (word_causes l.d query.word) ≡ Ok tt
  pub of_query : length query.components ≡ l.d
  pub of_marks : length l.marks ≡ first_marks l.d l.b l.d
  pub of_codes : length l.codes ≡ code_length l.b l.n
  pub of_vectors : length l.vectors ≡ l.n * l.d
  pub components : are_components query.components ≡ true
  pub marks : good_marks l.d l.b l.marks ≡ true
  pub codes : good_codes l.d l.b l.n l.marks l.codes ≡ true

-- with the room for the answer
pub record Entered (l : Index) (query : Query) (k : ℕ) (room : Room) : Type 0 where
  pub ready : Ready l query k
  pub of_entries : room.entries ≡ k
  pub of_reads : room.reads ≡ l.n

pub entered : (l : Index) (query : Query) (k : ℕ) (room : Room) → first (entry_causes l query k room) ≡ Ok tt → Entered l query k room
entered l query k room accepts =
    let dimensions = passed _ _ _ accepts in
    let bits = passed _ _ _ dimensions.rest in
    let count = passed _ _ _ bits.rest in
    let neighbours = passed _ _ _ count.rest in
    let past = passed _ _ _ neighbours.rest in
    let present = passed _ _ _ past.rest in
    let lengths = passed _ _ _ present.rest in
    let components = passed _ _ _ lengths.rest in
    let marks = passed _ _ _ components.rest in
    let codes = passed _ _ _ marks.rest in
    let counted = not-false (is_vector_count l.n) count.fails in
    let among = limits.neighbours l.n k counted (not-false (is_neighbour_count l.n k) neighbours.fails) in
    let sizes = lengths_told l query k room (not-false (exact_lengths l query k room) lengths.fails) in
    let shaped : first (shape_causes l.d l.b) ≡ Ok tt = unfold first in rw (dimensions.fails, bits.fails) refl in
    record {
      ready = record {
        shaped = shaped;
        dimensions = (shape l.d l.b shaped).few;
        count = (limits.between 1 l.n max_vectors counted).below;
        some = among.some;
        enough = among.enough;
        few = among.few;
        word = word_passes l.d query.word past.fails present.fails;
        of_query = sizes.of_query;
        of_marks = sizes.of_marks;
        of_codes = sizes.of_codes;
        of_vectors = sizes.of_vectors;
        components = not-false (are_components query.components) components.fails;
        marks = not-false (good_marks l.d l.b l.marks) marks.fails;
        codes = not-false (good_codes l.d l.b l.n l.marks l.codes) codes.fails;
      };
      of_entries = sizes.of_entries;
      of_reads = sizes.of_reads;
    }

-- ---- a vector's place among the vectors

pub record Place (d : ℕ) (vectors : List ℤ) (i : ℕ) : Type 0 where
  pub ends : i * d + d ≤ length vectors
  pub small : i * d + d < 2 ^ 64
  pub size : length (vector_at d vectors i) ≡ d

pub place : {l : Index} {query : Query} {k : ℕ} → Ready l query k → (i : ℕ) → i < l.n → Place l.d l.vectors i
place {l} is i below =
    let whole : suc i * l.d ≤ l.n * l.d = mul-le-mul_right l.d below in
    let few : l.n * l.d ≤ max_vectors * max_dimensions = mul-le-mul is.count is.dimensions in
    let ends : i * l.d + l.d ≤ length l.vectors = omega (arith, suc-mul i l.d, is.of_vectors) in
    record {
      ends = ends;
      small = omega (arith, suc-mul i l.d);
      size = vector_size l.d l.vectors i ends;
    }

-- a number of the reading order is one of the library's
pub ordered_below : (l : Index) (low : ℕ → ℕ) (done : ℕ) → done < l.n → get_or (reading_order low (numbers_in l)) done 0 < l.n
ordered_below l low done below =
    let order = reading_order low (numbers_in l) in
    let inside : done < length order = omega (arith, ranked_count low (numbers_in l), counted_length 0 l.n) in
    omega (arith, (counted 0 l.n (ranked_among low (numbers_in l) (member_get_d order done 0 inside))).below)
