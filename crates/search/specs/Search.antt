-- The full scan and the search (document 01, "Distance, bounds, reading order"; source document 003, section 3.3.2, the near-optimal
-- search), with the query's presence word (document 02, Slip 1). Assumes nothing.
use Rattle.std.specs.Prelude.{Bool, true, not, ◌&&◌, List, [], ◌∷◌, ◌++◌, ℕ, ◌*◌, eqb, ℤ, length}
use Rattle.refusal.specs.declared.Refusal.TheVariants.{Count, Neighbours, Length, Component, Mark, Code, Cell}
use Rattle.refusal.specs.First.{Row, ◌⇒◌}
use Rattle.limits.specs.Limits.{is_vector_count, is_neighbour_count}
use Rattle.presence.specs.Presence.{factors_of, word_causes}
use Rattle.signed.specs.Components.{are_components}
use Rattle.order.specs.Pair.{Pair, count_from}
use Rattle.selection.specs.Reading.{Reading, read}
use Rattle.layout.specs.Layout.{first_marks}
use Rattle.layout.specs.Stretch.{shape_causes}
use Rattle.partition.specs.Marks.{good_marks}
use Rattle.codes.specs.Codes.{code_length}
use Rattle.cells.specs.Cells.{vector_at, in_first, good_codes}
use Rattle.distance.specs.Distance.{weighed_distance}
use Rattle.distance.specs.Bounds.{weighed_lower, weighed_upper}
use Rattle.scan.specs.Scanning.{scan_terms, scan_answer}

-- the vectors that are searched, with their marks and codes
pub record Index : Type 0 where
  pub d : ℕ
  pub b : ℕ
  pub n : ℕ
  pub marks : List ℤ
  pub codes : List ℕ
  pub vectors : List ℤ

-- the numbers of its vectors
abbrev pub numbers_in : Index → List ℕ
numbers_in l = count_from 0 l.n

-- a query: d components, and beside them "a presence word of 32 bits [..], bit j-1 for dimension j"
pub record Query : Type 0 where
  pub components : List ℤ
  pub word : ℕ

-- the factors of its dimensions, 1 where a dimension is present and 0 where it is absent
abbrev pub factors_in : Query → List ℕ
factors_in query = factors_of query.word

-- any vector's distance from the query: "A search that takes the word sums distance, L and U over present dimensions only"
abbrev pub distance_from : Index → Query → List ℤ → ℕ
distance_from l query vector = weighed_distance l.d (factors_in query) query.components vector

-- the distance of vector i, and its cell's least and greatest distance
abbrev pub distance_in : Index → Query → ℕ → ℕ
distance_in l query i = distance_from l query (vector_at l.d l.vectors i)

abbrev pub low_in : Index → Query → ℕ → ℕ
low_in l query i = weighed_lower l.d l.b l.marks l.codes (factors_in query) query.components i

abbrev pub high_in : Index → Query → ℕ → ℕ
high_in l query i = weighed_upper l.d l.b l.marks l.codes (factors_in query) query.components i

-- whether vector i lies in its code's cell, in all dimensions
abbrev pub in_own_cell : Index → ℕ → Bool
in_own_cell l i = in_first l.d l.b l.marks l.codes i (vector_at l.d l.vectors i) l.d

-- the full scan's answer over the library's vectors: "and so does the scan it is held to"
abbrev pub scanned : Index → Query → ℕ → List Pair
scanned l query k = scan_answer (scan_terms l.d l.n k query.word) query.components l.vectors

-- the reading order "worked out from query, k, marks, codes and patterns": the k best pairs read, and the numbers read, in reading order
abbrev pub searched : Index → Query → ℕ → Reading
searched l query k = read k (low_in l query) (distance_in l query) (numbers_in l)

-- ---- causes

-- whether each of these vectors lies in its code's cell
unfoldable pub in_own_cells : Index → List ℕ → Bool
in_own_cells l [] = true
in_own_cells l (i ∷ is) = in_own_cell l i && in_own_cells l is

-- how many entries and how many numbers of vectors read are lent
pub record Room : Type 0 where
  pub entries : ℕ
  pub reads : ℕ

-- every buffer has its exact length
abbrev pub exact_lengths : Index → Query → ℕ → Room → Bool
exact_lengths l query k room =
    eqb (length query.components) l.d
    && (eqb (length l.marks) (first_marks l.d l.b l.d)
    && (eqb (length l.codes) (code_length l.b l.n)
    && (eqb (length l.vectors) (l.n * l.d)
    && (eqb room.entries k && eqb room.reads l.n))))

-- the test of a query: "the search tests 6 on the query only, 8 never", on all its components, whatever the word says
abbrev pub query_causes : Query → List Row
query_causes query = (not (are_components query.components) ⇒ Component) ∷ []

-- the tests of a library
abbrev pub library_causes : Index → List Row
library_causes l =
    (not (good_marks l.d l.b l.marks) ⇒ Mark) ∷ (not (good_codes l.d l.b l.n l.marks l.codes) ⇒ Code) ∷ []

-- the tests of the buffers: 5, 6, 7, 9
abbrev pub buffer_causes : Index → Query → ℕ → Room → List Row
buffer_causes l query k room = (not (exact_lengths l query k room) ⇒ Length) ∷ (query_causes query ++ library_causes l)

-- the causes that are tested before anything is read: those of the shape (1, 2), and those behind it: 3, 4, those of the presence word
-- (19, 18), those of the buffers
abbrev pub shaped_causes : Index → Query → ℕ → Room → List Row
shaped_causes l query k room =
    (not (is_vector_count l.n) ⇒ Count)
    ∷ (not (is_neighbour_count l.n k) ⇒ Neighbours)
    ∷ (word_causes l.d query.word ++ buffer_causes l query k room)

abbrev pub entry_causes : Index → Query → ℕ → Room → List Row
entry_causes l query k room = shape_causes l.d l.b ++ shaped_causes l query k room

-- ".. and 10 while reading": a vector that is read is not in its code's cell
abbrev pub search_causes : Index → Query → ℕ → Room → List Row
search_causes l query k room = entry_causes l query k room ++ ((not (in_own_cells l (searched l query k).reads) ⇒ Cell) ∷ [])
