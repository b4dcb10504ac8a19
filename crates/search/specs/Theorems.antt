-- The theorems of the search (demands 2 and 3 of the mission; document 01, "Distance, bounds, reading order"; document 02, Slip 1). A
-- library `l` has d, b, n, marks, codes and vectors, a query its components and its presence word; `searched l query k` is the reading
-- order's outcome, its `best` the k pairs (distance, number) that the search answers and its `reads` the read list; `scanned l query k` is
-- the full scan's answer (Search.antt). What settles an answer, and when a vector is needed, is in Settled.antt. The query with its word, k,
-- n, d, b and the marks are any; "shortest reading is wanted for every allowed word". "Not refused" is `Accepts`.
-- Assumes nothing.
use Rattle.std.specs.Prelude.{◌≡◌, refl, ◌≢◌, List, [], ◌∷◌, true, ℕ, ◌+◌, ◌*◌, ◌≤◌, ◌<◌, ℤ, length, take}
use Rattle.std.proofs.Common.{sym, ap, ◌∙◌, arith}
use mathlib.Core.List.Memᴰ
use Rattle.std.proofs.Math.Decide.{ℕ_discrete}
use Rattle.order.specs.Members.{◌∈◌}
use Rattle.order.specs.Counted.{counted, counted_distinct}
use Rattle.selection.specs.Reading.{reading_order}
use Rattle.selection.specs.Settles.{Bounds, Agree, fixed}
use Rattle.selection.proofs.Least.{member?}
use Rattle.selection.proofs.Theorems.{reads_in_order, reads_among, exact, stable, stable_answer, needed, settling_holds, least}
use Rattle.cells.specs.Cells.{vector_at}
use Rattle.search.specs.Search.{Index, Query, numbers_in, distance_from, distance_in, low_in, high_in, in_own_cells, scanned, searched, Room}
use Rattle.search.specs.Accepted.{Accepts, passes, accepts, lengths_told, lengths_exact}
use Rattle.search.specs.Settled.{with_vectors, CellOf, OwnCodes, SameCells, SettlesAnswer, NeededVector}
use Rattle.search.specs.Instance.{Possible, OtherScan, own_lower, own_possible, cell_bounds, settles_distances, needed_vector}

-- a number read is one of the library's
read_below : (l : Index) (query : Query) (k : ℕ) {i : ℕ} → i ∈ (searched l query k).reads → i < l.n
read_below l query k m =
    omega (arith, (counted 0 l.n (reads_among k (low_in l query) (distance_in l query) (numbers_in l) m)).below)

-- where it is not refused, every code names a cell, which has its least and its greatest distance
bounds_of : (l : Index) (query : Query) (k : ℕ) (room : Room) → Accepts l query k room
    → Bounds (Possible l query) (low_in l query) (high_in l query) (numbers_in l)
bounds_of l query k room accepts = cell_bounds l query (passes l query k room accepts).codes

-- ---- 1. The search's numbers and distances are the scan's, where the codes are the vectors' own.
pub search_is_scan : (l : Index) (query : Query) (k : ℕ) → OwnCodes l → (searched l query k).best ≡ scanned l query k
search_is_scan l query k own = exact k (low_in l query) (distance_in l query) (numbers_in l) (own_lower l query own)

-- vectors of the same cells at the unread numbers leave the distances of those read
same_distances : (l : Index) (query : Query) (k : ℕ) (vectors : List ℤ) → SameCells l (searched l query k).reads vectors
    → Agree (searched l query k).reads (distance_in (with_vectors l vectors) query) (distance_in l query)
same_distances l query k vectors same i m = ap (distance_from l query) (same.kept i (read_below l query k m) m)

-- ---- 2. Whatever vectors of the same cells stand at the unread numbers, the search gives the same numbers, distances and read list ..
pub search_is_stable : (l : Index) (query : Query) (k : ℕ) (vectors : List ℤ) → SameCells l (searched l query k).reads vectors
    → searched (with_vectors l vectors) query k ≡ searched l query k
search_is_stable l query k vectors same =
    stable k (low_in l query) (distance_in l query) (numbers_in l) (distance_in (with_vectors l vectors) query)
    (same_distances l query k vectors same)

-- other vectors in as many places are taken by the search, if each that it then reads lies in its cell
accepts_others : (l : Index) (query : Query) (k : ℕ) (room : Room) (vectors : List ℤ) → length vectors ≡ l.n * l.d
    → in_own_cells (with_vectors l vectors) (searched (with_vectors l vectors) query k).reads ≡ true
    → Accepts l query k room → Accepts (with_vectors l vectors) query k room
accepts_others l query k room vectors size cells held =
    let p = passes l query k room held in
    let n = lengths_told l query k room p.lengths in
    accepts (with_vectors l vectors) query k room
    (record {
      dimensions = p.dimensions;
      bits = p.bits;
      count = p.count;
      neighbours = p.neighbours;
      word = p.word;
      lengths = lengths_exact (with_vectors l vectors) query k room (record {
        of_query = n.of_query;
        of_marks = n.of_marks;
        of_codes = n.of_codes;
        of_vectors = size;
        of_entries = n.of_entries;
        of_reads = n.of_reads;
      });
      components = p.components;
      marks = p.marks;
      codes = p.codes;
      cells = cells;
    })

-- .. and is still not refused ..
kept_cells : (l : Index) (vectors : List ℤ) (is : List ℕ) → ((i : ℕ) → i ∈ is → vector_at l.d vectors i ≡ vector_at l.d l.vectors i)
    → in_own_cells (with_vectors l vectors) is ≡ in_own_cells l is
unfolding in_own_cells
kept_cells l vectors [] kept = refl
kept_cells l vectors (i ∷ is) kept = rw (kept i (Memᴰ.head refl), kept_cells l vectors is (λ j m. kept j (Memᴰ.tail m)))

pub search_stays_accepted : (l : Index) (query : Query) (k : ℕ) (room : Room) (vectors : List ℤ)
    → SameCells l (searched l query k).reads vectors
    → Accepts l query k room → Accepts (with_vectors l vectors) query k room
search_stays_accepted l query k room vectors same held =
    let reads = (searched l query k).reads in
    let kept = kept_cells l vectors reads (λ i m. same.kept i (read_below l query k m) m) in
    accepts_others l query k room vectors same.size
    (rw (search_is_stable l query k vectors same, kept) (passes l query k room held).cells) held

-- .. and so does the scan its answer.
pub scan_is_stable : (l : Index) (query : Query) (k : ℕ) (vectors : List ℤ) → OwnCodes l
    → SameCells l (searched l query k).reads vectors
    → scanned (with_vectors l vectors) query k ≡ scanned l query k
scan_is_stable l query k vectors own same =
    stable_answer k (low_in l query) (distance_in l query) (numbers_in l) (distance_in (with_vectors l vectors) query) (own_lower l query own)
    (own_lower (with_vectors l vectors) query (record { cells = λ i h. cell i h (member? i reads); spare = own.spare }))
    (same_distances l query k vectors same)
  where
    reads : List ℕ
    reads = (searched l query k).reads

    cell : (i : ℕ) → i < l.n → Dec (i ∈ reads) → CellOf l i (vector_at l.d vectors i)
    cell i h (yes m) = rw (same.kept i h m) (own.cells i h)
    cell i h (no out) = same.cells i h out

-- ---- 3. Each number read whose cell's two distances differ is needed: the search takes another vector of its cell, put there alone, and
-- gives another number or distance.

-- where the codes are the vectors' own, no vector lies outside its cell, and so none that is read
own_cells : (l : Index) (is : List ℕ) → OwnCodes l → ((i : ℕ) → i ∈ is → i < l.n) → in_own_cells l is ≡ true
unfolding in_own_cells
own_cells l [] own below = refl
own_cells l (i ∷ is) own below =
    rw ((own.cells i (below i (Memᴰ.head refl))).inside, own_cells l is own (λ j m. below j (Memᴰ.tail m)))

pub own_reads : (l : Index) (query : Query) (k : ℕ) → OwnCodes l → in_own_cells l (searched l query k).reads ≡ true
own_reads l query k own = own_cells l (searched l query k).reads own (λ i m. read_below l query k m)

pub read_is_needed : (l : Index) (query : Query) (k : ℕ) (room : Room) → OwnCodes l → Accepts l query k room
    → (i : ℕ) → i ∈ (searched l query k).reads → low_in l query i ≢ high_in l query i → NeededVector l query k room i
read_is_needed l query k room own accepts i is_read differ = record {
  vectors = other.vectors;
  size = other.size;
  cell = other.cell;
  elsewhere = other.elsewhere;
  accepted =
      accepts_others l query k room other.vectors other.size
      (own_reads with_other query k own_other) accepts;
  changes = λ same. other.changes (sym (search_is_scan with_other query k own_other) ∙ same ∙ search_is_scan l query k own);
}
  where
    other : OtherScan l query k i
    other =
        needed_vector l query k i own (read_below l query k is_read)
        (needed k (low_in l query) (distance_in l query) (numbers_in l) (Possible l query) (high_in l query) (bounds_of l query k room accepts)
        (own_lower l query own) is_read differ)

    with_other : Index
    with_other = with_vectors l other.vectors

    cell : (j : ℕ) → j < l.n → Dec (j ≡ i) → CellOf l j (vector_at l.d other.vectors j)
    cell j h (yes e) = rw e other.cell
    cell j h (no different) = rw (other.elsewhere j h different) (own.cells j h)

    own_other : OwnCodes with_other
    own_other = record { cells = λ j h. cell j h (ℕ_discrete j i); spare = own.spare }

-- ---- 4. The numbers read settle the answer; every set that settles it holds each read number whose cell's two distances differ ..
pub reads_settle_answer : (l : Index) (query : Query) (k : ℕ) → OwnCodes l → SettlesAnswer l query k (searched l query k).reads
reads_settle_answer l query k own vectors same = scan_is_stable l query k vectors own same ∙ sym (search_is_scan l query k own)

pub settling_set_holds_reads : (l : Index) (query : Query) (k : ℕ) (room : Room) → OwnCodes l → Accepts l query k room
    → (set : List ℕ) → SettlesAnswer l query k set → (i : ℕ) → i ∈ (searched l query k).reads → low_in l query i ≢ high_in l query i
    → i ∈ set
settling_set_holds_reads l query k room own accepts set settles i is_read differ =
    settling_holds k (Possible l query) (low_in l query) (high_in l query) (distance_in l query) (numbers_in l)
    (bounds_of l query k room accepts)
    (own_possible l query own) set (settles_distances l query k set own settles) i is_read differ

-- .. so it has at least as many members as numbers are read, less those read whose cell's two distances are equal.
pub reading_is_least : (l : Index) (query : Query) (k : ℕ) (room : Room) → OwnCodes l → Accepts l query k room
    → (set : List ℕ) → SettlesAnswer l query k set
    → length (searched l query k).reads ≤ length set + fixed (low_in l query) (high_in l query) (searched l query k).reads
reading_is_least l query k room own accepts set settles =
    least k (Possible l query) (low_in l query) (high_in l query) (distance_in l query) (numbers_in l) (bounds_of l query k room accepts)
    (own_possible l query own) (counted_distinct 0 l.n) set (settles_distances l query k set own settles)

-- ---- 5. The read list is the reading order's, also where codes are wrong: the first of the numbers in order of (L, number).
pub reads_are_the_order : (l : Index) (query : Query) (k : ℕ)
    → (searched l query k).reads ≡ take (length (searched l query k).reads) (reading_order (low_in l query) (numbers_in l))
reads_are_the_order l query k = reads_in_order k (low_in l query) (distance_in l query) (numbers_in l)
