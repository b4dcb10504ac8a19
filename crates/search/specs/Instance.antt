-- The theory of the reading order at a library: a distance is possible at a number where some vector of its code's cell has it.
-- Assumes nothing.
use Rattle.std.specs.Prelude.{◌≡◌, refl, true, ◌≢◌, List, ℕ, zero, suc, ◌*◌, ◌≤◌, ◌<◌, ℤ, length}
use Rattle.std.proofs.Common.{sym, ap, ◌∙◌, inl, inr, eq-or-lt_of_le, le_of_suc-le-suc, arith}
use Rattle.std.proofs.Math.Bool.{and-eq-true_iff}
use Rattle.std.proofs.Math.Decide.{ℕ_discrete}
use Rattle.order.specs.Members.{◌∈◌}
use Rattle.order.specs.Counted.{counted, counts}
use Rattle.selection.specs.Reading.{scan}
use Rattle.selection.specs.Settles.{LowerBound, Bounds, Within, Settles, Needed, changed}
use Rattle.selection.proofs.Changed.{changed_there, changed_elsewhere}
use Rattle.selection.proofs.Least.{member?}
use Rattle.selection.proofs.Theorems.{exact}
use Rattle.codes.specs.Codes.{spare_zero}
use Rattle.cells.specs.Cells.{vector_at, none_empty, no_empty_codes, good_codes}
use Rattle.distance.specs.Bounds.{weighed_bound}
use Rattle.distance.specs.CellBounds.{lower_le, CellReached, lower_reached, upper_reached}
use Rattle.search.specs.Search.{Index, Query, factors_in, numbers_in, distance_from, distance_in, low_in, high_in, scanned}
use Rattle.search.specs.Settled.{with_vectors, CellOf, OwnCodes, SettlesAnswer}
use Rattle.scan.specs.Ranked.{scan_agree}
use Rattle.search.specs.Rows.{Row, in_a_row}

-- v is the distance of a vector of code i's cell
pub record Possible (l : Index) (query : Query) (i v : ℕ) : Type 0 where
  pub vector : List ℤ
  pub cell : CellOf l i vector
  pub is : distance_from l query vector ≡ v

in_library : (l : Index) {i : ℕ} → i ∈ numbers_in l → i < l.n
in_library l m = omega (arith, (counted 0 l.n m).below)

-- no vector of a cell is nearer than its least distance
cell_lower : (l : Index) (query : Query) (i : ℕ) {vector : List ℤ} → CellOf l i vector → low_in l query i ≤ distance_from l query vector
cell_lower l query i cell = lower_le l.d l.b l.marks l.codes (factors_in query) query.components i cell

-- ---- own codes

pub own_lower : (l : Index) (query : Query) → OwnCodes l → LowerBound (low_in l query) (distance_in l query) (numbers_in l)
own_lower l query own i m = cell_lower l query i (own.cells i (in_library l m))

pub own_possible : (l : Index) (query : Query) → OwnCodes l → Within (Possible l query) (distance_in l query) (numbers_in l)
own_possible l query own i m = record { vector = vector_at l.d l.vectors i; cell = own.cells i (in_library l m); is = refl }

-- ---- bounds

none_empty_lem : (d b : ℕ) (marks : List ℤ) (codes : List ℕ) (n i : ℕ) → no_empty_codes d b marks codes n ≡ true → i < n
    → none_empty d b marks codes i d ≡ true
unfolding no_empty_codes
none_empty_lem d b marks codes zero i good below = absurd (omega arith)
none_empty_lem d b marks codes (suc n) i good below =
    let both = (and-eq-true_iff (no_empty_codes d b marks codes n) (none_empty d b marks codes n d)).0 good in
    elim (eq-or-lt_of_le (le_of_suc-le-suc below)) [
      | inl e ↦ rw e both.1
      | inr l ↦ none_empty_lem d b marks codes n i both.0 l
    ]

pub cell_bounds : (l : Index) (query : Query) → good_codes l.d l.b l.n l.marks l.codes ≡ true
    → Bounds (Possible l query) (low_in l query) (high_in l query) (numbers_in l)
cell_bounds l query good = record {
  least = λ i v m possible. rw (← possible.is) (cell_lower l query i possible.cell);
  low_possible = λ i m. reached (lower_reached l.d l.b l.marks l.codes (factors_in query) query.components i (named i m));
  high_possible = λ i m. reached (upper_reached l.d l.b l.marks l.codes (factors_in query) query.components i (named i m));
}
  where
    named : (i : ℕ) → i ∈ numbers_in l → none_empty l.d l.b l.marks l.codes i l.d ≡ true
    named i m =
        let both = (and-eq-true_iff (no_empty_codes l.d l.b l.marks l.codes l.n) (spare_zero l.b l.n l.codes)).0 good in
        none_empty_lem l.d l.b l.marks l.codes l.n i both.0 (in_library l m)

    reached : {step : ℤ → ℤ → ℤ → ℕ} {i : ℕ} → CellReached step l.d l.b l.marks l.codes (factors_in query) query.components i
        → Possible l query i (weighed_bound step l.d l.b l.marks l.codes (factors_in query) query.components i)
    reached r = record { vector = r.vector; cell = r.cell; is = r.is }

-- ---- from distances to vectors

-- where for each number there is a vector of its cell that has the wanted distance, there are vectors whose scan is that of the distances
pub answered : (l : Index) (query : Query) (k : ℕ) (wanted : ℕ → ℕ) (vectors : List ℤ)
    → ((i : ℕ) → i < l.n → distance_from l query (vector_at l.d vectors i) ≡ wanted i)
    → scanned (with_vectors l vectors) query k ≡ scan k wanted (numbers_in l)
answered l query k wanted vectors each =
    scan_agree k wanted (distance_in (with_vectors l vectors) query) (numbers_in l) (λ i m. each i (in_library l m))

-- a vector of the cell for number i, the library's own where i is of the set
record Stands (l : Index) (query : Query) (set : List ℕ) (wanted : ℕ → ℕ) (i : ℕ) (vector : List ℤ) : Type 0 where
  cell : CellOf l i vector
  is : distance_from l query vector ≡ wanted i
  kept : i ∈ set → vector ≡ vector_at l.d l.vectors i

pub settles_distances : (l : Index) (query : Query) (k : ℕ) (set : List ℕ) → OwnCodes l → SettlesAnswer l query k set
    → Settles k (Possible l query) (distance_in l query) (numbers_in l) set
settles_distances l query k set own settles other within agree =
    let row = in_a_row l.d l.n (Stands l query set other) (λ i h. stands i h (member? i set)) in
    sym (answered l query k other row.vectors (λ i h. (row.each i h).is))
    ∙ settles row.vectors (record { size = row.size; cells = λ i h out. (row.each i h).cell; kept = λ i h m. (row.each i h).kept m })
    ∙ exact k (low_in l query) (distance_in l query) (numbers_in l) (own_lower l query own)
  where
    stands : (i : ℕ) → i < l.n → Dec (i ∈ set) → Row l.d (Stands l query set other) i
    stands i h (yes m) = record {
      vector = vector_at l.d l.vectors i;
      size = (own.cells i h).components;
      has = record { cell = own.cells i h; is = sym (agree i m); kept = λ m. refl };
    }
    stands i h (no missing) =
        let possible = within i (counts l.n i h) in
        record {
          vector = possible.vector;
          size = possible.cell.components;
          has = record { cell = possible.cell; is = possible.is; kept = λ m. absurd (missing m) };
        }

-- a vector for number j: another at i, the library's own elsewhere
record Put (l : Index) (query : Query) (i v j : ℕ) (vector : List ℤ) : Type 0 where
  is : distance_from l query vector ≡ changed (distance_in l query) i v j
  there : j ≡ i → CellOf l i vector
  elsewhere : j ≢ i → vector ≡ vector_at l.d l.vectors j

-- vectors that differ at number i alone, by one of its cell, and have another scan
pub record OtherScan (l : Index) (query : Query) (k i : ℕ) : Type 0 where
  pub vectors : List ℤ
  pub size : length vectors ≡ l.n * l.d
  pub cell : CellOf l i (vector_at l.d vectors i)
  pub elsewhere : (j : ℕ) → j < l.n → j ≢ i → vector_at l.d vectors j ≡ vector_at l.d l.vectors j
  pub changes : scanned (with_vectors l vectors) query k ≢ scanned l query k

pub needed_vector : (l : Index) (query : Query) (k i : ℕ) → OwnCodes l → i < l.n
    → Needed k (Possible l query) (distance_in l query) (numbers_in l) i → OtherScan l query k i
needed_vector l query k i own within needed =
    let v = needed.value in
    let row = in_a_row l.d l.n (λ j. Put l query i v j) (λ j h. put j h (ℕ_discrete j i)) in
    record {
      vectors = row.vectors;
      size = row.size;
      cell = (row.each i within).there refl;
      elsewhere = λ j h other. (row.each j h).elsewhere other;
      changes =
          λ same. needed.changes (sym (answered l query k (changed (distance_in l query) i v) row.vectors (λ j h. (row.each j h).is)) ∙ same);
    }
  where
    put : (j : ℕ) → j < l.n → Dec (j ≡ i) → Row l.d (λ j. Put l query i needed.value j) j
    put j h (yes e) =
        let possible = needed.is_possible in
        record {
          vector = possible.vector;
          size = possible.cell.components;
          has = record {
            is =
                possible.is ∙ sym (ap (changed (distance_in l query) i needed.value) e ∙ changed_there (distance_in l query) i needed.value);
            there = λ e. possible.cell;
            elsewhere = λ other. absurd (other e);
          };
        }
    put j h (no other) = record {
      vector = vector_at l.d l.vectors j;
      size = (own.cells j h).components;
      has = record {
        is = sym (changed_elsewhere (distance_in l query) i needed.value j other);
        there = λ e. absurd (other e);
        elsewhere = λ other. refl;
      };
    }
