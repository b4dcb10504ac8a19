-- What the theorems of the search speak of: other vectors of the same cells, sets that settle the answer, and vectors that are needed
-- (document 01, "Distance, bounds, reading order"). Assumes nothing.
use Rattle.std.specs.Prelude.{◌≡◌, ◌≢◌, List, ℕ, ◌*◌, ◌<◌, ℤ, length}
use Rattle.order.specs.Members.{◌∈◌}
use Rattle.cells.specs.Cells.{vector_at, InCell, Own}
use Rattle.search.specs.Search.{Index, Query, Room, scanned, searched}
use Rattle.search.specs.Accepted.{Accepts}

-- the library with other vectors, all else kept
abbrev pub with_vectors : Index → List ℤ → Index
with_vectors l vectors = record { d = l.d; b = l.b; n = l.n; marks = l.marks; codes = l.codes; vectors = vectors }

-- a vector of code i's cell
abbrev pub CellOf : Index → ℕ → List ℤ → Type 0
CellOf l i vector = InCell l.d l.b l.marks l.codes i vector

-- "Codes are the patterns' own if each pattern lies in its code's cell and the spare bits are zero."
abbrev pub OwnCodes : Index → Type 0
OwnCodes l = Own l.d l.b l.n l.marks l.codes l.vectors

-- the library's own vectors at the numbers of a set, and vectors of their own cells "at all the other numbers"
pub record SameCells (l : Index) (set : List ℕ) (vectors : List ℤ) : Type 0 where
  pub size : length vectors ≡ l.n * l.d
  pub cells : (i : ℕ) → i < l.n → ¬ (i ∈ set) → CellOf l i (vector_at l.d vectors i)
  pub kept : (i : ℕ) → i < l.n → i ∈ set → vector_at l.d vectors i ≡ vector_at l.d l.vectors i

-- "A set of pattern numbers settles the answer if, whatever vectors of their own cells stand at all the other numbers, with all else that
-- the search is given kept, a full scan gives the answer's k numbers and distances." The word is kept too, and the scan goes by it.
abbrev pub SettlesAnswer : Index → Query → ℕ → List ℕ → Type 0
SettlesAnswer l query k set =
    (vectors : List ℤ) → SameCells l set vectors → scanned (with_vectors l vectors) query k ≡ (searched l query k).best

-- number i is needed: another vector of its cell, put there alone, is taken by the search too, and changes a number or a distance
pub record NeededVector (l : Index) (query : Query) (k : ℕ) (room : Room) (i : ℕ) : Type 0 where
  pub vectors : List ℤ
  pub size : length vectors ≡ l.n * l.d
  pub cell : CellOf l i (vector_at l.d vectors i)
  pub elsewhere : (j : ℕ) → j < l.n → j ≢ i → vector_at l.d vectors j ≡ vector_at l.d l.vectors j
  pub accepted : Accepts (with_vectors l vectors) query k room
  pub changes : (searched (with_vectors l vectors) query k).best ≢ (searched l query k).best
