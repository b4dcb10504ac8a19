-- A code's cell, and codes that are the vectors' own (document 01, "Distance, bounds, reading order"). Assumes nothing.
use Rattle.std.specs.Prelude.{◌≡◌, Bool, true, ◌&&◌, List, ℕ, zero, suc, ◌*◌, ◌<◌, ℤ, pos, length, take, drop, get_or}
use Rattle.std.specs.Int.Signed.{lt_z}
use Rattle.region.specs.Region.{in_region}
use Rattle.partition.specs.Marks.{dimension_marks}
use Rattle.codes.specs.Codes.{code_region, spare_zero}

-- vector i of vectors of d components each
abbrev pub vector_at : ℕ → List ℤ → ℕ → List ℤ
vector_at d vectors i = take d (drop (i * d) vectors)

-- whether the first t components of a vector lie, each, in the region that code i names for its dimension
unfoldable pub in_first : ℕ → ℕ → List ℤ → List ℕ → ℕ → List ℤ → ℕ → Bool
in_first d b marks codes i vector zero = true
in_first d b marks codes i vector (suc t) =
    in_first d b marks codes i vector t
    && in_region (dimension_marks d b marks (suc t)) (code_region d b codes i t) (get_or vector t (pos 0))

-- "A code's cell is every vector of d components that lie, each, in the region the code names for its dimension."
pub record InCell (d b : ℕ) (marks : List ℤ) (codes : List ℕ) (i : ℕ) (vector : List ℤ) : Type 0 where
  pub components : length vector ≡ d
  pub inside : in_first d b marks codes i vector d ≡ true

-- whether region r of one dimension's marks has a value: "equal neighbours make an empty region"
unfoldable pub has_value : List ℤ → ℕ → Bool
has_value marks r = lt_z (get_or marks r (pos 0)) (get_or marks (suc r) (pos 0))

-- whether each region that code i names for one of the first t dimensions has a value
unfoldable pub none_empty : ℕ → ℕ → List ℤ → List ℕ → ℕ → ℕ → Bool
none_empty d b marks codes i zero = true
none_empty d b marks codes i (suc t) =
    none_empty d b marks codes i t && has_value (dimension_marks d b marks (suc t)) (code_region d b codes i t)

-- the first i codes name no empty region
unfoldable pub no_empty_codes : ℕ → ℕ → List ℤ → List ℕ → ℕ → Bool
no_empty_codes d b marks codes zero = true
no_empty_codes d b marks codes (suc i) = no_empty_codes d b marks codes i && none_empty d b marks codes i d

-- no code names an empty region, and no spare bit is set
abbrev pub good_codes : ℕ → ℕ → ℕ → List ℤ → List ℕ → Bool
good_codes d b n marks codes = no_empty_codes d b marks codes n && spare_zero b n codes

-- "Codes are the patterns' own if each pattern lies in its code's cell and the spare bits are zero."
pub record Own (d b n : ℕ) (marks : List ℤ) (codes : List ℕ) (vectors : List ℤ) : Type 0 where
  pub cells : (i : ℕ) → i < n → InCell d b marks codes i (vector_at d vectors i)
  pub spare : spare_zero b n codes ≡ true
