-- The distance of a vector from a query: "the sum of squared differences" (document 01, "Distance, bounds, reading order"), and the same
-- over the dimensions that are present (document 02, Slip 1). Assumes nothing.
use Rattle.std.specs.Prelude.{◌≡◌, ℕ, zero, suc, ◌+◌, ◌%◌, ◌^◌, ◌<◌, ◌≤◌, cond, ◌&&◌, List, length, ℤ, pos, ◌==◌, nat_le, slice_index, slice_index_or, refl}
use Rattle.std.proofs.Common.{arith, eq-eqb, le-leb}
use Rattle.limits.specs.Limits.{max_dimensions}
use Rattle.step.specs.Step.{gap, squared, weighed, product_word, weighed_word}

-- over the first t dimensions
unfoldable pub first_distance : List ℤ → List ℤ → ℕ → ℕ
first_distance query vector zero = 0
first_distance query vector (suc t) = first_distance query vector t + squared (gap (slice_index_or query t (pos 0)) (slice_index_or vector t (pos 0)))

abbrev pub distance_of : ℕ → List ℤ → List ℤ → ℕ
distance_of d query vector = first_distance query vector d

-- ---- with a factor for each dimension

-- what dimension t + 1 has of two vectors apart
abbrev pub gap_at : List ℤ → List ℤ → ℕ → ℕ
gap_at query vector t = gap (slice_index_or query t (pos 0)) (slice_index_or vector t (pos 0))

unfoldable pub first_weighed : List ℕ → List ℤ → List ℤ → ℕ → ℕ
first_weighed factors query vector zero = 0
first_weighed factors query vector (suc t) = first_weighed factors query vector t + weighed (slice_index factors t) (gap_at query vector t)

abbrev pub weighed_distance : ℕ → List ℕ → List ℤ → List ℤ → ℕ
weighed_distance d factors query vector = first_weighed factors query vector d

-- ---- in 64 bits

-- the product of dimension t + 1, modulo 2^32
abbrev pub product_at : List ℕ → List ℤ → List ℤ → ℕ → ℕ
product_at factors query vector t = product_word (slice_index factors t) (gap_at query vector t)

unfoldable pub first_measured : List ℕ → List ℤ → List ℤ → ℕ → ℕ
first_measured factors query vector zero = 0
first_measured factors query vector (suc t) = first_measured factors query vector t + weighed_word (slice_index factors t) (gap_at query vector t)

-- the sum of the first t numbers' squares
unfoldable pub first_squares : List ℕ → ℕ → ℕ
first_squares numbers zero = 0
first_squares numbers (suc t) = first_squares numbers t + squared (slice_index numbers t)

-- the sum modulo 2^64, and 0 where query and vector are not equally long or longer than any may be
unfoldable pub measured_of : List ℕ → List ℤ → List ℤ → ℕ
measured_of factors query vector =
    cond (length vector == length query && nat_le (length query) max_dimensions)
    (first_measured factors query vector (length query) % 2 ^ 64) 0

-- ---- laws

-- the squares of the products are what the dimensions add
pub squares_of_products : (factors : List ℕ) (query vector : List ℤ) (products : List ℕ) (d : ℕ)
    → ((t : ℕ) → t < d → slice_index products t ≡ product_at factors query vector t)
    → first_squares products d ≡ first_measured factors query vector d
unfolding first_squares first_measured weighed_word
squares_of_products factors query vector products zero each = refl
squares_of_products factors query vector products (suc t) each =
    rw (squares_of_products factors query vector products t (λ i h. each i (omega arith)), each t (omega arith))

pub measured_is : (d : ℕ) (factors : List ℕ) (query vector : List ℤ) → d ≤ max_dimensions → length query ≡ d → length vector ≡ d
    → measured_of factors query vector ≡ first_measured factors query vector d % 2 ^ 64
unfolding measured_of
measured_is d factors query vector few of_query of-vector = rw (of_query, of-vector, eq-eqb d d refl, le-leb d max_dimensions few)
