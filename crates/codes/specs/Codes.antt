-- Codes (document 01, "Marks, regions, codes"; source document 003 calls them approximations): the region numbers of n vectors, a row of d
-- numbers for each vector, packed into bytes and unpacked again. b is the number of bits of a code. Assumes nothing.
use Rattle.std.specs.Prelude.{Bool, true, ◌&&◌, cond, List, [], ◌∷◌, ◌++◌, ℕ, zero, suc, ◌+◌, ◌*◌, ltb, eqb, drop}
use Rattle.layout.specs.Layout.{bits_of, region_count, first_bits}
pub use Rattle.layout.specs.Layout.{code_length}
use Rattle.codes.specs.Bits.{low_bits, from_bits, bytes_of, byte_bits, all_zero}

-- the column behind column t, the first behind the last
abbrev pub next_column : ℕ → ℕ → ℕ
next_column d t = cond (eqb (suc t) d) 0 (suc t)

-- "A code is the region numbers joined, dimension 1 first, high bit first. Codes follow each other with no gap": the bits of region numbers
-- from column t on
unfoldable pub joined : ℕ → ℕ → ℕ → List ℕ → List ℕ
joined d b t [] = []
joined d b t (r ∷ rs) = low_bits (bits_of d b (suc t)) r ++ joined d b (next_column d t) rs

-- whether each region number, from column t on, is one of its dimension's: none is "past the last"
unfoldable pub regions_fit : ℕ → ℕ → ℕ → List ℕ → Bool
regions_fit d b t [] = true
regions_fit d b t (r ∷ rs) = ltb r (region_count d b (suc t)) && regions_fit d b (next_column d t) rs

-- "filling bytes from the high bit; spare bits of the last byte are zero"
unfoldable pub packed : ℕ → ℕ → ℕ → List ℕ → List ℕ
packed d b n regions = bytes_of (code_length b n) (joined d b 0 regions)

-- as many region numbers as are asked for, read off bits from column t on
unfoldable pub split : ℕ → ℕ → ℕ → ℕ → List ℕ → List ℕ
split d b t zero bits = []
split d b t (suc count) bits =
    from_bits (bits_of d b (suc t)) bits ∷ split d b (next_column d t) count (drop (bits_of d b (suc t)) bits)

unfoldable pub unpacked : ℕ → ℕ → ℕ → List ℕ → List ℕ
unpacked d b n codes = split d b 0 (n * d) (byte_bits codes)

-- the region that code i names for dimension t + 1: it stands behind the bits of i codes and of the first t dimensions
unfoldable pub code_region : ℕ → ℕ → List ℕ → ℕ → ℕ → ℕ
code_region d b codes i t = from_bits (bits_of d b (suc t)) (drop (i * b + first_bits d b t) (byte_bits codes))

-- whether no bit behind the n codes is set
abbrev pub spare_zero : ℕ → ℕ → List ℕ → Bool
spare_zero b n codes = all_zero (drop (n * b) (byte_bits codes))
