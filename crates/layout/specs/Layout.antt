-- How the bits and the marks are shared out among the dimensions (document 01, "Marks, regions, codes"). d is the number of dimensions, b
-- the number of bits in all; dimensions count from 1. Assumes nothing.
use Rattle.std.specs.Prelude.{cond, ℕ, zero, suc, ◌+◌, ◌*◌, ◌/◌, ◌%◌, ◌^◌, leb}

-- "Dimension j, from 1, has b div d bits, and one more if j ≤ b mod d."
unfoldable pub bits_of : ℕ → ℕ → ℕ → ℕ
bits_of d b j = b / d + cond (leb j (b % d)) 1 0

-- "With w bits it has 2^w regions and 2^w + 1 marks."
abbrev pub region_count : ℕ → ℕ → ℕ → ℕ
region_count d b j = 2 ^ bits_of d b j

abbrev pub mark_count : ℕ → ℕ → ℕ → ℕ
mark_count d b j = 2 ^ bits_of d b j + 1

-- the bits of the first j dimensions
unfoldable pub first_bits : ℕ → ℕ → ℕ → ℕ
first_bits d b zero = 0
first_bits d b (suc j) = first_bits d b j + bits_of d b (suc j)

-- the marks of the first j dimensions: dimension j + 1 has its stretch of the marks buffer from there on, and first_marks d b d is the
-- length of the whole
unfoldable pub first_marks : ℕ → ℕ → ℕ → ℕ
first_marks d b zero = 0
first_marks d b (suc j) = first_marks d b j + mark_count d b (suc j)

-- the exact length of n codes of b bits, which follow each other with no gap
abbrev pub code_length : ℕ → ℕ → ℕ
code_length b n = (n * b + 7) / 8
