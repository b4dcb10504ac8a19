-- The limits of document 01, "What the delivery holds" and "Marks, regions, codes". Assumes nothing.
use Rattle.std.specs.Prelude.{Bool, ◌&&◌, ℕ, ◌*◌, leb, ℤ, pos, negsuc}
use Rattle.std.specs.Int.Signed.{le_z}

-- dimension count d is 1 to 32
abbrev pub max_dimensions : ℕ
max_dimensions = 32

-- total bits b is 0 to 6·d
abbrev pub max_dimension_bits : ℕ
max_dimension_bits = 6

abbrev pub is_dimension_count : ℕ → Bool
is_dimension_count d = leb 1 d && leb d max_dimensions

abbrev pub is_bits : ℕ → ℕ → Bool
is_bits d b = leb b (max_dimension_bits * d)

-- vector count n is 1 to 512 (01 calls a stored vector a pattern)
abbrev pub max_vectors : ℕ
max_vectors = 512

abbrev pub is_vector_count : ℕ → Bool
is_vector_count n = leb 1 n && leb n max_vectors

-- "k is 1 to n", so it is never above 512: arrays of entries have room for so many
abbrev pub max_neighbours : ℕ
max_neighbours = 512

abbrev pub is_neighbour_count : ℕ → ℕ → Bool
is_neighbour_count n k = leb 1 k && leb k n

-- the most vectors of a library that the kit program takes
abbrev pub kit_vectors : ℕ
kit_vectors = 512

-- "up to 64 queries" in a batch (document 02, Slip 5)
abbrev pub max_queries : ℕ
max_queries = 64

-- a component is a whole number from -32768 to 32767
abbrev pub least_component : ℤ
least_component = negsuc 32767

abbrev pub greatest_component : ℤ
greatest_component = pos 32767

abbrev pub is_component : ℤ → Bool
is_component z = le_z least_component z && le_z z greatest_component

-- marks lie in -32768 to 32768
abbrev pub least_mark : ℤ
least_mark = negsuc 32767

abbrev pub greatest_mark : ℤ
greatest_mark = pos 32768

abbrev pub is_mark : ℤ → Bool
is_mark z = le_z least_mark z && le_z z greatest_mark
