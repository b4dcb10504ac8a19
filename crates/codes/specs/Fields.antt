-- Numbers of one width: those of a run of dimensions that have as many bits. Assumes nothing.
use Rattle.std.specs.Prelude.{Bool, true, ◌&&◌, List, [], ◌∷◌, ◌++◌, ℕ, zero, suc, ltb, drop}
use Rattle.codes.specs.Bits.{low_bits, from_bits}

-- the bits of numbers of w bits each, one behind the other
unfoldable pub fields : ℕ → List ℕ → List ℕ
fields w [] = []
fields w (x ∷ xs) = low_bits w x ++ fields w xs

-- as many numbers of w bits as are asked for, read off bits
unfoldable pub read_fields : ℕ → ℕ → List ℕ → List ℕ
read_fields w zero bits = []
read_fields w (suc count) bits = from_bits w bits ∷ read_fields w count (drop w bits)

-- whether each number is below a bound
unfoldable pub all_below : ℕ → List ℕ → Bool
all_below bound [] = true
all_below bound (x ∷ xs) = ltb x bound && all_below bound xs
