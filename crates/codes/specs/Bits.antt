-- Numbers as lists of bits, high bit first. A bit is 0 or 1. Assumes nothing.
use Rattle.std.specs.Prelude.{Bool, true, ◌&&◌, cond, List, [], ◌∷◌, ◌++◌, ℕ, zero, suc, ◌+◌, ◌*◌, ◌/◌, ◌%◌, ◌^◌, leb, eqb, drop, get_or}

-- the low w bits of a number
unfoldable pub low_bits : ℕ → ℕ → List ℕ
low_bits zero x = []
low_bits (suc w) x = x / 2 ^ w % 2 ∷ low_bits w x

-- the number of the first w bits of a list, with zeros past its end
unfoldable pub from_bits : ℕ → List ℕ → ℕ
from_bits zero bits = 0
from_bits (suc w) bits = get_or bits 0 0 * 2 ^ w + from_bits w (drop 1 bits)

-- the first bits of a list as a number of bytes, each filled from the high bit, with zeros past the list's end
unfoldable pub bytes_of : ℕ → List ℕ → List ℕ
bytes_of zero bits = []
bytes_of (suc count) bits = from_bits 8 bits ∷ bytes_of count (drop 8 bits)

-- the bits of bytes
unfoldable pub byte_bits : List ℕ → List ℕ
byte_bits [] = []
byte_bits (x ∷ xs) = low_bits 8 x ++ byte_bits xs

-- the number of w bits from a position of bytes on; 0 where w is more than a byte has
unfoldable pub bits_at : List ℕ → ℕ → ℕ → ℕ
bits_at bytes from w = cond (leb w 8) (from_bits w (drop from (byte_bits bytes))) 0

-- whether all bits are zero
unfoldable pub all_zero : List ℕ → Bool
all_zero [] = true
all_zero (x ∷ bits) = eqb x 0 && all_zero bits
