-- Numbers as bytes (document 01, "Library file"). A byte is a number below 256. Assumes nothing.
use Rattle.std.specs.Prelude.{List, [], ◌∷◌, ℕ, zero, suc, ◌+◌, ◌*◌, ◌/◌, ◌%◌, ◌<◌, get_or, drop}

-- "Multi-byte values come lowest byte first": w bytes of a number
unfoldable pub low_first : ℕ → ℕ → List ℕ
low_first zero x = []
low_first (suc w) x = x % 256 ∷ low_first w (x / 256)

-- the number of the first w bytes of a list, with zeros past its end
unfoldable pub from_low_first : ℕ → List ℕ → ℕ
from_low_first zero bytes = 0
from_low_first (suc w) bytes = get_or bytes 0 0 + 256 * from_low_first w (drop 1 bytes)

-- each element is a byte; so is what is read past the end, 0
abbrev pub AreBytes : List ℕ → Type 0
AreBytes bytes = (i : ℕ) → get_or bytes i 0 < 256
