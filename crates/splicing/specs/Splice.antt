-- Lists spliced, and bits of bytes spliced. Assumes nothing.
use Rattle.std.specs.Prelude.{List, ◌++◌, ℕ, take, drop}
use Rattle.codes.specs.Bits.{bytes_of, byte_bits}

-- the first p elements of one list, and behind them another list from element q on
abbrev pub spliced : {A : Type 0} → List A → ℕ → List A → ℕ → List A
spliced front p back q = take p front ++ drop q back

-- the bits of bytes spliced, as so many bytes, with zeros behind
abbrev pub spliced_bytes : ℕ → List ℕ → ℕ → List ℕ → ℕ → List ℕ
spliced_bytes count front p back q = bytes_of count (spliced (byte_bits front) p (byte_bits back) q)
