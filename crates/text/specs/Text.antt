-- Numbers and lines as text (document 01, "The program"): bytes of ASCII. Assumes nothing.
use Rattle.std.specs.Prelude.{cond, List, [], ◌∷◌, ◌++◌, ℕ, zero, suc, ◌+◌, ◌/◌, ◌%◌, ltb, length, take, drop}

-- a text at the front of a buffer: as many of its bytes as the buffer has room for, then the rest of the buffer as it was
abbrev pub at_front : List ℕ → List ℕ → List ℕ
at_front text buffer = take (length buffer) text ++ drop (length text) buffer

-- a digit's byte
abbrev pub digit : ℕ → ℕ
digit x = 48 + x

-- "Single spaces, each line ended by byte 10"
abbrev pub space : ℕ
space = 32

abbrev pub line_end : ℕ
line_end = 10

-- the last digits of a number, as many as it has and not more than w
unfoldable pub digits_within : ℕ → ℕ → List ℕ
digits_within zero x = []
digits_within (suc w) x =
    let rest = digits_within w (x / 10) in
    cond (ltb x 10) (digit x ∷ []) (rest ++ (digit (x % 10) ∷ []))

-- the decimal digits of a number: no number has more than its successor says
unfoldable pub decimal : ℕ → List ℕ
decimal x = digits_within (suc x) x

-- one line of numbers, x the first
unfoldable pub line : ℕ → List ℕ → List ℕ
line x [] = decimal x ++ (line_end ∷ [])
line x (y ∷ ys) = decimal x ++ (space ∷ line y ys)

-- "refused "
abbrev pub refused_word : List ℕ
refused_word = 114 ∷ 101 ∷ 102 ∷ 117 ∷ 115 ∷ 101 ∷ 100 ∷ 32 ∷ []

abbrev pub refused_line : ℕ → List ℕ
refused_line x = refused_word ++ line x []
