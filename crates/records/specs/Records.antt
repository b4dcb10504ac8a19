-- The records of document 01, "Library file": "Each record is one byte of kind, then a body whose length the kind fixes." Assumes nothing.
use Rattle.std.specs.Prelude.{Bool, false, cond, ◌||◌, List, [], ◌∷◌, ◌++◌, ℕ, suc, ◌+◌, eqb, get_or, drop, replicate}
use Rattle.limits.specs.Limits.{max_dimensions}
use Rattle.records.specs.Bytes.{low_first, from_low_first}

-- ---- the table of kinds

-- the kinds' numbers (01 calls a stored vector a pattern)
abbrev pub head_kind : ℕ
head_kind = 1

abbrev pub mark_kind : ℕ
mark_kind = 2

abbrev pub vector_kind : ℕ
vector_kind = 3

abbrev pub end_kind : ℕ
end_kind = 4

abbrev pub fresh_kind : ℕ
fresh_kind = 5

abbrev pub held_kind : ℕ
held_kind = 6

abbrev pub lost_kind : ℕ
lost_kind = 7

infix 70 ◌holds◌
-- one row: a kind, and the widths in bytes of the values in its body
pub data Format : Type 0 where
  ◌holds◌ : ℕ → List ℕ → Format

-- head: "d (1 byte), b (1), n (2)"; mark: "signed, 4 bytes"; vector: "settings (4), 32 signed components (2 each)"; end: "none";
-- fresh: "value (4)"; held: "value (4), age (1)"; lost: "none"
unfoldable pub formats : List Format
formats =
    head_kind holds (1 ∷ 1 ∷ 2 ∷ [])
    ∷ mark_kind holds (4 ∷ [])
    ∷ vector_kind holds (4 ∷ replicate max_dimensions 2)
    ∷ end_kind holds []
    ∷ fresh_kind holds (4 ∷ [])
    ∷ held_kind holds (4 ∷ 1 ∷ [])
    ∷ lost_kind holds []
    ∷ []

unfoldable pub is_among : List Format → ℕ → Bool
is_among [] kind = false
is_among (k holds ws ∷ rows) kind = eqb kind k || is_among rows kind

unfoldable pub widths_among : List Format → ℕ → List ℕ
widths_among [] kind = []
widths_among (k holds ws ∷ rows) kind =
    let rest = widths_among rows kind in
    cond (eqb kind k) ws rest

-- whether a number is a kind's
unfoldable pub is_kind : ℕ → Bool
is_kind kind = is_among formats kind

-- the widths of the values in a kind's body
unfoldable pub widths_of : ℕ → List ℕ
widths_of kind = widths_among formats kind

unfoldable pub sum : List ℕ → ℕ
sum [] = 0
sum (w ∷ ws) = w + sum ws

-- the byte of kind, and the body
unfoldable pub record_length : ℕ → ℕ
record_length kind = suc (sum (widths_of kind))

-- ---- values and bytes

-- the bytes of values of these widths; a value that is not there is 0
unfoldable pub joined : List ℕ → List ℕ → List ℕ
joined [] values = []
joined (w ∷ ws) values = low_first w (get_or values 0 0) ++ joined ws (drop 1 values)

-- the values of these widths that bytes begin with
unfoldable pub split : List ℕ → List ℕ → List ℕ
split [] bytes = []
split (w ∷ ws) bytes = from_low_first w bytes ∷ split ws (drop w bytes)

-- a record of these values
unfoldable pub record_bytes : ℕ → List ℕ → List ℕ
record_bytes kind values = kind ∷ joined (widths_of kind) values

-- the kind of the record that bytes begin with
abbrev pub kind_of : List ℕ → ℕ
kind_of bytes = get_or bytes 0 0

-- value i of the record that bytes begin with, read as one of this kind
unfoldable pub value_of : ℕ → ℕ → List ℕ → ℕ
value_of kind i bytes = get_or (split (widths_of kind) (drop 1 bytes)) i 0
