-- Marks made from vectors (document 01, "Marks, regions, codes"; document 02, Slip 2). n vectors of d components stand in a row, each with
-- its d components alone. Assumes nothing.
use Rattle.std.specs.Prelude.{cond, List, [], ◌++◌, map, ℕ, zero, suc, ◌+◌, ◌*◌, ◌/◌, ◌^◌, ltb, eqb, ℤ, pos, get_or}
use Rattle.limits.specs.Limits.{least_mark, greatest_mark}
use Rattle.signed.specs.Keys.{key_of}
use Rattle.order.specs.Pair.{count_from}
use Rattle.order.specs.Rank.{ranking}
use Rattle.layout.specs.Layout.{bits_of}

-- the components of the n vectors in one dimension, t before it
unfoldable pub column : ℕ → ℕ → List ℤ → ℕ → List ℤ
column d n vectors t = map (λ i. get_or vectors (i * d + t) (pos 0)) (count_from 0 n)

-- a column's components in non-falling order
unfoldable pub in_order : List ℤ → List ℤ
in_order components = map (λ i. get_or components i (pos 0)) (ranking (map key_of components))

-- the outer marks of one dimension
pub record Outer : Type 0 where
  pub first : ℤ
  pub last : ℤ

-- mark i of a dimension of w bits between its outer marks, from n components in order: "inner mark i is the component at place
-- (i·n) div 2^w, places from 0, of the components in non-falling order". Past the last it is the last.
unfoldable pub mark_at : Outer → ℕ → ℕ → List ℤ → ℕ → ℤ
mark_at outer n w ordered i = cond (eqb i 0) outer.first (cond (ltb i (2 ^ w)) (get_or ordered (i * n / 2 ^ w) (pos 0)) outer.last)

-- the dimension's marks: "With w bits it has 2^w regions and 2^w + 1 marks."
unfoldable pub marks_between : Outer → ℕ → ℕ → List ℤ → List ℤ
marks_between outer n w ordered = map (mark_at outer n w ordered) (count_from 0 (2 ^ w + 1))

-- the marks of the first t dimensions, dimension 1 first, each between its outer marks
unfoldable pub first_between : (ℕ → Outer) → ℕ → ℕ → ℕ → List ℤ → ℕ → List ℤ
first_between outer d b n vectors zero = []
first_between outer d b n vectors (suc t) =
    first_between outer d b n vectors t ++ marks_between (outer t) n (bits_of d b (suc t)) (in_order (column d n vectors t))

-- "marks made from patterns begin at -32768 and end at 32768; inner marks keep their rule" (document 02, Slip 2)
abbrev pub scale_ends : Outer
scale_ends = record { first = least_mark; last = greatest_mark }

-- one dimension's marks that are made, those of the first t dimensions, and all
abbrev pub made_dimension : ℕ → ℕ → List ℤ → List ℤ
made_dimension n w ordered = marks_between scale_ends n w ordered

abbrev pub made_first : ℕ → ℕ → ℕ → List ℤ → ℕ → List ℤ
made_first d b n vectors t = first_between (λ _. scale_ends) d b n vectors t

abbrev pub made_marks : ℕ → ℕ → ℕ → List ℤ → List ℤ
made_marks d b n vectors = made_first d b n vectors d
