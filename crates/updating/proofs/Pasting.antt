-- A part of a list from a place on, and two parts copied one behind the other. Assumes nothing.
use mathlib.Core.Path.{◌≡◌, refl, ◌∙◌}
use mathlib.Core.List.{List, ◌++◌, append-nil}
use Prim.Native.Nat.{ℕ, ◌+◌, ◌-◌, ◌≤◌}
use native.Mathlib.Nat.{zero-add}
use native.Mathlib.Omega.{arith}
use lib.ListN.{length, take, drop, length-append, length-drop, drop_of_length-le}
use lib.Seq.{paste, take_all, take_at, length-take-le}

module _ {A : Type 0} where
  -- a list copied to the front
  pub paste_front : (before from : List A) → paste before 0 from (length from) ≡ from ++ drop (length from) before
  paste_front before from = rw (zero-add, take_all (length from) from (omega arith))

  -- two lists that fill a buffer
  pub paste_two : (before one other : List A) → length before ≡ length one + length other
      → paste (paste before 0 one (length one)) (length one) other (length other) ≡ one ++ other
  paste_two before one other fills =
      let rest = drop (length one) before in
      let size : length (one ++ rest) ≡ length one + length other = rw (length-append, length-drop) (omega arith) in
      rw (
        paste_front before one,
        take_at one rest (length one) refl,
        take_all (length other) other (omega arith),
        drop_of_length-le (one ++ rest) {i = length one + length other} (omega arith),
        append-nil,
      )

  -- the rest of a list from q on
  pub rest_length : (list : List A) (q : ℕ) → length (take (length list - q) (drop q list)) ≡ length list - q
  rest_length list q = length-take-le (length list - q) (drop q list) (rw length-drop (omega arith))

  -- the first p elements of a list, and those from q on
  pub paste_cut : (list : List A) (p q : ℕ) → p ≤ length list → (before first last : List A)
      → length before ≡ p + (length list - q) → first ≡ paste before 0 (take p list) (length (take p list))
      → last ≡ paste first p (take (length list - q) (drop q list)) (length (take (length list - q) (drop q list)))
      → last ≡ take p list ++ drop q list
  paste_cut list p q within before first last fills is then =
      let size : length (take p list) ≡ p = length-take-le p list within in
      let rest : take (length list - q) (drop q list) ≡ drop q list =
      take_all (length list - q) (drop q list) (rw length-drop (omega arith)) in
      let both = paste_two before (take p list) (drop q list) (rw (size, length-drop) fills) in
      then ∙ rw (rest, is, size) (rw size at both)
