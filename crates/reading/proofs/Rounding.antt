-- The nearest whole number of a fraction that is below a half. Assumes nothing.
use mathlib.Core.Path.{◌≡◌, refl, ◌∙◌}
use mathlib.Core.Bool.{true, false}
use Prim.Native.Nat.{ℕ, ◌*◌, ◌/◌, ◌%◌, ◌<◌, compare, Ordering}
use native.Mathlib.Nat.{div-eq_of_lt, mod-eq_of_lt}
use native.Mathlib.Omega.{arith}
use borrow.Author.Tests.{le-leb, ne_eqb}
use lib.Dec.{is_le, compare_is_eq}
use lib.Ieee.Nearest.{closest}

ordering_lt : (o : Ordering) → is_le o ≡ true → compare_is_eq o ≡ false → o ≡ Ordering.lt
ordering_lt Ordering.lt le ne = refl
ordering_lt Ordering.eq le ne = cc
ordering_lt Ordering.gt le ne = cc

pub closest_down : (a b : ℕ) → a % b * 2 < b → closest a b ≡ a / b
closest_down a b h = rw (ordering_lt (compare (a % b * 2) b) (le-leb (a % b * 2) b (omega arith)) (ne_eqb (a % b * 2) b (λ e. omega arith)))

-- below a half there is none
pub closest_none : (a b : ℕ) → a * 2 < b → closest a b ≡ 0
closest_none a b h =
    let small : a < b = omega arith in
    closest_down a b (rw (mod-eq_of_lt small) h) ∙ div-eq_of_lt small
