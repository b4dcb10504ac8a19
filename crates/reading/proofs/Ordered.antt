-- Which values are ordered with zero: all but a NaN. Assumes nothing.
use mathlib.Core.Path.{◌≡◌, refl}
use mathlib.Core.Bool.{Bool, true, false, not, ◌||◌, ◌&&◌}
use Prim.Native.Nat.{ℕ, ◌+◌, ◌*◌, ◌≤◌, zero-le}
use native.Mathlib.Nat.{zero-mul}
use native.Mathlib.Omega.{arith}
use borrow.Author.Tests.{eq-eqb, ltb-false}
use lib.Dec.{T, ltb, eqb}
use lib.Ieee.{Float, nan, inf, fin, binary32, is_nan, le, up, down, of_bits}

-- the value of the literal 0.0
abbrev pub plus_zero : Float
plus_zero = of_bits binary32 0

pub at_most_zero : (x : Float) → le x plus_zero ≡ true → T (not (is_nan x))
unfolding le is_nan of_bits
at_most_zero nan e =
    let impossible : ◌≡◌ {A = ℕ} 0 1 = cc in
    absurd (omega arith)
at_most_zero (inf s) e = tt
at_most_zero (fin s m x) e = tt

pub at_least_zero : (x : Float) → le plus_zero x ≡ true → T (not (is_nan x))
unfolding le is_nan of_bits
at_least_zero nan e =
    let impossible : ◌≡◌ {A = ℕ} 0 1 = cc in
    absurd (omega arith)
at_least_zero (inf s) e = tt
at_least_zero (fin s m x) e = tt

-- of two sizes, one is below the other or they are equal
ordered : (a b : ℕ) (t : Bool) → a ≤ b → ltb a b || (eqb a b && (true || t)) ≡ true
ordered a b t h = go (ltb a b) refl
  where
    go : (below : Bool) → ltb a b ≡ below → below || (eqb a b && (true || t)) ≡ true
    go true e = refl
    go false e = rw (eq-eqb a b (omega (arith, ltb-false a b e)))

-- a negative size is below zero, or is zero
negative : (a b : ℕ) → b ≡ 0 → ltb 0 (a + b) || (eqb a b && (false || eqb a 0)) ≡ true
negative a b none = go (ltb 0 (a + b)) refl
  where
    go : (below : Bool) → ltb 0 (a + b) ≡ below → below || (eqb a b && (false || eqb a 0)) ≡ true
    go true e = refl
    go false e =
        let low : a + b ≤ 0 = ltb-false 0 (a + b) e in
        rw (eq-eqb a b (omega arith), eq-eqb a 0 (omega arith))

pub unordered : (x : Float) → le x plus_zero ≡ false → le plus_zero x ≡ false → x ≡ nan
unfolding le of_bits
unordered nan low high = refl
unordered (inf true) low high = cc
unordered (inf false) low high = cc
unordered (fin true m x) low high = cc (negative (m * up x * 1) (0 * 1 * down x) (zero-mul (down x)))
unordered (fin false m x) low high =
    let zero_left : 0 * 1 * down x ≤ m * up x * 1 = rw (zero-mul (down x)) zero-le in
    cc (ordered (0 * 1 * down x) (m * up x * 1) (eqb (0 * 1 * down x) 0) zero_left)
