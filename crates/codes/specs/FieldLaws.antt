-- Laws of numbers of one width. Assumes nothing.
use Rattle.std.specs.Prelude.{◌≡◌, refl, Bool, true, false, ◌&&◌, List, [], ◌∷◌, ◌++◌, ℕ, zero, suc, ◌+◌, ◌*◌, ◌/◌, ◌^◌, ◌≤◌, ◌<◌, max, ltb, eqb, length, get_or, take, drop}
use Rattle.std.proofs.Common.{sym, ap, ◌∙◌, append_assoc, append-nil, zero-mul, suc-mul, div-lt_iff_lt-mul, add-one, arith, eqb-true, ltb-true, ltb-false, lt-ltb, le-ltb, length-append, pow_pos, take-suc, drop-cons}
use Rattle.std.proofs.Math.Bool.{and_assoc, and-eq-true_iff}
use Rattle.std.proofs.Math.Nat.{div-eq_of_lt}
use Rattle.std.proofs.lemmas.Bool.{eqb-false}
use Rattle.codes.specs.Bits.{low_bits}
use Rattle.codes.specs.BitLaws.{length_low}
use Rattle.codes.specs.Fields.{fields, all_below}

-- ---- their bits

fields_append : (w : ℕ) (xs ys : List ℕ) → fields w (xs ++ ys) ≡ fields w xs ++ fields w ys
unfolding fields
fields_append w [] ys = refl
fields_append w (x ∷ xs) ys = rw (fields_append w xs ys) (sym (append_assoc (low_bits w x) (fields w xs) (fields w ys)))

-- one number more
pub fields_next : (w : ℕ) (xs : List ℕ) (i : ℕ) → i < length xs
    → fields w (take (i + 1) xs) ≡ fields w (take i xs) ++ low_bits w (get_or xs i 0)
unfolding fields
fields_next w xs i more = rw (add-one, take-suc xs i 0 more, fields_append w (take i xs) (get_or xs i 0 ∷ []), append-nil)

pub length_fields : (w : ℕ) (xs : List ℕ) → length (fields w xs) ≡ length xs * w
unfolding fields
length_fields w [] = sym (zero-mul w)
length_fields w (x ∷ xs) =
    length-append (low_bits w x) (fields w xs) ∙ rw (length_low w x, length_fields w xs, suc-mul (length xs) w) (omega arith)

-- with bits before and behind them they are within these all
pub fields_room : (front : List ℕ) (w : ℕ) (xs rest : List ℕ) {all : List ℕ} → front ++ (fields w xs ++ rest) ≡ all
    → length front + length xs * w ≤ length all
fields_room front w xs rest e =
    omega (
      arith,
      ap length e,
      length-append front (fields w xs ++ rest),
      length-append (fields w xs) rest,
      length_fields w xs,
    )

-- ---- whether all are below a bound

pub below_next : (bound : ℕ) (xs : List ℕ) (i : ℕ) → i < length xs
    → all_below bound (drop i xs) ≡ ltb (get_or xs i 0) bound && all_below bound (drop (i + 1) xs)
unfolding all_below
below_next bound xs i more = rw (drop-cons xs i 0 more, add-one)

-- those of a part are if all are
below_take : (bound n : ℕ) (xs : List ℕ) → all_below bound xs ≡ true → all_below bound (take n xs) ≡ true
unfolding all_below
below_take bound zero xs below = refl
below_take bound (suc n) [] below = refl
below_take bound (suc n) (x ∷ xs) below =
    let both = (and-eq-true_iff (ltb x bound) (all_below bound xs)).0 below in
    (and-eq-true_iff (ltb x bound) (all_below bound (take n xs))).1 (both.0, below_take bound n xs both.1)

below_drop : (bound n : ℕ) (xs : List ℕ) → all_below bound xs ≡ true → all_below bound (drop n xs) ≡ true
unfolding all_below
below_drop bound zero xs below = below
below_drop bound (suc n) [] below = refl
below_drop bound (suc n) (x ∷ xs) below = below_drop bound n xs ((and-eq-true_iff (ltb x bound) (all_below bound xs)).0 below).1

pub below_part : (bound from count : ℕ) (xs : List ℕ) → all_below bound xs ≡ true → all_below bound (take count (drop from xs)) ≡ true
below_part bound from count xs below = below_take bound count (drop from xs) (below_drop bound from xs below)

-- the greater of two is if both are
max_below : (x y bound : ℕ) → ltb (max x y) bound ≡ ltb x bound && ltb y bound
max_below x y bound = go (ltb x bound) (ltb y bound) refl refl
  where
    go : (s t : Bool) → ltb x bound ≡ s → ltb y bound ≡ t → ltb (max x y) bound ≡ s && t
    go true true e f = lt-ltb (max x y) bound (omega (arith, ltb-true x bound e, ltb-true y bound f))
    go true false e f = le-ltb (max x y) bound (omega (arith, ltb-false y bound f))
    go false t e f = le-ltb (max x y) bound (omega (arith, ltb-false x bound e))

-- the number at i is compared with the greatest before it
pub greatest_next : (bound greatest : ℕ) (xs : List ℕ) (i : ℕ) → i < length xs
    → ltb greatest bound && all_below bound (drop i xs) ≡ ltb (max greatest (get_or xs i 0)) bound && all_below bound (drop (i + 1) xs)
greatest_next bound greatest xs i more = rw (below_next bound xs i more, max_below greatest (get_or xs i 0) bound, and_assoc)

-- a number has at most w bits if nothing of it is left behind them
pub shifted : (x w : ℕ) → ltb x (2 ^ w) ≡ eqb (x / 2 ^ w) 0
shifted x w = go (eqb (x / 2 ^ w) 0) refl
  where
    go : (t : Bool) → eqb (x / 2 ^ w) 0 ≡ t → ltb x (2 ^ w) ≡ t
    go true e =
        let small : x < 1 * 2 ^ w = (div-lt_iff_lt-mul (pow_pos w)).0 (omega (arith, eqb-true (x / 2 ^ w) 0 e)) in
        lt-ltb x (2 ^ w) (omega arith)
    go false e =
        let large : ¬ (x < 2 ^ w) = λ small. eqb-false (x / 2 ^ w) 0 e (div-eq_of_lt small) in
        le-ltb x (2 ^ w) (omega arith)
