-- Rows of d region numbers: in each the numbers of the first run of dimensions have one bit more than those of the second. Assumes nothing.
use Rattle.std.specs.Prelude.{◌≡◌, Bool, ◌&&◌, leb, ltb, eqb, length, take, drop}
use Rattle.std.proofs.Math.Path.{refl}
use Rattle.std.proofs.Common.{sym, ◌∙◌, le_of_suc-le-suc, add_assoc, zero-mul, mod-lt, length-drop}
use Rattle.std.proofs.Math.Bool.{true, false, cond, and_assoc, and-false, and-eq-true_iff}
use mathlib.Core.List.{List, [], ◌∷◌, ◌++◌, append_assoc}
use Prim.Native.Nat.{ℕ, zero, suc, ◌+◌, ◌-◌, ◌*◌, ◌/◌, ◌%◌, ◌^◌, ◌≤◌, ◌<◌}
use Rattle.std.proofs.Math.Nat.{add-zero, zero-add, add-suc, suc-add, add_comm, suc-mul, sub-add-eq, add-sub_cancel_left}
use native.Mathlib.Omega.{arith}
use borrow.Author.Tests.{le-leb, lt-leb, ltb-true, lt-ltb, eq-eqb, ne_eqb}
use Rattle.std.proofs.Math.Pow.{pow_mono}
use Rattle.std.proofs.Math.Seq.{drop-drop}
use Rattle.limits.specs.Limits.{max_dimension_bits}
use Rattle.layout.specs.Layout.{bits_of}
use Rattle.layout.specs.Runs.{two_bits}
use Rattle.codes.specs.Fields.{fields, read_fields, all_below}
use Rattle.codes.specs.Codes.{next_column, joined, regions_fit, split}

-- so many numbers make whole rows
pub record Rows (d count : ℕ) : Type 0 where
  pub rows : ℕ
  pub whole : count ≡ rows * d

-- where some of n numbers are left behind the first i, a whole row is there, and rows behind it
pub rows_next : {d n i : ℕ} → Rows d (n - i) → i < n → (i + d ≤ n) × Rows d (n - (i + d))
rows_next {d} {n} {i} left more = go left.rows left.whole
  where
    go : (rows : ℕ) → n - i ≡ rows * d → (i + d ≤ n) × Rows d (n - (i + d))
    go zero e = absurd (omega (arith, zero-mul d))
    go (suc rows) e = (omega (arith, suc-mul rows d), record { rows = rows; whole = omega (arith, suc-mul rows d) })

-- the numbers from one place up to another
abbrev pub part : ℕ → ℕ → List ℕ → List ℕ
part from to xs = take (to - from) (drop from xs)

module _ (d b : ℕ) where
  -- the first b % d columns have one bit more than the others
  wide : (t : ℕ) → t < b % d → bits_of d b (suc t) ≡ b / d + 1
  unfolding bits_of
  wide t high = rw (le-leb (suc t) (b % d) high)

  narrow : (t : ℕ) → b % d ≤ t → bits_of d b (suc t) ≡ b / d
  unfolding bits_of
  narrow t low = rw (lt-leb (suc t) (b % d) (omega arith)) (add-zero (b / d))

  -- no number has more bits than those of the first columns
  bits_most : (t : ℕ) → bits_of d b (suc t) ≤ b / d + 1
  unfolding bits_of
  bits_most t = go (leb (suc t) (b % d))
    where
      go : (e : Bool) → b / d + cond e 1 0 ≤ b / d + 1
      go true = omega arith
      go false = omega arith

  fits_below : (t : ℕ) (xs : List ℕ) → regions_fit d b t xs ≡ true → all_below (2 ^ (b / d + 1)) xs ≡ true
  unfolding regions_fit all_below
  fits_below t [] fit = refl
  fits_below t (x ∷ xs) fit =
      let w = bits_of d b (suc t) in
      let both = (and-eq-true_iff (ltb x (2 ^ w)) (regions_fit d b (next_column d t) xs)).0 fit in
      let own : x < 2 ^ w = ltb-true x (2 ^ w) both.0 in
      let power : 2 ^ w ≤ 2 ^ (b / d + 1) = pow_mono (bits_most t) in
      (and-eq-true_iff (ltb x (2 ^ (b / d + 1))) (all_below (2 ^ (b / d + 1)) xs)).1
      (lt-ltb x (2 ^ (b / d + 1)) (omega arith), fits_below (next_column d t) xs both.1)

  pub fit_below : (t : ℕ) (xs : List ℕ) → regions_fit d b t xs ≡ all_below (2 ^ (b / d + 1)) xs && regions_fit d b t xs
  fit_below t xs = go (regions_fit d b t xs) refl
    where
      go : (fit : Bool) → regions_fit d b t xs ≡ fit → fit ≡ all_below (2 ^ (b / d + 1)) xs && fit
      go true e = sym (rw (fits_below t xs e))
      go false e = sym (and-false (all_below (2 ^ (b / d + 1)) xs))

  -- ---- where all dimensions have as many bits, the rows are one run of numbers

  module _ (even : b % d ≡ 0) where
    pub joined_uniform : (t : ℕ) (xs : List ℕ) → joined d b t xs ≡ fields (b / d) xs
    unfolding joined fields
    joined_uniform t [] = refl
    joined_uniform t (x ∷ xs) = rw (narrow t (omega arith), joined_uniform (next_column d t) xs)

    pub fit_uniform : (t : ℕ) (xs : List ℕ) → regions_fit d b t xs ≡ all_below (2 ^ (b / d)) xs
    unfolding regions_fit all_below
    fit_uniform t [] = refl
    fit_uniform t (x ∷ xs) = rw (narrow t (omega arith), fit_uniform (next_column d t) xs)

    pub split_uniform : (t count : ℕ) (bits : List ℕ) → split d b t count bits ≡ read_fields (b / d) count bits
    unfolding split read_fields
    split_uniform t zero bits = refl
    split_uniform t (suc count) bits = rw (narrow t (omega arith), split_uniform (next_column d t) count (drop (b / d) bits))

  -- ---- else each row has two runs

  -- the column behind t columns, the first behind the last
  abbrev column : ℕ → ℕ
  column t = cond (eqb t d) 0 t

  -- n columns from p on have w bits
  abbrev Same : ℕ → ℕ → ℕ → Type 0
  Same w p n = (t : ℕ) → p ≤ t → t < p + n → bits_of d b (suc t) ≡ w

  -- the numbers of these columns, and those behind them
  run_joined : (w n p : ℕ) → Same w p n → p + n ≤ d → (xs : List ℕ) → n ≤ length xs
      → joined d b (column p) xs ≡ fields w (take n xs) ++ joined d b (column (p + n)) (drop n xs)
  unfolding joined fields
  run_joined w zero p same within xs there = rw add-zero
  run_joined w (suc n) p same within [] there = absurd (omega arith)
  run_joined w (suc n) p same within (x ∷ xs) there =
      rw (
        ne_eqb p d (omega arith),
        same p (omega arith) (omega arith),
        run_joined w n (suc p) (λ t low high. same t (omega arith) (omega arith)) (omega arith) xs (le_of_suc-le-suc there),
        add-suc p n,
        suc-add p n,
        append_assoc,
      )

  run_fit : (w n p : ℕ) → Same w p n → p + n ≤ d → (xs : List ℕ) → n ≤ length xs
      → regions_fit d b (column p) xs ≡ all_below (2 ^ w) (take n xs) && regions_fit d b (column (p + n)) (drop n xs)
  unfolding regions_fit all_below
  run_fit w zero p same within xs there = rw add-zero
  run_fit w (suc n) p same within [] there = absurd (omega arith)
  run_fit w (suc n) p same within (x ∷ xs) there =
      rw (
        ne_eqb p d (omega arith),
        same p (omega arith) (omega arith),
        run_fit w n (suc p) (λ t low high. same t (omega arith) (omega arith)) (omega arith) xs (le_of_suc-le-suc there),
        add-suc p n,
        suc-add p n,
        and_assoc,
      )

  run_split : (w n p : ℕ) → Same w p n → p + n ≤ d → (count : ℕ) (bits : List ℕ)
      → split d b (column p) (n + count) bits ≡ read_fields w n bits ++ split d b (column (p + n)) count (drop (n * w) bits)
  unfolding split read_fields
  run_split w zero p same within count bits = rw (add-zero, zero-add, zero-mul)
  run_split w (suc n) p same within count bits =
      rw (
        suc-add n count,
        ne_eqb p d (omega arith),
        same p (omega arith) (omega arith),
        run_split w n (suc p) (λ t low high. same t (omega arith) (omega arith)) (omega arith) count (drop w bits),
        add-suc p n,
        suc-add p n,
        drop-drop,
        suc-mul n w,
        add_comm w (n * w),
      )

  module _ (some : 0 < d) where
    all : b % d + (d - b % d) ≡ d
    all = omega (arith, mod-lt b some)

    first_run : Same (b / d + 1) 0 (b % d)
    first_run t low high = wide t (omega arith)

    second_run : Same (b / d) (b % d) (d - b % d)
    second_run t low high = narrow t low

    -- a row, and the numbers behind it
    row_joined : (xs : List ℕ) → d ≤ length xs
        → joined d b 0 xs
        ≡ fields (b / d + 1) (take (b % d) xs) ++ (fields (b / d) (take (d - b % d) (drop (b % d) xs)) ++ joined d b 0 (drop d xs))
    row_joined xs there =
        let second =
        run_joined (b / d) (d - b % d) (b % d) second_run (omega (arith, all)) (drop (b % d) xs) (rw length-drop (omega arith)) in
        rw (ne_eqb 0 d (omega arith), zero-add)
        at (run_joined (b / d + 1) (b % d) 0 first_run (omega (arith, all)) xs (omega (arith, all)))
        ∙ rw (second, all, eq-eqb d d refl, drop-drop, all)

    row_fit : (xs : List ℕ) → d ≤ length xs
        → regions_fit d b 0 xs
        ≡ all_below (2 ^ (b / d + 1)) (take (b % d) xs)
        && (all_below (2 ^ (b / d)) (take (d - b % d) (drop (b % d) xs)) && regions_fit d b 0 (drop d xs))
    row_fit xs there =
        let second =
        run_fit (b / d) (d - b % d) (b % d) second_run (omega (arith, all)) (drop (b % d) xs) (rw length-drop (omega arith)) in
        rw (ne_eqb 0 d (omega arith), zero-add)
        at (run_fit (b / d + 1) (b % d) 0 first_run (omega (arith, all)) xs (omega (arith, all)))
        ∙ rw (second, all, eq-eqb d d refl, drop-drop, all)

    pub row_split : b / d ≤ max_dimension_bits → (count : ℕ) (bits : List ℕ)
        → split d b 0 (d + count) bits
        ≡ read_fields (b / d + 1) (b % d) bits
        ++ (read_fields (b / d) (d - b % d) (drop (b % d * (b / d + 1)) bits) ++ split d b 0 count (drop b bits))
    row_split small count bits =
        let second =
        run_split (b / d) (d - b % d) (b % d) second_run (omega (arith, all)) count (drop (b % d * (b / d + 1)) bits) in
        rw (ne_eqb 0 d (omega arith), zero-add, ← add_assoc (b % d) (d - b % d) count, all)
        at (run_split (b / d + 1) (b % d) 0 first_run (omega (arith, all)) (d - b % d + count) bits)
        ∙ rw (second, all, eq-eqb d d refl, drop-drop, two_bits d b small (omega (arith, all)) some)

    -- the same of the row from i on, and its two parts
    first_part : (xs : List ℕ) (i : ℕ) → part i (i + b % d) xs ≡ take (b % d) (drop i xs)
    first_part xs i = rw (add-sub_cancel_left i (b % d))

    second_part : (xs : List ℕ) (i : ℕ) → part (i + b % d) (i + d) xs ≡ take (d - b % d) (drop (b % d) (drop i xs))
    second_part xs i = rw (drop-drop (b % d) i xs, sub-add-eq (i + d) i (b % d), add-sub_cancel_left i d)

    pub row_joined_at : (xs : List ℕ) (i : ℕ) → i + d ≤ length xs
        → joined d b 0 (drop i xs)
        ≡ fields (b / d + 1) (part i (i + b % d) xs) ++ (fields (b / d) (part (i + b % d) (i + d) xs) ++ joined d b 0 (drop (i + d) xs))
    row_joined_at xs i there =
        rw (first_part xs i, second_part xs i, ← (drop-drop d i xs)) (row_joined (drop i xs) (rw length-drop (omega arith)))

    pub row_fit_at : (xs : List ℕ) (i : ℕ) → i + d ≤ length xs
        → regions_fit d b 0 (drop i xs)
        ≡ all_below (2 ^ (b / d + 1)) (part i (i + b % d) xs)
        && (all_below (2 ^ (b / d)) (part (i + b % d) (i + d) xs) && regions_fit d b 0 (drop (i + d) xs))
    row_fit_at xs i there =
        rw (first_part xs i, second_part xs i, ← (drop-drop d i xs)) (row_fit (drop i xs) (rw length-drop (omega arith)))
