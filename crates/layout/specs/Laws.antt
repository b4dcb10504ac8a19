-- Laws of the layout: the closed forms, and its bounds. Assumes nothing.
use Rattle.std.specs.Prelude.{◌≡◌, refl, Bool, true, false, cond, ℕ, zero, suc, ◌+◌, ◌*◌, ◌/◌, ◌%◌, ◌^◌, ◌≤◌, ◌<◌, min, leb}
use Rattle.std.proofs.Common.{ap, ◌∙◌, inl, inr, zero-le, suc-mul, zero-mul, one-mul, mul-one, add-zero, div-add-mod', lt_of_mul-lt-mul_right, mul_comm, mul-suc, mod-lt, le_trans, le_of_eq, le-add_right, le_of_suc-le-suc, eq-or-lt_of_le, arith, leb-true, leb-false, pow_mono, pow-add, shl_exact}
use Rattle.std.proofs.Math.Nat.{div-le_of_le-mul}
use Rattle.layout.specs.Layout.{bits_of, mark_count, first_bits, first_marks}

-- a sum over the first j dimensions in which each has m, and those that have one bit more have h more
closed : (e m h : ℕ) (sum : ℕ → ℕ) → sum 0 ≡ 0 → ((j : ℕ) → sum (suc j) ≡ sum j + (m + cond (leb (suc j) e) h 0)) → (j : ℕ)
    → sum j ≡ j * m + min j e * h
closed e m h sum none more zero =
    let no-min : min 0 e ≡ 0 = omega arith in
    rw (none, zero-mul m, no-min, zero-mul h)
closed e m h sum none more (suc j) = go (leb (suc j) e) refl (closed e m h sum none more j)
  where
    go : (t : Bool) → leb (suc j) e ≡ t → sum j ≡ j * m + min j e * h → sum (suc j) ≡ suc j * m + min (suc j) e * h
    go true k before =
        let in_reach : suc j ≤ e = leb-true (suc j) e k in
        let now-min : min (suc j) e ≡ suc j = omega arith in
        let then-min : min j e ≡ j = omega arith in
        rw (more j, k, before, now-min, then-min, suc-mul j m, suc-mul j h) (omega arith)
    go false k before =
        let past : e < suc j = leb-false (suc j) e k in
        let now-min : min (suc j) e ≡ e = omega arith in
        let then-min : min j e ≡ e = omega arith in
        rw (more j, k, before, now-min, then-min, suc-mul j m) (omega arith)

pub first_bits_lem : (d b j : ℕ) → first_bits d b j ≡ j * (b / d) + min j (b % d)
unfolding first_bits bits_of
first_bits_lem d b j = closed (b % d) (b / d) 1 (first_bits d b) refl (λ j. refl) j ∙ ap (λ (n : ℕ). j * (b / d) + n) (mul-one (min j (b % d)))

-- one bit more is as many marks more as there were regions
marks_more : (c : ℕ) (t : Bool) → 2 ^ (c + cond t 1 0) + 1 ≡ 2 ^ c + 1 + cond t (2 ^ c) 0
marks_more c true = rw (pow-add 2 c 1) (omega arith)
marks_more c false = rw (add-zero c) (omega arith)

pub first_marks_lem : (d b j : ℕ) → first_marks d b j ≡ j * (2 ^ (b / d) + 1) + min j (b % d) * 2 ^ (b / d)
unfolding first_marks bits_of
first_marks_lem d b j =
    closed (b % d) (2 ^ (b / d) + 1) (2 ^ (b / d)) (first_marks d b) refl
    (λ j. ap (λ (n : ℕ). first_marks d b j + n) (marks_more (b / d) (leb (suc j) (b % d)))) j

-- all dimensions together have all bits
pub all_bits : (d b : ℕ) → 0 < d → first_bits d b d ≡ b
all_bits d b h =
    let rest : b % d < d = mod-lt b h in
    let least : min d (b % d) ≡ b % d = omega arith in
    first_bits_lem d b d ∙ rw (least, mul_comm d (b / d)) (div-add-mod' b d)

-- a number of regions, as a shift gives it: the shift loses nothing
pub shifted : (w : ℕ) → w < 64 → 1 * 2 ^ w % 2 ^ 64 ≡ 2 ^ w
shifted w few = shl_exact {a = 1} 1 w 64 (omega arith) (omega arith) ∙ one-mul (2 ^ w)

-- ---- bounds

pub fewest_le : (m d b : ℕ) → b ≤ m * d → b / d ≤ m
fewest_le m d b most = div-le_of_le-mul d (rw (mul_comm d m) most)

-- with b at most m·d no dimension has more than m bits
pub bits_le : (m d b j : ℕ) → 0 < d → b ≤ m * d → bits_of d b (suc j) ≤ m
unfolding bits_of
bits_le m d b j h most = go (leb (suc j) (b % d)) refl
  where
    go : (t : Bool) → leb (suc j) (b % d) ≡ t → b / d + cond t 1 0 ≤ m
    go true k =
        let rest : suc j ≤ b % d = leb-true (suc j) (b % d) k in
        let less : b / d * d < m * d = omega (arith, div-add-mod' b d) in
        let under : b / d < m = lt_of_mul-lt-mul_right d less in
        omega arith
    go false k =
        let whole : b / d ≤ m = fewest_le m d b most in
        omega arith

-- so the first j dimensions have at most (2^m + 1)·j marks
pub marks_le : (m d b j : ℕ) → 0 < d → b ≤ m * d → first_marks d b j ≤ (2 ^ m + 1) * j
unfolding first_marks
marks_le m d b zero h most = zero-le
marks_le m d b (suc j) h most =
    let before : first_marks d b j ≤ (2 ^ m + 1) * j = marks_le m d b j h most in
    let regions : 2 ^ bits_of d b (suc j) ≤ 2 ^ m = pow_mono (bits_le m d b j h most) in
    rw (mul-suc (2 ^ m + 1) j) (omega arith)

-- a dimension's marks stand among those of the first n dimensions, if it is one of them
pub marks_within : (d b n j : ℕ) → j < n → first_marks d b (suc j) ≤ first_marks d b n
unfolding first_marks
marks_within d b zero j h = absurd (omega arith)
marks_within d b (suc n) j h =
    elim (eq-or-lt_of_le (le_of_suc-le-suc h)) [
      | inl e ↦ le_of_eq (ap (λ (k : ℕ). first_marks d b (suc k)) e)
      | inr l ↦ le_trans (marks_within d b n j l) (le-add_right (first_marks d b n) (mark_count d b (suc n)))
    ]

-- the next dimension's marks stand behind them
pub first_next_marks : (d b j : ℕ) → first_marks d b j + mark_count d b (suc j) ≡ first_marks d b (suc j)
unfolding first_marks
first_next_marks d b j = refl
