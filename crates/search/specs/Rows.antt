-- Vectors in a row: where for each number there is a vector with a property, there is a row of them. Assumes nothing.
use Rattle.std.specs.Prelude.{◌≡◌, ◌⊎◌, List, [], ◌++◌, ℕ, zero, suc, ◌+◌, ◌*◌, ◌≤◌, ◌<◌, ℤ, length, drop}
use Rattle.std.proofs.Common.{sym, inl, inr, suc-mul, mul-le-mul_right, eq-or-lt_of_le, le_of_suc-le-suc, lt-suc_self, le_trans, le_of_eq, zero-mul, arith, length-append, length-drop, drop_at, take_all}
use Rattle.std.proofs.Math.Nat.{le-suc}
use Rattle.std.proofs.lemmas.List.{take-append-le, drop-append-le}
use Rattle.cells.specs.Cells.{vector_at}

-- a vector of d components with a property of number i
pub record Row (d : ℕ) (P : ℕ → List ℤ → Type 0) (i : ℕ) : Type 0 where
  pub vector : List ℤ
  pub size : length vector ≡ d
  pub has : P i vector

pub record Rows (d n : ℕ) (P : ℕ → List ℤ → Type 0) : Type 0 where
  pub vectors : List ℤ
  pub size : length vectors ≡ n * d
  pub each : (i : ℕ) → i < n → P i (vector_at d vectors i)

-- a vector of the row does not look at what stands behind it
vector_front : (d i n : ℕ) (xs ys : List ℤ) → length xs ≡ n * d → i < n → vector_at d (xs ++ ys) i ≡ vector_at d xs i
vector_front d i n xs ys size below =
    let whole : suc i * d ≤ n * d = mul-le-mul_right d below in
    let room : i * d + d ≤ length xs = rw (size) (omega (arith, suc-mul i d)) in
    rw (drop-append-le (i * d) xs ys (omega arith)) (take-append-le d (drop (i * d) xs) ys (rw length-drop (omega arith)))

vector_last : (d n : ℕ) (xs ys : List ℤ) → length xs ≡ n * d → length ys ≡ d → vector_at d (xs ++ ys) n ≡ ys
vector_last d n xs ys size last = rw (drop_at xs ys (n * d) size) (take_all d ys (le_of_eq last))

one_more : {d n : ℕ} {P : ℕ → List ℤ → Type 0} → Rows d n P → Row d P n → Rows d (suc n) P
one_more {d} {n} {P} before last = record {
  vectors = before.vectors ++ last.vector;
  size = rw (length-append before.vectors last.vector, before.size, last.size, suc-mul n d);
  each = λ i h. go i (eq-or-lt_of_le (le_of_suc-le-suc h));
}
  where
    go : (i : ℕ) → (i ≡ n) ⊎ (i < n) → P i (vector_at d (before.vectors ++ last.vector) i)
    go i (inl e) = rw (e, vector_last d n before.vectors last.vector before.size last.size) last.has
    go i (inr l) = rw (vector_front d i n before.vectors last.vector before.size l) (before.each i l)

pub in_a_row : (d n : ℕ) (P : ℕ → List ℤ → Type 0) → ((i : ℕ) → i < n → Row d P i) → Rows d n P
in_a_row d zero P rows = record { vectors = []; size = sym (zero-mul d); each = λ i h. absurd (omega arith) }
in_a_row d (suc n) P rows = one_more (in_a_row d n P (λ i h. rows i (le_trans h (le-suc n)))) (rows n (lt-suc_self n))
