-- A test of each number of a list, as a test that counts up. Assumes nothing.
use Rattle.std.proofs.Common.{◌≡◌, ap, ◌∙◌, Bool, true, false, ◌&&◌, ℕ, suc, ◌+◌, ◌<◌, List, [], ◌∷◌, length, get_or, arith, refl}
use Rattle.std.specs.List.{list_all, range_with_len}
use Rattle.std.proofs.lemmas.List.FromFn.{length-range_with_len, get_or-range_with_len}
use Rattle.limits.specs.Tests.{All}

and_assoc : (a b c : Bool) → a && (b && c) ≡ (a && b) && c
and_assoc true b c = refl
and_assoc false b c = refl

and_true : (a : Bool) → a && true ≡ a
and_true true = refl
and_true false = refl

module _ {all test : ℕ → Bool} (is : All all test) (f : ℕ → Bool) where
  from : (xs : List ℕ) (a : ℕ) → ((k : ℕ) → k < length xs → f (get_or xs k 0) ≡ test (a + k)) → all a && list_all f xs ≡ all (a + length xs)
  from [] a same =
      let end : a + 0 ≡ a = omega arith in
      rw end (and_true (all a))
  from (x ∷ xs) a same =
      let here : a + 0 ≡ a = omega arith in
      let next : a + suc (length xs) ≡ suc a + length xs = omega arith in
      rw (same 0 (omega arith), here, next, and_assoc (all a) (test a) (list_all f xs), ← is.next a)
      (from xs (suc a) (λ k within. let there : suc a + k ≡ a + suc k = omega arith in rw there (same (suc k) (omega arith))))

  pub each_of : all 0 ≡ true → (xs : List ℕ) → ((k : ℕ) → k < length xs → f (get_or xs k 0) ≡ test k) → list_all f xs ≡ all (length xs)
  each_of start xs same =
      let front : 0 + length xs ≡ length xs = omega arith in
      rw (start, front) at (from xs 0 (λ k within. let there : 0 + k ≡ k = omega arith in rw there (same k within)))

  pub range_of : all 0 ≡ true → (a n : ℕ) → ((k : ℕ) → f (a + k) ≡ test k) → list_all f (range_with_len a n) ≡ all n
  range_of start a n same =
      let count : length (range_with_len a n) ≡ n = length-range_with_len a n in
      each_of start (range_with_len a n) (λ k within. let below : k < n = omega arith in rw (get_or-range_with_len a n k 0 below) (same k))
      ∙ ap all count
