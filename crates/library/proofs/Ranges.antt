-- A test of each number of a range, as a chain over the range makes it. Assumes nothing.
use Rattle.std.proofs.Common.{◌≡◌, sym, ◌∙◌, Bool, ◌&&◌, ◌||◌, [], ◌∷◌, map, ℕ, zero, suc, ◌+◌, ◌-◌, ◌≤◌, ltb, refl, subst, add-zero, zero-add, add-one, add-suc, arith}
use borrow.Author.Tests.{lt-ltb, le-ltb}
use Rattle.std.specs.List.{list_all, range_with_len}
use Rattle.std.proofs.Math.Bool.{and-true}
use Rattle.std.proofs.Math.Decide.{dec_le}
use Rattle.std.proofs.lemmas.List.Folds.{list_all-append, list_all-map}
use Rattle.std.proofs.lemmas.List.FromFn.{map-range_with_len_more}
use Rattle.library.specs.Each.{every}
use Rattle.library.specs.EachLaws.{every_all, every_same}

-- one more number
all_more : (a n : ℕ) (test : ℕ → Bool) → list_all test (range_with_len a (n + 1)) ≡ list_all test (range_with_len a n) && test (a + n)
all_more a n test =
    sym (list_all-map (λ holds. holds) test (range_with_len a (n + 1)))
    ∙ rw (
      map-range_with_len_more test a n (a + n) refl,
      list_all-append (λ holds. holds) (map test (range_with_len a n)) (test (a + n) ∷ []),
      list_all-map (λ holds. holds) test (range_with_len a n),
      and-true (test (a + n)),
    )

all_behind : (a n : ℕ) (test : ℕ → Bool) → list_all test (range_with_len a n) ≡ every n (λ i. test (a + i))
unfolding every
all_behind a zero test = refl
all_behind a (suc n) test =
    subst (λ (k : ℕ). list_all test (range_with_len a k) ≡ every (suc n) (λ i. test (a + i))) (add-one n)
    (all_more a n test ∙ rw (all_behind a n test))

-- the numbers below n
pub all_below : (n : ℕ) (test : ℕ → Bool) → list_all test (range_with_len 0 n) ≡ every n test
all_below n test = all_behind 0 n test ∙ every_same n (λ i. test (0 + i)) test (λ i h. rw (zero-add i))

every_behind : (d k : ℕ) (test : ℕ → Bool) → every (d + k) (λ t. ltb t d || test t) ≡ every k (λ i. test (d + i))
unfolding every
every_behind d zero test = rw add-zero (every_all d (λ t. ltb t d || test t) (λ i h. rw (lt-ltb i d h)))
every_behind d (suc k) test = rw (add-suc d k, every_behind d k test, le-ltb (d + k) d (omega arith))

-- the numbers from d on that are below n
pub all_from : (d n : ℕ) (test : ℕ → Bool) → list_all test (range_with_len d (n - d)) ≡ every n (λ t. ltb t d || test t)
unfolding every
all_from d n test = all_behind d (n - d) test ∙ go (dec_le d n)
  where
    go : Dec (d ≤ n) → every (n - d) (λ i. test (d + i)) ≡ every n (λ t. ltb t d || test t)
    go (yes within) =
        let all : d + (n - d) ≡ n = omega arith in
        rw all at (sym (every_behind d (n - d) test))
    go (no past) =
        let none : n - d ≡ 0 = omega arith in
        rw none (sym (every_all n (λ t. ltb t d || test t) (λ i h. rw (lt-ltb i d (omega arith)))))
