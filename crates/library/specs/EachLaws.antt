-- Laws of lists by number. Assumes nothing.
use Rattle.std.specs.Prelude.{◌≡◌, ◌⊎◌, Bool, true, false, ◌&&◌, length, get_or, take, drop, set, Ok, Err}
use Rattle.std.proofs.Math.Path.{refl, sym}
use Rattle.std.proofs.Common.{ap, ◌∙◌, inl, inr, zero-mul, mul-one, eq-or-lt_of_le, le_of_suc-le-suc, add-zero, add-suc, arith, length-append, drop_at, take-add, ext_get_or, get_or-drop}
use Rattle.std.proofs.Math.Bool.{and-eq-true_iff}
use mathlib.Core.List.{List, [], ◌∷◌, ◌++◌, append_assoc, append-nil}
use Prim.Native.Nat.{ℕ, zero, suc, ◌+◌, ◌*◌, ◌≤◌, ◌<◌}
use Rattle.std.proofs.Math.Nat.{suc-mul}
use Rattle.std.proofs.Math.Numerals.{add-one}
use Rattle.std.proofs.Math.ListN.{get_or-eq_default}
use Rattle.std.proofs.Math.Seq.{drop-cons, set_at, append_snoc}
use Rattle.refusal.specs.declared.Refusal.{Refusal}
use Rattle.refusal.specs.First.{Row, first}
use Rattle.limits.specs.Tests.{All, all_each, all_fails}
use Rattle.records.specs.RowLaws.{go_on, stop, Both, both}
use Rattle.library.specs.Each.{each, tabulate, every}

-- below one more: below, or the last
last_or_below : {i n : ℕ} → i < suc n → (i ≡ n) ⊎ (i < n)
last_or_below h = eq-or-lt_of_le (le_of_suc-le-suc h)

module _ {A : Type 0} where
  pub each_same : (n : ℕ) (f g : ℕ → List A) → ((i : ℕ) → i < n → f i ≡ g i) → each n f ≡ each n g
  unfolding each
  each_same zero f g same = refl
  each_same (suc n) f g same = rw (each_same n f g (λ i h. same i (omega arith)), same n (omega arith))

  pub each_length : (size n : ℕ) (f : ℕ → List A) → ((i : ℕ) → length (f i) ≡ size) → length (each n f) ≡ n * size
  unfolding each
  each_length size zero f sized = sym (zero-mul size)
  each_length size (suc n) f sized = rw (length-append (each n f) (f n), each_length size n f sized, sized n, suc-mul n size)

  pub each_add : (k n : ℕ) (f : ℕ → List A) → each (k + n) f ≡ each k f ++ each n (λ i. f (k + i))
  unfolding each
  each_add k zero f = rw (add-zero, append-nil)
  each_add k (suc n) f = rw (add-suc k n, each_add k n f) (append_assoc (each k f) (each n (λ i. f (k + i))) (f (k + n)))

  -- one more list, where they are written one behind the other
  pub each_grows : {so_far next : List A} (front : List A) (i : ℕ) (f : ℕ → List A) → so_far ≡ front ++ each i f → next ≡ so_far ++ f i
      → next ≡ front ++ each (i + 1) f
  unfolding each
  each_grows front i f is more = rw add-one (more ∙ rw is (append_assoc front (each i f) (f i)))

  -- a list that begins with another
  pub record Begins (front whole : List A) : Type 0 where
    pub tail : List A
    pub is : whole ≡ front ++ tail

  -- list i stands in its place
  pub each_at : (size n : ℕ) (f : ℕ → List A) → ((i : ℕ) → length (f i) ≡ size) → (rest : List A) (i : ℕ) → i < n
      → Begins (f i) (drop (i * size) (each n f ++ rest))
  unfolding each
  each_at size zero f sized rest i h = absurd (omega arith)
  each_at size (suc n) f sized rest i h = go (last_or_below h) (each_at size n f sized (f n ++ rest) i)
    where
      regrouped : each n f ++ f n ++ rest ≡ each n f ++ (f n ++ rest)
      regrouped = append_assoc (each n f) (f n) rest

      go : (i ≡ n) ⊎ (i < n) → (i < n → Begins (f i) (drop (i * size) (each n f ++ (f n ++ rest))))
          → Begins (f i) (drop (i * size) (each n f ++ f n ++ rest))
      go (inl e) before = record {
        tail = rest;
        is = rw (e, regrouped) (drop_at (each n f) (f n ++ rest) (n * size) (each_length size n f sized));
      }
      go (inr l) before =
          let there = before l in
          record { tail = there.tail; is = rw regrouped there.is }

  -- a list's parts of one size, one behind the other
  pub each_parts : (size n : ℕ) (l : List A) → each n (λ i. take size (drop (i * size) l)) ≡ take (n * size) l
  unfolding each
  each_parts size zero l = rw (zero-mul size)
  each_parts size (suc n) l = rw (each_parts size n l, suc-mul n size) (sym (take-add (n * size) size l))

  pub tabulate_length : (n : ℕ) (f : ℕ → A) → length (tabulate n f) ≡ n
  tabulate_length n f = each_length 1 n (λ i. f i ∷ []) (λ i. refl) ∙ mul-one n

  pub tabulate_at : (n : ℕ) (f : ℕ → A) (default : A) (i : ℕ) → i < n → get_or (tabulate n f) i default ≡ f i
  tabulate_at n f default i h =
      let there = each_at 1 n (λ i. f i ∷ []) (λ i. refl) [] i h in
      let found : get_or (drop i (tabulate n f)) 0 default ≡ f i =
      rw (append-nil, mul-one) at (ap (λ (l : List A). get_or l 0 default) there.is) in
      rw (get_or-drop, add-zero) at found

  pub tabulate_past : (n : ℕ) (f : ℕ → A) (default : A) (i : ℕ) → n ≤ i → get_or (tabulate n f) i default ≡ default
  tabulate_past n f default i h = get_or-eq_default (tabulate n f) default (rw (tabulate_length n f) h)

  -- a list is that of its elements
  pub tabulate_is : (l : List A) (default : A) (n : ℕ) (f : ℕ → A) → length l ≡ n → ((i : ℕ) → i < n → f i ≡ get_or l i default)
      → tabulate n f ≡ l
  tabulate_is l default n f size same =
      let count = tabulate_length n f in
      ext_get_or default (tabulate n f) l (count ∙ sym size) (λ i h.
      let within : i < n = omega arith in
      tabulate_at n f default i within ∙ same i within)

  -- one more element, where a list is filled from the front
  pub tabulate_fills : (n : ℕ) (f : ℕ → A) (old : List A) → n < length old
      → set (tabulate n f ++ drop n old) n (f n) ≡ tabulate (n + 1) f ++ drop (n + 1) old
  unfolding each
  tabulate_fills n f old more =
      rw (add-one, drop-cons old n (f n) more, set_at (tabulate n f) (get_or old n (f n)) (drop (suc n) old) (f n) n (tabulate_length n f))
      (sym (append_snoc (tabulate n f) (f n) (drop (suc n) old)))

-- ---- tests of the first n numbers

every_tests : (test : ℕ → Bool) → All (λ n. every n test) test
unfolding every
every_tests test = record { next = λ n. refl }

pub every_at : (n : ℕ) (test : ℕ → Bool) → every n test ≡ true → (i : ℕ) → i < n → test i ≡ true
every_at n test all i h = all_each (every_tests test) n i h all

pub every_all : (n : ℕ) (test : ℕ → Bool) → ((i : ℕ) → i < n → test i ≡ true) → every n test ≡ true
unfolding every
every_all zero test all = refl
every_all (suc n) test all = (and-eq-true_iff (every n test) (test n)).1 (every_all n test (λ i h. all i (omega arith)), all n (omega arith))

pub every_fails : (n : ℕ) (test : ℕ → Bool) (i : ℕ) → i < n → test i ≡ false → every n test ≡ false
every_fails n test i h fails = all_fails (every_tests test) n i h fails

pub every_same : (n : ℕ) (test other : ℕ → Bool) → ((i : ℕ) → i < n → test i ≡ other i) → every n test ≡ every n other
unfolding every
every_same zero test other same = refl
every_same (suc n) test other same = rw (every_same n test other (λ i h. same i (omega arith)), same n (omega arith))

-- one more test, whether those before it hold or not
pub every_next : (i : ℕ) (test : ℕ → Bool) → every (i + 1) test ≡ every i test && test i
unfolding every
every_next i test = rw add-one

pub every_more : (i : ℕ) (test : ℕ → Bool) → every i test ≡ true → test i ≡ true → every (i + 1) test ≡ true
unfolding every
every_more i test so_far holds = rw (add-one, so_far) holds

-- ---- rows

pub each_accepted : (n : ℕ) (f : ℕ → List Row) → ((i : ℕ) → i < n → first (f i) ≡ Ok tt) → first (each n f) ≡ Ok tt
unfolding each first
each_accepted zero f all = refl
each_accepted (suc n) f all = go_on (each n f) (f n) (each_accepted n f (λ i h. all i (omega arith))) ∙ all n (omega arith)

pub accepted_at : (n : ℕ) (f : ℕ → List Row) → first (each n f) ≡ Ok tt → (i : ℕ) → i < n → first (f i) ≡ Ok tt
unfolding each
accepted_at zero f accepted i h = absurd (omega arith)
accepted_at (suc n) f accepted i h = go (last_or_below h) (λ all h'. accepted_at n f all i h')
  where
    of : Both (each n f) (f n)
    of = both (each n f) (f n) accepted

    go : (i ≡ n) ⊎ (i < n) → (first (each n f) ≡ Ok tt → i < n → first (f i) ≡ Ok tt) → first (f i) ≡ Ok tt
    go (inl e) before = rw e of.back
    go (inr l) before = before of.front l

pub each_more : (i : ℕ) (f : ℕ → List Row) → first (each i f) ≡ Ok tt → first (f i) ≡ Ok tt → first (each (i + 1) f) ≡ Ok tt
unfolding each
each_more i f so_far here = rw add-one (go_on (each i f) (f i) so_far ∙ here)

pub each_stops : (n : ℕ) (f : ℕ → List Row) (i : ℕ) {cause : Refusal} → i < n → first (each i f) ≡ Ok tt → first (f i) ≡ Err cause
    → first (each n f) ≡ Err cause
unfolding each
each_stops zero f i h so_far here = absurd (omega arith)
each_stops (suc n) f i {cause} h so_far here = go (last_or_below h) (λ h'. each_stops n f i h' so_far here)
  where
    go : (i ≡ n) ⊎ (i < n) → (i < n → first (each n f) ≡ Err cause) → first (each n f ++ f n) ≡ Err cause
    go (inl e) before = go_on (each n f) (f n) (rw e at so_far) ∙ rw (← e) here
    go (inr l) before = stop (each n f) (f n) (before l)
