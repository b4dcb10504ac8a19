-- Sets that settle the answer hold the numbers that are needed, and lists that hold distinct numbers are at least as long. Assumes nothing.
use Rattle.std.specs.Prelude.{◌≡◌, refl, Bool, true, false, cond, ◌≢◌, List, [], ◌∷◌, ℕ, suc, ◌+◌, ◌≤◌, eqb, length}
use Rattle.std.proofs.Common.{sym, ap, ◌∙◌, ⊎_elim, arith}
use mathlib.Core.List.Memᴰ
use Rattle.std.proofs.Math.Decide.{ℕ_discrete}
use Rattle.std.proofs.lemmas.Bool.{eqb-false}
use Rattle.order.specs.Members.{◌∈◌, Distinct, none, more}
use Rattle.selection.specs.Settles.{Settles, Within, Needed, fixed, changed}
use Rattle.selection.proofs.Changed.{changed_elsewhere, changed_holds}

-- ---- a set that settles the answer

pub member? : (i : ℕ) (is : List ℕ) → Dec (i ∈ is)
member? i [] = no Memᴰ.not-nil
member? i (j ∷ is) = go (ℕ_discrete i j) (member? i is)
  where
    go : Dec (i ≡ j) → Dec (i ∈ is) → Dec (i ∈ (j ∷ is))
    go (yes e) rest = yes (Memᴰ.head e)
    go (no other) (yes m) = yes (Memᴰ.tail m)
    go (no other) (no missing) = no (λ m. ⊎_elim other missing (Memᴰ.cases_cons m))

pub settles_needed : {k : ℕ} {possible : ℕ → ℕ → Type 0} {distance : ℕ → ℕ} {numbers : List ℕ} {set : List ℕ} {i : ℕ}
    → Within possible distance numbers → Settles k possible distance numbers set → Needed k possible distance numbers i → i ∈ set
settles_needed {possible = possible} {distance = distance} {set = set} {i = i} own settles needed = go (member? i set)
  where
    go : Dec (i ∈ set) → i ∈ set
    go (yes m) = m
    go (no missing) =
        absurd
        (needed.changes
        (settles (changed distance i needed.value)
        (λ j m. changed_holds distance i needed.value j possible needed.is_possible (own j m))
        (λ j m. changed_elsewhere distance i needed.value j (λ e. missing (Memᴰ.cast (sym e) m)))))

-- ---- counting

-- the list with i taken out once
record Without (i : ℕ) (is : List ℕ) : Type 0 where
  rest : List ℕ
  shorter : length is ≡ suc (length rest)
  keeps : (j : ℕ) → j ≢ i → j ∈ is → j ∈ rest

without : {i : ℕ} {is : List ℕ} → i ∈ is → Without i is
without (Memᴰ.head {xs = is} e) =
    record { rest = is; shorter = refl; keeps = λ j other m. ⊎_elim (λ d. absurd (other (d ∙ sym e))) (λ n. n) (Memᴰ.cases_cons m) }
without (Memᴰ.tail {x = h} m) =
    let w = without m in
    record {
      rest = h ∷ w.rest;
      shorter = ap suc w.shorter;
      keeps = λ j other n. ⊎_elim Memᴰ.head (λ r. Memᴰ.tail (w.keeps j other r)) (Memᴰ.cases_cons n);
    }

-- distinct numbers are no more than the members of a list that holds all that are not fixed, and the fixed ones
pub count_fixed : (low high : ℕ → ℕ) {is : List ℕ} → Distinct is → (set : List ℕ) → ((i : ℕ) → i ∈ is → low i ≢ high i → i ∈ set)
    → length is ≤ length set + fixed low high is
unfolding fixed
count_fixed low high none set holds = omega arith
count_fixed low high (more {i = i} {is = is} fresh rest) set holds = go (eqb (low i) (high i)) refl (count_fixed low high rest)
  where
    go : (t : Bool) → eqb (low i) (high i) ≡ t
        → ((s : List ℕ) → ((j : ℕ) → j ∈ is → low j ≢ high j → j ∈ s) → length is ≤ length s + fixed low high is)
        → suc (length is) ≤ length set + cond t (suc (fixed low high is)) (fixed low high is)
    go true e bound = omega (arith, bound set (λ j m. holds j (Memᴰ.tail m)))
    go false e bound =
        let w = without (holds i (Memᴰ.head refl) (eqb-false (low i) (high i) e)) in
        omega (arith, w.shorter, bound w.rest (λ j m differ. w.keeps j (λ d. fresh (Memᴰ.cast (sym d) m)) (holds j (Memᴰ.tail m) differ)))
