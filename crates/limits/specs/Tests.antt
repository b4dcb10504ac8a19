-- Tests of order: two that agree, not below is at least, a number between two others, and tests that all hold. Assumes nothing.
use Rattle.std.specs.Prelude.{◌≡◌, refl, Bool, true, false, not, ◌&&◌, ℕ, zero, suc, ◌≤◌, ◌<◌, leb, ltb, ℤ, pos, negsuc}
use Rattle.std.proofs.Common.{sym, ap, ◌∙◌, inl, inr, true≢false, eq-or-lt_of_le, le_of_suc-le-suc, arith, leb-true, leb-false, le-leb}
use Rattle.std.proofs.lemmas.Bool.{lt-leb}
use Rattle.std.specs.Int.Signed.{lt_z, le_z}
use Rattle.limits.specs.Limits.{max_vectors, max_neighbours, is_vector_count, is_neighbour_count}

-- two tests that hold together and fail together
pub same_leb : (a b c d : ℕ) → (a ≤ b → c ≤ d) → (b < a → d < c) → leb a b ≡ leb c d
same_leb a b c d up down = go (leb a b) refl
  where
    go : (t : Bool) → leb a b ≡ t → t ≡ leb c d
    go true e = sym (le-leb c d (up (leb-true a b e)))
    go false e = sym (lt-leb c d (down (leb-false a b e)))

pub leb_not : (a b : ℕ) → leb b a ≡ not (ltb a b)
leb_not a b = go (ltb a b) refl
  where
    go : (t : Bool) → ltb a b ≡ t → leb b a ≡ not t
    go true e = lt-leb b a (leb-true (suc a) b e)
    go false e =
        let h : b ≤ a = omega (arith, leb-false (suc a) b e) in
        le-leb b a h

pub le_z_not : (a b : ℤ) → le_z b a ≡ not (lt_z a b)
le_z_not (pos a) (pos b) = leb_not a b
le_z_not (pos a) (negsuc b) = refl
le_z_not (negsuc a) (pos b) = refl
le_z_not (negsuc a) (negsuc b) = leb_not b a

-- and not at least is below
not_not : (t : Bool) → not (not t) ≡ t
not_not true = refl
not_not false = refl

pub ltb_not : (a b : ℕ) → ltb a b ≡ not (leb b a)
ltb_not a b = sym (ap not (leb_not a b) ∙ not_not (ltb a b))

pub lt_z_not : (a b : ℤ) → lt_z a b ≡ not (le_z b a)
lt_z_not a b = sym (ap not (le_z_not a b) ∙ not_not (lt_z a b))

-- ---- a number between two others

pub record Between (low x high : ℕ) : Type 0 where
  pub above : low ≤ x
  pub below : x ≤ high

pub between : (low x high : ℕ) → leb low x && leb x high ≡ true → Between low x high
between low x high holds = go (leb low x) refl holds
  where
    go : (t : Bool) → leb low x ≡ t → t && leb x high ≡ true → Between low x high
    go true e holds = record { above = leb-true low x e; below = leb-true x high holds }
    go false e holds =
        let impossible : ◌≡◌ {A = ℕ} 0 1 = cc in
        absurd (omega arith)

-- a number of neighbours among a number of vectors: no more than the vectors, and than the most neighbours
pub record Neighbours (n k : ℕ) : Type 0 where
  pub some : 1 ≤ k
  pub enough : k ≤ n
  pub few : k ≤ max_neighbours

pub neighbours : (n k : ℕ) → is_vector_count n ≡ true → is_neighbour_count n k ≡ true → Neighbours n k
neighbours n k counted holds =
    let vectors = between 1 n max_vectors counted in
    let among = between 1 k n holds in
    record { some = among.above; enough = among.below; few = omega (arith, vectors.below, among.below) }

-- ---- tests that all hold, up to a number

pub record All (all test : ℕ → Bool) : Type 0 where
  pub next : (t : ℕ) → all (suc t) ≡ all t && test t

pub all_next : {all test : ℕ → Bool} → All all test → (t : ℕ) → all t ≡ true → all (suc t) ≡ test t
all_next is t before = is.next t ∙ rw before

and_no : (t : Bool) → t && false ≡ false
and_no true = refl
and_no false = refl

pub all_fails : {all test : ℕ → Bool} → All all test → (n t : ℕ) → t < n → test t ≡ false → all n ≡ false
all_fails is zero t below fails = absurd (omega arith)
all_fails {all} {test} is (suc n) t below fails =
    is.next n
    ∙ elim (eq-or-lt_of_le (le_of_suc-le-suc below)) [
      | inl e ↦ rw (← e, fails) (and_no (all t))
      | inr l ↦ rw (all_fails is n t l fails)
    ]

-- where all hold, each does
pub all_each : {all test : ℕ → Bool} → All all test → (n t : ℕ) → t < n → all n ≡ true → test t ≡ true
all_each {all} {test} is n t below holds = go (test t) refl
  where
    go : (value : Bool) → test t ≡ value → value ≡ true
    go true e = refl
    go false e = absurd (true≢false (sym holds ∙ all_fails is n t below e))
