-- Scans of numbers when one more is added behind them, and when one is taken out and later ones move down by one. Assumes nothing.
use Rattle.std.specs.Prelude.{◌≡◌, Bool, eqb}
use Rattle.std.proofs.Math.Path.{refl, sym, ap}
use Rattle.std.proofs.Common.{◌∙◌, zero-add, add-zero, add-suc, suc-add, add-one}
use Rattle.std.proofs.Math.Bool.{true, false, cond}
use mathlib.Core.List.{List, [], ◌∷◌, ◌++◌, map, append-nil}
use Prim.Native.Nat.{ℕ, zero, suc, ◌+◌, ◌-◌, ◌≤◌, ◌<◌}
use native.Mathlib.Omega.{arith}
use borrow.Author.Tests.{ltb-true, ltb-false, lt-ltb, le-ltb, eq-eqb, ne_eqb}
use Rattle.std.proofs.Math.Dec.{ltb}
use Rattle.std.proofs.Math.ListN.{take}
use Rattle.std.proofs.Math.Seq.{take-take, take_all}
use Rattle.order.specs.Pair.{Pair, below, insert, sort, pair_of, keyed, ranked, count_from}
use Rattle.order.specs.Insertion.{length_ranked, ranked_insert, insert_cut}
use Rattle.order.specs.Counted.{counted_length}
use Rattle.selection.specs.Reading.{scan}
use Rattle.selection.specs.Settles.{Agree}
use Rattle.scan.specs.Ranked.{ranked_agree}

-- a pair whose number moves down by one if it is above i
abbrev pub moved_down : ℕ → Pair → Pair
moved_down i p = record { key = p.key; number = cond (ltb i p.number) (p.number - 1) p.number }

-- pairs without those of number i, where numbers above i move down by one
unfoldable pub without_number : ℕ → List Pair → List Pair
without_number i [] = []
without_number i (p ∷ ps) =
    let rest = without_number i ps in
    cond (eqb p.number i) rest (moved_down i p ∷ rest)

-- ---- numbers counted

count_append : (from n m : ℕ) → count_from from (n + m) ≡ count_from from n ++ count_from (from + n) m
unfolding count_from
count_append from zero m = rw (zero-add m, add-zero from)
count_append from (suc n) m = rw (suc-add n m, count_append (suc from) n m, add-suc from n, suc-add from n)

-- ---- one more behind them

pub scan_more : (k : ℕ) (distance other : ℕ → ℕ) (n : ℕ) → Agree (count_from 0 n) other distance
    → scan k other (count_from 0 (suc n)) ≡ take k (insert (pair_of other n) (scan k distance (count_from 0 n)))
unfolding scan count_from
scan_more k distance other n agree =
    let numbers : count_from 0 (suc n) ≡ count_from 0 n ++ (n ∷ []) =
    ap (count_from 0) (sym (add-one n)) ∙ count_append 0 n 1 ∙ ap (λ (i : ℕ). count_from 0 n ++ (i ∷ [])) (zero-add n) in
    ap (take k)
    (ap (ranked other) numbers
    ∙ ranked_insert other (count_from 0 n) n []
    ∙ ap (insert (pair_of other n)) (ap (ranked other) (append-nil (count_from 0 n)) ∙ ranked_agree distance other (count_from 0 n) agree))
    ∙ sym (insert_cut k (pair_of other n) (ranked distance (count_from 0 n)))

-- ---- number i taken out

-- a number as it was before
abbrev pub moved_up : ℕ → ℕ → ℕ
moved_up i j = cond (ltb j i) j (suc j)

module _ (i : ℕ) where
  up : Pair → Pair
  up p = record { key = p.key; number = moved_up i p.number }

  -- numbers that move up keep their order
  up_order : (j m : ℕ) → ltb (moved_up i j) (moved_up i m) ≡ ltb j m
  up_order j m = go (ltb j i) (ltb m i) (ltb j m) refl refl refl
    where
      go : (s t u : Bool) → ltb j i ≡ s → ltb m i ≡ t → ltb j m ≡ u → ltb (cond s j (suc j)) (cond t m (suc m)) ≡ u
      go true true u e f g = g
      go true false true e f g = lt-ltb j (suc m) (omega (arith, ltb-true j m g))
      go true false false e f g = absurd (omega (arith, ltb-true j i e, ltb-false m i f, ltb-false j m g))
      go false true true e f g = absurd (omega (arith, ltb-false j i e, ltb-true m i f, ltb-true j m g))
      go false true false e f g = le-ltb (suc j) m (omega (arith, ltb-false j m g))
      go false false true e f g = lt-ltb (suc j) (suc m) (omega (arith, ltb-true j m g))
      go false false false e f g = le-ltb (suc j) (suc m) (omega (arith, ltb-false j m g))

  -- so pairs do, and they are ranked alike
  up_below : (q p : Pair) → below (up q) (up p) ≡ below q p
  unfolding below up
  up_below q p = rw (up_order q.number p.number)

  insert_up : (p : Pair) (ps : List Pair) → insert (up p) (map up ps) ≡ map up (insert p ps)
  unfolding insert
  insert_up p [] = refl
  insert_up p (q ∷ ps) = rw (up_below q p, insert_up p ps) (go (below q p))
    where
      go : (t : Bool) → cond t (up q ∷ map up (insert p ps)) (up p ∷ up q ∷ map up ps) ≡ map up (cond t (q ∷ insert p ps) (p ∷ q ∷ ps))
      go true = refl
      go false = refl

  sort_up : (ps : List Pair) → sort (map up ps) ≡ map up (sort ps)
  unfolding sort
  sort_up [] = refl
  sort_up (p ∷ ps) = rw (sort_up ps) (insert_up p (sort ps))

  -- the other numbers are those that move up
  count_below : (from n : ℕ) → from + n ≤ i → map (moved_up i) (count_from from n) ≡ count_from from n
  unfolding count_from
  count_below from zero few = refl
  count_below from (suc n) few = rw (lt-ltb from i (omega arith), count_below (suc from) n (omega arith))

  count_above : (from n : ℕ) → i ≤ from → map (moved_up i) (count_from from n) ≡ count_from (suc from) n
  unfolding count_from
  count_above from zero past = refl
  count_above from (suc n) past = rw (le-ltb from i past, count_above (suc from) n (omega arith))

  map_append : (front back : List ℕ) → map (moved_up i) (front ++ back) ≡ map (moved_up i) front ++ map (moved_up i) back
  map_append [] back = refl
  map_append (j ∷ front) back = rw (map_append front back)

  count_others : (m : ℕ) → map (moved_up i) (count_from 0 (i + m)) ≡ count_from 0 i ++ count_from (suc i) m
  count_others m =
      ap (map (moved_up i)) (count_append 0 i m)
      ∙ map_append (count_from 0 i) (count_from (0 + i) m)
      ∙ rw (count_below 0 i (omega arith), zero-add i, count_above i m (omega arith))

  -- number i's pair is left out, and the others move down again
  down_up : (p : Pair) (ps : List Pair) → without_number i (up p ∷ ps) ≡ p ∷ without_number i ps
  unfolding without_number up
  down_up p ps = go (ltb p.number i) refl
    where
      go : (t : Bool) → ltb p.number i ≡ t
          → cond (eqb (cond t p.number (suc p.number)) i) (without_number i ps)
          (record {
            key = p.key;
            number = cond (ltb i (cond t p.number (suc p.number))) (cond t p.number (suc p.number) - 1)
                (cond t p.number (suc p.number));
          } ∷ without_number i ps)
          ≡ p ∷ without_number i ps
      go true e =
          let less : p.number < i = ltb-true p.number i e in
          rw (ne_eqb p.number i (λ same. omega arith), le-ltb i p.number (omega arith))
      go false e =
          let past : i ≤ p.number = ltb-false p.number i e in
          let back : suc p.number - 1 ≡ p.number = omega arith in
          rw (ne_eqb (suc p.number) i (λ same. omega arith), lt-ltb i (suc p.number) (omega arith), back)

  all_down : (k : ℕ) (ps : List Pair) → without_number i (take k (map up ps)) ≡ take k ps
  unfolding without_number
  all_down zero ps = refl
  all_down (suc k) [] = refl
  all_down (suc k) (p ∷ ps) = down_up p (take k (map up ps)) ∙ ap {B = List Pair} (λ rest. p ∷ rest) (all_down k ps)

  whole_down : (ps : List Pair) → without_number i (map up ps) ≡ ps
  unfolding without_number
  whole_down [] = refl
  whole_down (p ∷ ps) = down_up p (map up ps) ∙ ap {B = List Pair} (λ rest. p ∷ rest) (whole_down ps)

  left_out : (p : Pair) → p.number ≡ i → (ps : List Pair) → without_number i (p ∷ ps) ≡ without_number i ps
  unfolding without_number
  left_out p is ps = rw (eq-eqb p.number i is)

  taken_out_of_all : (p : Pair) → p.number ≡ i → (ps : List Pair) → without_number i (insert p (map up ps)) ≡ ps
  unfolding insert without_number
  taken_out_of_all p is [] = left_out p is []
  taken_out_of_all p is (q ∷ ps) = go (below (up q) p) (taken_out_of_all p is ps)
    where
      go : (t : Bool) → without_number i (insert p (map up ps)) ≡ ps
          → without_number i (cond t (up q ∷ insert p (map up ps)) (p ∷ up q ∷ map up ps)) ≡ q ∷ ps
      go true later = down_up q (insert p (map up ps)) ∙ ap {B = List Pair} (λ rest. q ∷ rest) later
      go false later = left_out p is (map up (q ∷ ps)) ∙ whole_down (q ∷ ps)

  taken_out : (p : Pair) → p.number ≡ i → (k : ℕ) (ps : List Pair)
      → take k (without_number i (take (suc k) (insert p (map up ps)))) ≡ take k ps
  unfolding insert without_number
  taken_out p is zero ps = refl
  taken_out p is (suc k) [] = ap (take (suc k)) (left_out p is [])
  taken_out p is (suc k) (q ∷ ps) = go (below (up q) p) (taken_out p is k ps)
    where
      go : (t : Bool) → take k (without_number i (take (suc k) (insert p (map up ps)))) ≡ take k ps
          → take (suc k) (without_number i (take (suc (suc k)) (cond t (up q ∷ insert p (map up ps)) (p ∷ up q ∷ map up ps))))
          ≡ q ∷ take k ps
      go true later =
          ap (take (suc k)) (down_up q (take (suc k) (insert p (map up ps)))) ∙ ap {B = List Pair} (λ rest. q ∷ rest) later
      go false later =
          ap (take (suc k)) (left_out p is (take (suc k) (map up (q ∷ ps))) ∙ all_down (suc k) (q ∷ ps))
          ∙ take-take (suc k) (suc k) (q ∷ ps) (omega arith)

  module _ (distance other : ℕ → ℕ) (agree : (j : ℕ) → other j ≡ distance (moved_up i j)) where
    keyed_up : (is : List ℕ) → keyed distance (map (moved_up i) is) ≡ map up (keyed other is)
    unfolding keyed up
    keyed_up [] = refl
    keyed_up (j ∷ is) = rw (keyed_up is, agree j)

    ranked_others : (m : ℕ) → ranked distance (count_from 0 (i + suc m))
        ≡ insert (pair_of distance i) (map up (ranked other (count_from 0 (i + m))))
    unfolding ranked count_from
    ranked_others m =
        ap (ranked distance) (count_append 0 i (suc m) ∙ rw (zero-add i))
        ∙ ranked_insert distance (count_from 0 i) i (count_from (suc i) m)
        ∙ ap (insert (pair_of distance i))
        (ap (ranked distance) (sym (count_others m))
        ∙ ap sort (keyed_up (count_from 0 (i + m)))
        ∙ sort_up (keyed other (count_from 0 (i + m))))

    -- the same for n numbers, of which i is one
    module _ (n : ℕ) (among : i < n) where
      others_ranked : ranked distance (count_from 0 n) ≡ insert (pair_of distance i) (map up (ranked other (count_from 0 (n - 1))))
      others_ranked =
          let before : i + suc (n - 1 - i) ≡ n = omega arith in
          let after : i + (n - 1 - i) ≡ n - 1 = omega arith in
          rw (before, after) at (ranked_others (n - 1 - i))

      -- a scan over all gives all without number i
      pub scan_all_without : scan (n - 1) other (count_from 0 (n - 1)) ≡ without_number i (scan n distance (count_from 0 n))
      unfolding scan
      scan_all_without =
          let size : (key : ℕ → ℕ) (m : ℕ) → take m (ranked key (count_from 0 m)) ≡ ranked key (count_from 0 m) =
          λ key m. take_all m (ranked key (count_from 0 m)) (omega (arith, length_ranked key (count_from 0 m), counted_length 0 m)) in
          size other (n - 1)
          ∙ sym (taken_out_of_all (pair_of distance i) refl (ranked other (count_from 0 (n - 1))))
          ∙ ap (without_number i) (sym others_ranked ∙ sym (size distance n))

      -- the k least of the others are among the k + 1 least of all
      pub scan_without : (k : ℕ) → scan k other (count_from 0 (n - 1)) ≡ take k (without_number i (scan (suc k) distance (count_from 0 n)))
      unfolding scan
      scan_without k = rw others_ranked (sym (taken_out (pair_of distance i) refl k (ranked other (count_from 0 (n - 1)))))
