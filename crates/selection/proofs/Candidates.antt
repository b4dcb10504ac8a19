-- The laws of the candidates (specs/Candidates.antt). Assumes nothing.
use Rattle.std.specs.Prelude.{◌≡◌, Bool, ◌&&◌, ltb, drop}
use Rattle.std.proofs.Math.Path.{refl, sym, ap}
use Rattle.std.proofs.Common.{◌∙◌, arith, length-take, get_or-drop, get_or-take, le-ltb, ltb-true, ltb-false}
use Rattle.std.proofs.Math.Bool.{true, false, cond}
use mathlib.Core.List.Memᴰ
use mathlib.Core.List.{List, [], ◌∷◌}
use Prim.Native.Nat.{ℕ, zero, suc, ◌+◌, ◌-◌, ◌≤◌, ◌<◌}
use Rattle.std.proofs.Math.Numerals.{unary_clauses}
use Rattle.std.proofs.Math.ListN.{length, take, get_or, length-drop}
use Rattle.order.specs.Pair.{Pair, below, insert, sort, pair_of, keyed, ranked, numbers_of}
use Rattle.order.specs.AtMost.{AtMost, at_most_refl, at_most_trans, at_most_antisym, below_false, not_below}
use Rattle.order.specs.Members.{◌∈◌, Distinct, member_get_d}
use Rattle.order.specs.Ranking.{number_member, ranked_count, ranked_distinct}
use Rattle.order.specs.Members as members
use Rattle.order.specs.Sorted.{Sorted, none, more, sorted_least, sort_sorted, ranked_sorted, insert_first}
use Rattle.order.specs.Insertion.{length_ranked}
use Rattle.order.specs.Merge.{keyed_ranked}
use Rattle.selection.specs.Reading.{scan, Reading, least_pair, goes_on, read_next, reading_order, read}
use Rattle.selection.proofs.Scan.{scan_sorted}
use Rattle.selection.specs.Loop.{after, Reached, EndsBy}
use Rattle.selection.proofs.Loop.{after_next, reached_stop, reached_end, full_after}
use Rattle.selection.specs.Candidates.{passing, numbers_passing, candidates, is_candidate}

pub keyed_passing : (test : Pair → Bool) (key : ℕ → ℕ) (is : List ℕ) → keyed key (numbers_passing test key is) ≡ passing test (keyed key is)
unfolding passing numbers_passing keyed
keyed_passing test key [] = refl
keyed_passing test key (i ∷ is) = go (test (pair_of key i)) (keyed_passing test key is)
  where
    go : (t : Bool) → keyed key (numbers_passing test key is) ≡ passing test (keyed key is)
        → keyed key (cond t (i ∷ numbers_passing test key is) (numbers_passing test key is))
        ≡ cond t (pair_of key i ∷ passing test (keyed key is)) (passing test (keyed key is))
    go true rest = ap {B = List Pair} (λ r. pair_of key i ∷ r) rest
    go false rest = rest

-- ---- choosing and sorting

module _ (test : Pair → Bool) where
  passing_member : {q : Pair} (ps : List Pair) → q ∈ passing test ps → q ∈ ps
  unfolding passing
  passing_member [] m = m
  passing_member {q} (p ∷ ps) m = go (test p) m (passing_member ps)
    where
      go : (t : Bool) → q ∈ cond t (p ∷ passing test ps) (passing test ps) → (q ∈ passing test ps → q ∈ ps) → q ∈ (p ∷ ps)
      go true (Memᴰ.head e) rest = Memᴰ.head e
      go true (Memᴰ.tail n) rest = Memᴰ.tail (rest n)
      go false n rest = Memᴰ.tail (rest n)

  -- none passes, or all do
  passing_none : (ps : List Pair) → ((q : Pair) → q ∈ ps → test q ≡ false) → passing test ps ≡ []
  unfolding passing
  passing_none [] fails = refl
  passing_none (p ∷ ps) fails = rw (fails p (Memᴰ.head refl)) (passing_none ps (λ q m. fails q (Memᴰ.tail m)))

  passing_all : (ps : List Pair) → ((q : Pair) → q ∈ ps → test q ≡ true) → passing test ps ≡ ps
  unfolding passing
  passing_all [] holds = refl
  passing_all (p ∷ ps) holds =
      rw (holds p (Memᴰ.head refl)) (ap {B = List Pair} (λ r. p ∷ r) (passing_all ps (λ q m. holds q (Memᴰ.tail m))))

  insert_passing : (p : Pair) {xs : List Pair} → Sorted xs → test p ≡ true → passing test (insert p xs) ≡ insert p (passing test xs)
  unfolding passing insert
  insert_passing p none passes = rw passes
  insert_passing p (more {p = x} {ps = xs} least rest) passes = go (below x p) (test x) refl refl (insert_passing p rest passes)
    where
      go : (t u : Bool) → below x p ≡ t → test x ≡ u → passing test (insert p xs) ≡ insert p (passing test xs)
          → passing test (cond t (x ∷ insert p xs) (p ∷ x ∷ xs)) ≡ insert p (passing test (x ∷ xs))
      go true true a b behind = rw (b, behind, a)
      go true false a b behind = rw (b, behind)
      go false u a b behind =
          rw passes
          (sym (insert_first p (passing test (x ∷ xs))
          (λ q m. at_most_trans (below_false x p a) (sorted_least (more least rest) q (passing_member (x ∷ xs) m)))))

  insert_failing : (p : Pair) (xs : List Pair) → test p ≡ false → passing test (insert p xs) ≡ passing test xs
  unfolding passing insert
  insert_failing p [] fails = rw fails
  insert_failing p (x ∷ xs) fails = go (below x p) (insert_failing p xs fails)
    where
      go : (t : Bool) → passing test (insert p xs) ≡ passing test xs → passing test (cond t (x ∷ insert p xs) (p ∷ x ∷ xs))
          ≡ passing test (x ∷ xs)
      go true behind = rw behind
      go false behind = rw fails

  sort_passing : (ps : List Pair) → passing test (sort ps) ≡ sort (passing test ps)
  unfolding sort passing
  sort_passing [] = refl
  sort_passing (p ∷ ps) = go (test p) refl (sort_passing ps)
    where
      go : (t : Bool) → test p ≡ t → passing test (sort ps) ≡ sort (passing test ps)
          → passing test (insert p (sort ps)) ≡ sort (cond t (p ∷ passing test ps) (passing test ps))
      go true passes rest = insert_passing p (sort_sorted ps) passes ∙ ap (insert p) rest
      go false fails rest = insert_failing p (sort ps) fails ∙ rest

  ranked_passing : (key : ℕ → ℕ) (is : List ℕ) → ranked key (numbers_passing test key is) ≡ passing test (ranked key is)
  unfolding ranked
  ranked_passing key is = ap sort (keyed_passing test key is) ∙ sym (sort_passing (keyed key is))

-- both of two tests
passing_both : (one two : Pair → Bool) (ps : List Pair) → passing (λ q. one q && two q) ps ≡ passing one (passing two ps)
unfolding passing
passing_both one two [] = refl
passing_both one two (p ∷ ps) = go (one p) (two p) refl (passing_both one two ps)
  where
    go : (t u : Bool) → one p ≡ t → passing (λ q. one q && two q) ps ≡ passing one (passing two ps)
        → cond (t && u) (p ∷ passing (λ q. one q && two q) ps) (passing (λ q. one q && two q) ps)
        ≡ passing one (cond u (p ∷ passing two ps) (passing two ps))
    go true true e rest = rw (e, rest)
    go true false e rest = rest
    go false true e rest = rw (e, rest)
    go false false e rest = rest

-- ---- the pairs below a bound are the first of a sorted list, and the next is not below it

module _ (bound : Pair) where
  late_rest : {p : Pair} {ps : List Pair} → Sorted (p ∷ ps) → below p bound ≡ false → passing (λ q. below q bound) (p ∷ ps) ≡ []
  late_rest {p} {ps} sorted late =
      passing_none (λ q. below q bound) (p ∷ ps) (λ q m. not_below (at_most_trans (below_false p bound late) (sorted_least sorted q m)))

  early_first : {ps : List Pair} → Sorted ps → passing (λ q. below q bound) ps ≡ take (length (passing (λ q. below q bound) ps)) ps
  unfolding passing
  early_first none = refl
  early_first (more {p = p} {ps = ps} least rest) = go (below p bound) refl (early_first rest)
    where
      go : (t : Bool) → below p bound ≡ t → passing (λ q. below q bound) ps ≡ take (length (passing (λ q. below q bound) ps)) ps
          → passing (λ q. below q bound) (p ∷ ps) ≡ take (length (passing (λ q. below q bound) (p ∷ ps))) (p ∷ ps)
      go true e behind = rw e (ap {B = List Pair} (λ r. p ∷ r) behind)
      go false e behind = rw (late_rest (more least rest) e) refl

  next_late : {ps : List Pair} → Sorted ps → length (passing (λ q. below q bound) ps) < length ps
      → AtMost bound (get_or ps (length (passing (λ q. below q bound) ps)) least_pair)
  unfolding passing
  next_late none short = absurd (omega arith)
  next_late (more {p = p} {ps = ps} least rest) short = go (below p bound) refl (next_late rest) short
    where
      go : (t : Bool) → below p bound ≡ t
          → (length (passing (λ q. below q bound) ps) < length ps
          → AtMost bound (get_or ps (length (passing (λ q. below q bound) ps)) least_pair))
          → length (passing (λ q. below q bound) (p ∷ ps)) < length (p ∷ ps)
          → AtMost bound (get_or (p ∷ ps) (length (passing (λ q. below q bound) (p ∷ ps))) least_pair)
      go true e behind short = rw e (behind (omega (arith, rw e at short)))
      go false e behind short = rw (late_rest (more least rest) e) (below_false p bound e)

-- ---- the pairs behind the k-th of a sorted list with no number twice

strictly : {p q : Pair} → AtMost p q → ¬ (p.number ≡ q.number) → below p q ≡ true
strictly {p} {q} h other = go (below p q) refl
  where
    go : (t : Bool) → below p q ≡ t → t ≡ true
    go true e = refl
    go false e = absurd (other (ap (λ (r : Pair). r.number) (at_most_antisym h (below_false p q e))))

behind_last : (m : ℕ) {xs : List Pair} → Sorted xs → Distinct (numbers_of xs) → m < length xs
    → passing (below (get_or xs m least_pair)) xs ≡ drop (suc m) xs
unfolding passing numbers_of
behind_last m none distinct within = absurd (omega arith)
behind_last zero (more {p = x} {ps = xs} least rest) (members.more fresh distinct) within =
    rw (not_below (at_most_refl x))
    (passing_all (below x) xs (λ q m. strictly (least q m) (λ e. fresh (Memᴰ.cast e (number_member m)))))
behind_last (suc m) (more {p = x} {ps = xs} least rest) (members.more fresh distinct) within =
    let last = get_or xs m least_pair in
    rw (not_below (least last (member_get_d xs m least_pair (omega arith)))) (behind_last m rest distinct (omega arith))

drop_sorted : (k : ℕ) {xs : List Pair} → Sorted xs → Sorted (drop k xs)
drop_sorted zero sorted = sorted
drop_sorted (suc k) none = none
drop_sorted (suc k) (more least rest) = drop_sorted k rest

-- ---- the candidates

-- the numbers that pass it, ranked, are the candidates
pub ranked_candidates : (k : ℕ) (low : ℕ → ℕ) (numbers : List ℕ) (bound : Pair) → 1 ≤ k → k ≤ length numbers → Distinct numbers
    → ranked low (numbers_passing (is_candidate (get_or (ranked low numbers) (k - 1) least_pair) bound) low numbers)
    ≡ candidates k (ranked low numbers) bound
unfolding candidates
ranked_candidates k low numbers bound some enough distinct =
    let last = get_or (ranked low numbers) (k - 1) least_pair in
    let same : suc (k - 1) ≡ k = omega arith in
    ranked_passing (is_candidate last bound) low numbers
    ∙ passing_both (λ q. below q bound) (below last) (ranked low numbers)
    ∙ ap (passing (λ q. below q bound))
    (behind_last (k - 1) (ranked_sorted low numbers) (ranked_distinct low distinct) (omega (arith, length_ranked low numbers))
    ∙ ap (λ (m : ℕ). drop m (ranked low numbers)) same)

module _ (k : ℕ) {ranking : List Pair} (sorted : Sorted ranking) (bound : Pair) where
  -- they stand right behind the first k
  pub candidates_first : candidates k ranking bound ≡ take (length (candidates k ranking bound)) (drop k ranking)
  unfolding candidates
  candidates_first = early_first bound (drop_sorted k sorted)

  pub candidates_fit : length (candidates k ranking bound) ≤ length ranking - k
  candidates_fit =
      omega
      (arith, ap length candidates_first ∙ length-take (length (candidates k ranking bound)) (drop k ranking), length-drop k ranking)

  -- the first behind them is not below the bound
  next_behind : k + length (candidates k ranking bound) < length ranking
      → AtMost bound (get_or ranking (k + length (candidates k ranking bound)) least_pair)
  unfolding candidates
  next_behind short =
      rw (sym (get_or-drop k ranking (length (passing (λ q. below q bound) (drop k ranking))) least_pair))
      (next_late bound (drop_sorted k sorted) (omega (arith, length-drop k ranking)))

-- ---- the k-th best only falls

-- the m-th of a sorted list is at most the next one
step_up : (m : ℕ) {xs : List Pair} → Sorted xs → suc m < length xs → AtMost (get_or xs m least_pair) (get_or xs (suc m) least_pair)
step_up m none within = absurd (omega arith)
step_up zero (more {ps = xs} least rest) within = least (get_or xs 0 least_pair) (member_get_d xs 0 least_pair (omega arith))
step_up (suc m) (more least rest) within = step_up m rest (omega arith)

insert_falls : (m : ℕ) (p : Pair) {xs : List Pair} → Sorted xs → m < length xs
    → AtMost (get_or (insert p xs) m least_pair) (get_or xs m least_pair)
unfolding insert
insert_falls m p none within = absurd (omega arith)
insert_falls m p (more {p = x} {ps = xs} least rest) within = go m (below x p) refl within (λ m h. insert_falls m p rest h)
  where
    go : (m : ℕ) (t : Bool) → below x p ≡ t → m < length (x ∷ xs)
        → ((m : ℕ) → m < length xs → AtMost (get_or (insert p xs) m least_pair) (get_or xs m least_pair))
        → AtMost (get_or (cond t (x ∷ insert p xs) (p ∷ x ∷ xs)) m least_pair) (get_or (x ∷ xs) m least_pair)
    go zero true e h behind = at_most_refl x
    go (suc m) true e h behind = behind m (omega arith)
    go zero false e h behind = below_false x p e
    go (suc m) false e h behind = step_up m (more least rest) h

keyed_at : (key : ℕ → ℕ) (is : List ℕ) (m : ℕ) → m < length is → get_or (keyed key is) m least_pair ≡ pair_of key (get_or is m 0)
unfolding keyed
keyed_at key [] m within = absurd (omega arith)
keyed_at key (i ∷ is) zero within = refl
keyed_at key (i ∷ is) (suc m) within = keyed_at key is m (omega arith)

-- the pair at a place of a ranking
pub ranked_at : (key : ℕ → ℕ) (numbers : List ℕ) (m : ℕ) → m < length numbers
    → get_or (ranked key numbers) m least_pair ≡ pair_of key (get_or (reading_order key numbers) m 0)
ranked_at key numbers m within =
    ap (λ (ps : List Pair). get_or ps m least_pair) (sym (keyed_ranked key numbers))
    ∙ keyed_at key (reading_order key numbers) m (omega (arith, ranked_count key numbers))

module _ (k : ℕ) (low distance : ℕ → ℕ) (numbers : List ℕ) (some : 1 ≤ k) (enough : k ≤ length numbers) where
  -- the k-th best after so many reads
  kth_best : ℕ → Pair
  kth_best done = get_or (after k low distance numbers done).best (k - 1) least_pair

  best_falls : (done : ℕ) → k ≤ done → done < length numbers → AtMost (kth_best (suc done)) (kth_best done)
  unfolding after read_next kth_best
  best_falls done all within =
      let i = get_or (reading_order low numbers) done 0 in
      let best = scan k distance (take done (reading_order low numbers)) in
      let full : length best ≡ k = full_after k low distance numbers done all (omega arith) in
      rw (ap (λ (r : Reading). r.best) (after_next k low distance numbers done within))
      (rw (get_or-take k (insert (pair_of distance i) best) (k - 1) least_pair (omega arith))
      (insert_falls (k - 1) (pair_of distance i) (scan_sorted k distance (take done (reading_order low numbers))) (omega arith)))

  fallen : (m : ℕ) → k + m ≤ length numbers → AtMost (kth_best (k + m)) (kth_best k)
  fallen zero within = simp unary_clauses (at_most_refl (kth_best k))
  fallen (suc m) within = simp unary_clauses (at_most_trans (best_falls (k + m) (omega arith) (omega arith)) (fallen m (omega arith)))

  -- where the candidates end that the first k leave, the reading ends
  pub candidates_end : EndsBy k low distance numbers
      (k + length (candidates k (ranked low numbers) (get_or (after k low distance numbers k).best (k - 1) least_pair)))
  unfolding kth_best goes_on
  candidates_end = record {
    behind = omega arith;
    within = fits;
    whole = λ reached. go (ltb (k + count) (length numbers)) refl reached;
  }
    where
      count : ℕ
      count = length (candidates k (ranked low numbers) (kth_best k))

      fits : k + count ≤ length numbers
      fits = omega (arith, candidates_fit k (ranked_sorted low numbers) (kth_best k), length_ranked low numbers)

      stops : k + count < length numbers
          → goes_on k (after k low distance numbers (k + count)).best (pair_of low (get_or (reading_order low numbers) (k + count) 0)) ≡ false
      stops short =
          let full : length (after k low distance numbers (k + count)).best
          ≡ k = full_after k low distance numbers (k + count) (omega arith) fits in
          let late = rw (ranked_at low numbers (k + count) short) at
          (next_behind k (ranked_sorted low numbers) (kth_best k) (omega (arith, length_ranked low numbers))) in
          rw (
            le-ltb (length (after k low distance numbers (k + count)).best) k (omega arith),
            not_below
                (at_most_trans (fallen count fits) late),
          )

      go : (t : Bool) → ltb (k + count) (length numbers) ≡ t → Reached k low distance numbers (k + count)
          → read k low distance numbers ≡ after k low distance numbers (k + count)
      go true e reached =
          let short : k + count < length numbers = ltb-true (k + count) (length numbers) e in
          reached_stop k low distance numbers (k + count) reached short (stops short)
      go false e reached = reached_end k low distance numbers (k + count) reached (ltb-false (k + count) (length numbers) e)
