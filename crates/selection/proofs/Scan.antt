-- The scan's answer: its members, length and order, and what one more number does to it; and a ranking by lows. Assumes nothing.
use Rattle.std.specs.Prelude.{◌≡◌, refl, List, [], ◌∷◌, ◌++◌, ℕ, ◌-◌, ◌≤◌, min, length, take, get_or}
use Rattle.std.proofs.Common.{sym, ap, ◌∙◌, append-nil, arith, length-take, take-take}
use mathlib.Core.List.Memᴰ
use Rattle.order.specs.Pair.{Pair, insert, pair_of, ranked, numbers_of}
use Rattle.order.specs.AtMost.{AtMost}
use Rattle.order.specs.Members.{◌∈◌, Entry, member_take, member_ranked}
use Rattle.order.specs.Insertion.{insert_cut, length_ranked, ranked_insert, ranked_ranked}
use Rattle.order.specs.Sorted.{Sorted, ranked_sorted, take_sorted, insert_late, stays_first}
use Rattle.selection.specs.Reading.{scan, least_pair}
use Rattle.selection.specs.Settles.{LowerBound}

pub member_scan : {p : Pair} (k : ℕ) (key : ℕ → ℕ) (is : List ℕ) → p ∈ scan k key is → Entry key is p
unfolding scan
member_scan k key is m = member_ranked key is (member_take k (ranked key is) m)

pub scan_sorted : (k : ℕ) (distance : ℕ → ℕ) (is : List ℕ) → Sorted (scan k distance is)
unfolding scan
scan_sorted k distance is = take_sorted k (ranked_sorted distance is)

pub scan_length : (k : ℕ) (distance : ℕ → ℕ) (is : List ℕ) → length (scan k distance is) ≡ min k (length is)
unfolding scan
scan_length k distance is = length-take k (ranked distance is) ∙ ap (min k) (length_ranked distance is)

scan_cut : (k : ℕ) (distance : ℕ → ℕ) (is : List ℕ) → take k (scan k distance is) ≡ scan k distance is
unfolding scan
scan_cut k distance is = take-take k k (ranked distance is) (omega arith)

-- a number's pair is inserted, wherever the number stands
scan_insert : (k : ℕ) (distance : ℕ → ℕ) (before : List ℕ) (i : ℕ) (after : List ℕ)
    → scan k distance (before ++ i ∷ after) ≡ take k (insert (pair_of distance i) (scan k distance (before ++ after)))
unfolding scan
scan_insert k distance before i after =
    rw (ranked_insert distance before i after) (sym (insert_cut k (pair_of distance i) (ranked distance (before ++ after))))

pub scan_snoc : (k : ℕ) (distance : ℕ → ℕ) (before : List ℕ) (i : ℕ)
    → scan k distance (before ++ i ∷ []) ≡ take k (insert (pair_of distance i) (scan k distance before))
scan_snoc k distance before i = rw append-nil at (scan_insert k distance before i [])

pub scan_ranked : (k : ℕ) (distance low : ℕ → ℕ) (is : List ℕ) → scan k distance (numbers_of (ranked low is)) ≡ scan k distance is
unfolding scan
scan_ranked k distance low is = ap (take k) (ranked_ranked distance low is)

-- ---- numbers whose pairs are not below a pair of the answer

-- behind the k-th pair they change nothing
pub scan_late : (k : ℕ) (distance : ℕ → ℕ) (before : List ℕ) (ps : List Pair) → k ≤ length (scan k distance before)
    → ((q : Pair) → q ∈ ps → AtMost (get_or (scan k distance before) (k - 1) least_pair) (pair_of distance q.number))
    → scan k distance (before ++ numbers_of ps) ≡ scan k distance before
unfolding numbers_of
scan_late k distance before [] full late = rw append-nil
scan_late k distance before (p ∷ ps) full late =
    rw (scan_insert k distance before p.number (numbers_of ps), scan_late k distance before ps full (λ q m. late q (Memᴰ.tail m)))
    (insert_late k (pair_of distance p.number) least_pair (scan_sorted k distance before) full (late p (Memᴰ.head refl)) ∙ scan_cut k distance before)

-- behind p they leave p in the answer
pub scan_keeps : (k : ℕ) (distance : ℕ → ℕ) (before : List ℕ) (ps : List Pair) {p : Pair}
    → ((q : Pair) → q ∈ ps → AtMost p (pair_of distance q.number)) → p ∈ scan k distance before
    → p ∈ scan k distance (before ++ numbers_of ps)
unfolding scan numbers_of
scan_keeps k distance before [] late m = rw append-nil m
scan_keeps k distance before (p ∷ ps) late m =
    rw (ranked_insert distance before p.number (numbers_of ps))
    (stays_first k (pair_of distance p.number) (ranked_sorted distance (before ++ numbers_of ps)) (late p (Memᴰ.head refl))
    (scan_keeps k distance before ps (λ q n. late q (Memᴰ.tail n)) m))

-- ---- a ranking by lows

pub ranked_lower : (low distance : ℕ → ℕ) (is : List ℕ) → LowerBound low distance is → (q : Pair) → q ∈ ranked low is
    → q.key ≤ distance q.number
ranked_lower low distance is lower q m =
    let entry = member_ranked low is m in
    rw entry.its_key (lower q.number entry.its_number)
