use Rattle.std.proofs.Common.{◌≡◌, sym, ap, ap₂, ◌∙◌, ℕ, ◌+◌, ◌-◌, ◌≤◌, List, ◌++◌, map, length, take, drop, get_or, length-drop, length-take, length-take-le, take_at, drop_at, arith}
use Rattle.std.proofs.lemmas.List.{length-map, take-append-le}
use lib.Seq.{take-append-add}
use borrow.Rule.Slice.PartMut.{put_mid, take_put, same_len_mid}
use Rattle.refusal.specs.First.{first, outcome}
use Rattle.order.specs.Pair.{Pair, sort, ranked, numbers_of, count_from}
use Rattle.order.specs.Pairs.{pair, pairs_of, keys_of, numbers_of_map}
use Rattle.order.specs.Rank.{key_at, pair_causes, sort_leaves}
use Rattle.order.specs.Counted.{counted_length, counted_distinct}
use Rattle.order.specs.Insertion.{length_ranked}
use Rattle.order.specs.Sorted.{ranked_sorted}
use Rattle.selection.specs.Reading.{least_pair}
use Rattle.selection.specs.Candidates.{candidates, is_candidate, numbers_passing}
use Rattle.selection.proofs.Candidates.{ranked_candidates, candidates_fit}
use Rattle.best_pairs.specs.Gathered.{with_keys}
use Rattle.least_reading.proofs.candidates.rank_candidates.Goals as goal

-- ---- a list with a part put in

module _ (k m : ℕ) (xs ys : List ℕ) (within : k ≤ length xs) where
  put_part : (r : ℕ) → r ≤ length ys → take r (drop k (put_mid k m xs ys)) ≡ take r ys
  put_part r few =
      ap (take r) (drop_at (take k xs) (ys ++ drop m (drop k xs)) k (length-take-le k xs within))
      ∙ take-append-le r ys (drop m (drop k xs)) few

  put_front : (r : ℕ) → length ys ≡ r → take (k + r) (put_mid k m xs ys) ≡ take k xs ++ ys
  put_front r size =
      ap (λ (n : ℕ). take (n + r) (put_mid k m xs ys)) (sym (length-take-le k xs within))
      ∙ take-append-add (take k xs) (ys ++ drop m (drop k xs)) r
      ∙ ap (λ (front : List ℕ). take k xs ++ front) (take_at ys (drop m (drop k xs)) r size)

-- ---- the numbers that pass and the candidates

module _ (lows : List ℕ) (k last number : ℕ) (bound : Pair) (some : 1 ≤ k) (enough : k ≤ length lows)
    (its : get_or (ranked (key_at lows) (count_from 0 (length lows))) (k - 1) least_pair ≡ pair last number) where
  abbrev all : List ℕ
  all = numbers_passing (is_candidate (pair last number) bound) (key_at lows) (count_from 0 (length lows))

  abbrev these : List Pair
  these = candidates k (ranked (key_at lows) (count_from 0 (length lows))) bound

  ranked_all : ranked (key_at lows) all ≡ these
  ranked_all =
      rw its at
      (ranked_candidates k (key_at lows) (count_from 0 (length lows)) bound some (omega (arith, counted_length 0 (length lows)))
      (counted_distinct 0 (length lows)))

  count : length all ≡ length these
  count = sym (length_ranked (key_at lows) all) ∙ ap length ranked_all

  fit : k + length all ≤ length lows
  fit =
      omega (
        arith,
        count,
        candidates_fit k (ranked_sorted (key_at lows) (count_from 0 (length lows))) bound,
        length_ranked (key_at lows) (count_from 0 (length lows)),
        counted_length 0 (length lows),
      )

  sorted_all : {keys numbers : List ℕ} → keys ≡ map (key_at lows) all → numbers ≡ all → sort (pairs_of keys numbers) ≡ these
  unfolding ranked
  sorted_all are-keys are-numbers = rw (are-keys, are-numbers, with_keys (key_at lows) all) ranked_all

  -- what is gathered and sorted
  module _ (order words : List ℕ) (of-order : length order ≡ length lows) (of_words : length words ≡ length lows) (lows₁ numbers₁ : List ℕ)
      (r : ℕ) (gathered : (r ≡ length all) × (take r lows₁ ≡ map (key_at lows) all) × (take r numbers₁ ≡ all))
      (room : length numbers₁ ≡ length (take (length order - k) (drop k order))) where
    abbrev order₁ : List ℕ
    order₁ = put_mid k (length order - k) order numbers₁

    room_is : length numbers₁ ≡ length lows - k
    room_is = omega (arith, room, length-take (length order - k) (drop k order), length-drop k order)

    part : take (k + r - k) (drop k order₁) ≡ all
    part =
        let same : k + r - k ≡ r = omega arith in
        rw same
        (put_part k (length order - k) order numbers₁ (omega arith) r (omega (arith, room_is, fit, gathered.0)) ∙ gathered.2)

    long : length order₁ ≡ length lows
    long = same_len_mid k (length order - k) order numbers₁ room ∙ of-order

    of_sorted : (of : List Pair → List ℕ) (old : List ℕ) {new : List ℕ}
        → new ≡ outcome (first (pair_causes (length (take r lows₁)) (length (take (k + r - k) (drop k order₁)))
        (length (take (length words - k) (drop k words))))) (of (sort (pairs_of (take r lows₁) (take (k + r - k) (drop k order₁)))))
        (λ _. old)
        → new ≡ of these
    of_sorted of old is =
        let keys_count : length (take r lows₁) ≡ length all = ap length gathered.1 ∙ length-map all (key_at lows) in
        let words_count : length (take (length words - k) (drop k words)) ≡ length lows - k =
        omega (arith, length-take (length words - k) (drop k words), length-drop k words) in
        sort_leaves of (take r lows₁) (take (k + r - k) (drop k order₁)) old _ (ap length part ∙ sym keys_count)
        (omega (arith, keys_count, words_count, fit)) is
        ∙ ap of (sorted_all gathered.1 part)

    answer : {keys numbers : List ℕ} (back : List ℕ) → keys ≡ keys_of these → numbers ≡ numbers_of these
        → (r ≡ length these) × (take r (keys ++ drop r lows₁) ≡ keys_of these)
        × (take (k + r) (put_mid k (k + r - k) order₁ numbers) ≡ take k order ++ numbers_of these)
        × (take k (put_mid k (length words - k) words back) ≡ take k words)
    unfolding keys_of
    answer {keys} {numbers} back are-keys are-numbers =
        let size : r ≡ length these = gathered.0 ∙ count in (
          size,
          take_at keys (drop r lows₁) r (ap length are-keys ∙ length-map these (λ p. p.key) ∙ sym size) ∙ are-keys,
          put_front k (k + r - k) order₁ numbers (omega (arith, long)) r
              (ap length are-numbers ∙ ap length (numbers_of_map these) ∙ length-map these (λ p. p.number) ∙ sym size)
              ∙ ap₂ (λ (front back : List ℕ). front ++ back) (take_put k (length order - k) order numbers₁ (omega arith)) are-numbers,
          take_put k (length words - k) words back (omega arith),
        )

-- ---- the goals

-- what was gathered fits behind the first
pub gather-count-requires : goal.gather-count-requires
gather-count-requires c =
    let a = c.args in
    let in_bounds = c.requires.in_bounds in
    let k = length a.best.now in
    let bound = pair (get_or a.words.now (k - 1) 0) (get_or a.best.now (k - 1) 0) in (
      in_bounds.2,
      omega (
        arith,
        fit a.lows.now k a.last (get_or a.order.now (k - 1) 0) bound in_bounds.0 in_bounds.1 c.requires.least_pair_value,
        in_bounds,
        length-take (length a.order.now - k) (drop k a.order.now),
        length-drop k a.order.now,
      ),
    )

pub returns : goal.returns
returns c =
    let a = c.args in
    let in_bounds = c.requires.in_bounds in
    let its = c.requires.least_pair_value in
    let k = length a.best.now in
    let bound = pair (get_or a.words.now (k - 1) 0) (get_or a.best.now (k - 1) 0) in
    let number = get_or a.order.now (k - 1) 0 in
    let gathered = c.gather-count in
    let lows₁ = gathered.new.lows in
    let numbers₁ = gathered.new.numbers in
    let are-keys =
    of_sorted a.lows.now k a.last number bound in_bounds.0 in_bounds.1 its a.order.now a.words.now in_bounds.3 in_bounds.4 lows₁ numbers₁
    gathered.result gathered.ensures gathered.auto.numbers keys_of _ c.sort.ensures.keys_after in
    let are-numbers =
    of_sorted a.lows.now k a.last number bound in_bounds.0 in_bounds.1 its a.order.now a.words.now in_bounds.3 in_bounds.4 lows₁ numbers₁
    gathered.result gathered.ensures gathered.auto.numbers numbers_of _ c.sort.ensures.numbers_after in
    answer a.lows.now k a.last number bound in_bounds.0 in_bounds.1 its a.order.now a.words.now in_bounds.3 in_bounds.4 lows₁ numbers₁
    gathered.result gathered.ensures gathered.auto.numbers c.sort.new.words are-keys are-numbers
