use Rattle.std.proofs.Math.Path.{ap₂}
use Rattle.std.proofs.Common.{◌≡◌, refl, sym, ap, ◌∙◌, List, ◌++◌, ℕ, ◌+◌, ◌-◌, ◌≤◌, arith, length, take, drop, get_or, length-take, length-take-le, take_at, get_or-take}
use Rattle.std.proofs.Math.ListN.{length-map, get_or-append}
use Rattle.std.proofs.Math.Seq.{length_front}
use Rattle.order.specs.Pair.{Pair, sort, ranked, numbers_of, count_from}
use Rattle.order.specs.Pairs.{pair, pairs_of, keys_of}
use Rattle.order.specs.Counted.{counted_length}
use Rattle.order.specs.Rank.{key_at, ranking}
use Rattle.order.specs.Ranking.{ranked_count}
use Rattle.order.specs.Sorted.{ranked_sorted}
use Rattle.selection.specs.Reading.{least_pair, reading_order}
use Rattle.selection.specs.Loop.{EndsBy}
use Rattle.selection.specs.Candidates.{candidates}
use Rattle.selection.proofs.Candidates.{candidates_end, ranked_at}
use Rattle.best_pairs.specs.Kept.{held_at}
use Rattle.distance.specs.Values.{values_length}
use Rattle.scan.specs.Ranked.{values_ranked}
use Rattle.search.specs.Search.{Index, Query, numbers_in, distance_in, low_in}
use Rattle.least_reading.specs.Aligned.{Aligned, aligned_candidates}
use Rattle.least_reading.specs.Answered.{Lent, HasRead, after_reads, lows_room, reads_front, first_sorted, first_outside}
use Rattle.least_reading.proofs.reading.read_selected.Goals as goal

module _ {factors : List ℕ} {l : Index} {query : Query} {k : ℕ} {lows order words best : List ℕ}
    (lent : Lent factors l query k lows order words best) where
  -- the lows rank the numbers as their function does
  ranked_lows : ranked (key_at lows) (count_from 0 (length lows)) ≡ ranked (low_in l query) (numbers_in l)
  ranked_lows = rw (lent.lows_are, values_length (low_in l query) 0 l.n) (values_ranked (low_in l query) l.n)

  ranking_long : length (ranking lows) ≡ l.n
  unfolding ranking
  ranking_long = ranked_count (key_at lows) (count_from 0 (length lows)) ∙ counted_length 0 (length lows) ∙ lows_room lent

  -- ---- the first k

  module _ {selected : List ℕ} (m : ℕ) (all : m ≡ k) (is : selected ≡ take m (ranking lows)) (rest : List ℕ) where
    size : length selected ≡ k
    size = ap length is ∙ length-take-le m (ranking lows) (omega (arith, lent.prepared.ready.enough, ranking_long)) ∙ all

    front : take k (selected ++ rest) ≡ take k (reading_order (low_in l query) (numbers_in l))
    unfolding ranking
    front = take_at selected rest k size ∙ is ∙ ap₂ (λ (j : ℕ) (ps : List Pair). take j (numbers_of ps)) all ranked_lows

    last_pair : {last : ℕ} → last ≡ key_at lows (get_or (ranking lows) (m - 1) 0) → (j : ℕ) → j ≡ k
        → get_or (ranked (key_at lows) (count_from 0 (length lows))) (j - 1) least_pair ≡ pair last (get_or (selected ++ rest) (j - 1) 0)
    unfolding ranking
    last_pair {last} is_last j same =
        let some = lent.prepared.ready.some in
        let number : get_or (ranking lows) (j - 1) 0 ≡ get_or (selected ++ rest) (j - 1) 0 =
        sym (get_or-append selected rest 0 (j - 1) (omega (arith, size))
        ∙ ap (λ (s : List ℕ). get_or s (j - 1) 0) is
        ∙ get_or-take m (ranking lows) (j - 1) 0 (omega arith)) in
        let low : key_at lows (get_or (ranking lows) (j - 1) 0) ≡ last =
        ap (λ (i : ℕ). key_at lows (get_or (ranking lows) (i - 1) 0)) (same ∙ sym all) ∙ sym is_last in
        ranked_at (key_at lows) (count_from 0 (length lows)) (j - 1)
        (omega (arith, counted_length 0 (length lows), lows_room lent, lent.prepared.ready.enough))
        ∙ ap₂ (λ (x y : ℕ). pair x y) low number

  -- ---- the candidates

  module _ {keys numbers : List ℕ} (has : HasRead l query k k keys numbers) (rest : List ℕ) (j : ℕ) (same : j ≡ k) where
    -- the k-th best
    bound_is : pair (get_or (keys ++ rest) (j - 1) 0) (get_or numbers (j - 1) 0) ≡ get_or (after_reads l query k k).best (k - 1) least_pair
    bound_is =
        let some = lent.prepared.ready.some in
        let holds = has.holds in
        rw same
        (ap (λ (key : ℕ). pair key (get_or numbers (k - 1) 0)) (get_or-append keys rest 0 (k - 1) (omega (arith, holds.keys_room)))
        ∙ sym (held_at keys numbers k (k - 1) least_pair (omega (arith, holds.keys_room, holds.numbers_room)))
        ∙ ap (λ (ps : List Pair). get_or ps (k - 1) least_pair) holds.held)

    abbrev these : List Pair
    these = candidates k (ranked (low_in l query) (numbers_in l)) (get_or (after_reads l query k k).best (k - 1) least_pair)

    -- as the code finds them
    abbrev found : List Pair
    found = candidates j (ranked (key_at lows) (count_from 0 (length lows))) (pair (get_or (keys ++ rest) (j - 1) 0) (get_or numbers (j - 1) 0))

    found_these : found ≡ these
    found_these = rw (bound_is, same, ranked_lows) refl

    module _ (r : ℕ) (lows-then order-then order₁ words-then : List ℕ)
        (told : (r ≡ length found) × (take r lows-then ≡ keys_of found) × (take (j + r) order-then ≡ take j order₁ ++ numbers_of found)
        × (take j words-then ≡ take j (keys ++ rest))) where
      keys_are : take r lows-then ≡ keys_of these
      keys_are = told.1 ∙ ap keys_of found_these

      keys_count : length (take r lows-then) ≡ length these
      unfolding keys_of
      keys_count = ap length keys_are ∙ length-map these (λ p. p.key)

      count : r ≡ length these
      count = told.0 ∙ ap length found_these

      fits : r ≤ length lows-then
      fits = omega (arith, count, keys_count, length-take r lows-then)

      aligned : take k order₁ ≡ take k (reading_order (low_in l query) (numbers_in l))
          → Aligned k (ranked (low_in l query) (numbers_in l)) (take r lows-then) order-then
      aligned first_k =
          let numbers_are : take (k + length these) order-then
          ≡ take k order₁ ++ numbers_of these = rw (found_these, same, count) at told.2 in
          aligned_candidates k (ranked_sorted (low_in l query) (numbers_in l)) (get_or (after_reads l query k k).best (k - 1) least_pair)
          keys_are
          (numbers_are ∙ ap (λ (front : List ℕ). front ++ numbers_of these) first_k)

      ends : EndsBy k (low_in l query) (distance_in l query) (numbers_in l) (k + length (take r lows-then))
      ends =
          rw keys_count
          (candidates_end k (low_in l query) (distance_in l query) (numbers_in l) lent.prepared.ready.some
          (omega (arith, lent.prepared.ready.enough, counted_length 0 l.n)))

      -- the best stand still where they stood
      still : HasRead l query k k (take k words-then) numbers
      still =
          let front : take k words-then ≡ keys = (rw same at told.3) ∙ take_at keys rest k has.holds.keys_room in
          rw front has

pub select_first-last-requires : goal.select_first-last-requires
select_first-last-requires c =
    let lent = c.requires.fact in
    let ready = lent.prepared.ready in
    let k = c.args.task.now.terms.k in
    let size = length-take-le k c.args.order.now (omega (arith, lent.order_room, ready.enough)) in
    let room = length-take-le k c.args.words.now (omega (arith, lent.words_room, ready.enough)) in
    let long = lows_room lent in (
      omega (arith, size, ready.some),
      omega (arith, size, c.requires.k_le_most_selected),
      omega (arith, size, long, ready.enough),
      omega (arith, long, ready.count),
      room ∙ sym size,
    )

pub read_first-requires : goal.read_first-requires
read_first-requires c =
    let lent = c.requires.fact in
    let ready = lent.prepared.ready in
    let k = c.args.task.now.terms.k in
    let chosen = c.select_first-last in
    let words-long = length_front c.args.words.now chosen.new.least k chosen.auto.least in
    let first-count = length-take-le k c.args.order.now (omega (arith, lent.order_room, ready.enough)) in
    record {
      fact = (
        lent.prepared,
        length-take-le _ _ (omega (arith, words-long, lent.words_room, ready.enough)),
        lent.best_room,
      );
      order_value = front lent _ first-count chosen.ensures.first_after _;
    }

pub returns-then-not-read_first : goal.returns-then-not-read_first
returns-then-not-read_first c = first_outside c.read_first.ensures c.if-not-read_first.true _ _ _

pub sort_few-requires : goal.sort_few-requires
sort_few-requires c =
    let lent = c.requires.fact in
    let ready = lent.prepared.ready in
    let k = c.args.task.now.terms.k in
    let chosen = c.select_first-last in
    let words-long = length_front c.args.words.now chosen.new.least k chosen.auto.least in
    let read = c.read_first in
    let keys-long = read.auto.keys ∙ length-take-le k (chosen.new.least ++ drop k c.args.words.now) (omega (arith, words-long, lent.words_room, ready.enough)) in
    let best-long = read.auto.best ∙ lent.best_room in
    let rest = drop k (chosen.new.least ++ drop k c.args.words.now) in
    let words-long-2 = length_front (chosen.new.least ++ drop k c.args.words.now) read.new.keys k read.auto.keys ∙ words-long in
    let size = length-take-le k (read.new.keys ++ rest) (omega (arith, words-long-2, lent.words_room, ready.enough)) in (
      omega (arith, size, ready.some),
      omega (arith, size, c.requires.k_le_most_selected),
      best-long ∙ sym size,
    )

pub rank_candidates-count-requires : goal.rank_candidates-count-requires
rank_candidates-count-requires c =
    let lent = c.requires.fact in
    let ready = lent.prepared.ready in
    let k = c.args.task.now.terms.k in
    let chosen = c.select_first-last in
    let words-long = length_front c.args.words.now chosen.new.least k chosen.auto.least in
    let read = c.read_first in
    let keys-long = read.auto.keys ∙ length-take-le k (chosen.new.least ++ drop k c.args.words.now) (omega (arith, words-long, lent.words_room, ready.enough)) in
    let best-long = read.auto.best ∙ lent.best_room in
    let rest = drop k (chosen.new.least ++ drop k c.args.words.now) in
    let words-long-2 = length_front (chosen.new.least ++ drop k c.args.words.now) read.new.keys k read.auto.keys ∙ words-long in
    let front-is = take_at read.new.keys rest k keys-long in
    let sorted = c.sort_few in
    let has =
    first_sorted read.ensures ready c.if-not-read_first.false
    (sorted.ensures.keys_after ∙ ap (λ (keys : List ℕ). keys_of (sort (pairs_of keys read.new.best))) front-is)
    (sorted.ensures.numbers_after ∙ ap (λ (keys : List ℕ). numbers_of (sort (pairs_of keys read.new.best))) front-is) in
    let size = sorted.auto.numbers ∙ best-long in
    let words-long-3 = length_front (read.new.keys ++ rest) sorted.new.keys k sorted.auto.keys ∙ words-long-2 in
    let first-count = length-take-le k c.args.order.now (omega (arith, lent.order_room, ready.enough)) in
    let order-long = length_front c.args.order.now chosen.new.first k chosen.auto.first in
    let long = lows_room lent in
    record {
      in_bounds = (
        omega (arith, size, ready.some),
        omega (arith, size, long, ready.enough),
        omega (arith, long, ready.count),
        order-long ∙ lent.order_room ∙ sym long,
        words-long-3 ∙ lent.words_room ∙ sym long,
      );
      least_pair_value = last_pair lent _ first-count chosen.ensures.first_after _ chosen.ensures.value _ size;
    }

pub slice_bounds-read_rest-end : goal.slice_bounds-read_rest-end
slice_bounds-read_rest-end c =
    let lent = c.requires.fact in
    let ready = lent.prepared.ready in
    let k = c.args.task.now.terms.k in
    let chosen = c.select_first-last in
    let words-long = length_front c.args.words.now chosen.new.least k chosen.auto.least in
    let read = c.read_first in
    let keys-long = read.auto.keys ∙ length-take-le k (chosen.new.least ++ drop k c.args.words.now) (omega (arith, words-long, lent.words_room, ready.enough)) in
    let best-long = read.auto.best ∙ lent.best_room in
    let rest = drop k (chosen.new.least ++ drop k c.args.words.now) in
    let words-long-2 = length_front (chosen.new.least ++ drop k c.args.words.now) read.new.keys k read.auto.keys ∙ words-long in
    let front-is = take_at read.new.keys rest k keys-long in
    let sorted = c.sort_few in
    let has =
    first_sorted read.ensures ready c.if-not-read_first.false
    (sorted.ensures.keys_after ∙ ap (λ (keys : List ℕ). keys_of (sort (pairs_of keys read.new.best))) front-is)
    (sorted.ensures.numbers_after ∙ ap (λ (keys : List ℕ). numbers_of (sort (pairs_of keys read.new.best))) front-is) in
    let size = sorted.auto.numbers ∙ best-long in
    let words-long-3 = length_front (read.new.keys ++ rest) sorted.new.keys k sorted.auto.keys ∙ words-long-2 in
    let first-count = length-take-le k c.args.order.now (omega (arith, lent.order_room, ready.enough)) in
    fits lent has _ _ size _ _ _ _ _ c.rank_candidates-count.ensures

pub slice_bounds-read_rest-end-2 : goal.slice_bounds-read_rest-end-2
slice_bounds-read_rest-end-2 c =
    let lent = c.requires.fact in
    let ready = lent.prepared.ready in
    let k = c.args.task.now.terms.k in
    let chosen = c.select_first-last in
    let words-long = length_front c.args.words.now chosen.new.least k chosen.auto.least in
    let read = c.read_first in
    let keys-long = read.auto.keys ∙ length-take-le k (chosen.new.least ++ drop k c.args.words.now) (omega (arith, words-long, lent.words_room, ready.enough)) in
    let best-long = read.auto.best ∙ lent.best_room in
    let rest = drop k (chosen.new.least ++ drop k c.args.words.now) in
    let words-long-2 = length_front (chosen.new.least ++ drop k c.args.words.now) read.new.keys k read.auto.keys ∙ words-long in
    let front-is = take_at read.new.keys rest k keys-long in
    let sorted = c.sort_few in
    let has =
    first_sorted read.ensures ready c.if-not-read_first.false
    (sorted.ensures.keys_after ∙ ap (λ (keys : List ℕ). keys_of (sort (pairs_of keys read.new.best))) front-is)
    (sorted.ensures.numbers_after ∙ ap (λ (keys : List ℕ). numbers_of (sort (pairs_of keys read.new.best))) front-is) in
    let size = sorted.auto.numbers ∙ best-long in
    let words-long-3 = length_front (read.new.keys ++ rest) sorted.new.keys k sorted.auto.keys ∙ words-long-2 in
    let first-count = length-take-le k c.args.order.now (omega (arith, lent.order_room, ready.enough)) in
    sym (length-take-le _ _ (fits lent has _ _ size _ _ _ _ _ c.rank_candidates-count.ensures))

pub read_rest-requires : goal.read_rest-requires
read_rest-requires c =
    let lent = c.requires.fact in
    let ready = lent.prepared.ready in
    let k = c.args.task.now.terms.k in
    let chosen = c.select_first-last in
    let words-long = length_front c.args.words.now chosen.new.least k chosen.auto.least in
    let read = c.read_first in
    let keys-long = read.auto.keys ∙ length-take-le k (chosen.new.least ++ drop k c.args.words.now) (omega (arith, words-long, lent.words_room, ready.enough)) in
    let best-long = read.auto.best ∙ lent.best_room in
    let rest = drop k (chosen.new.least ++ drop k c.args.words.now) in
    let words-long-2 = length_front (chosen.new.least ++ drop k c.args.words.now) read.new.keys k read.auto.keys ∙ words-long in
    let front-is = take_at read.new.keys rest k keys-long in
    let sorted = c.sort_few in
    let has =
    first_sorted read.ensures ready c.if-not-read_first.false
    (sorted.ensures.keys_after ∙ ap (λ (keys : List ℕ). keys_of (sort (pairs_of keys read.new.best))) front-is)
    (sorted.ensures.numbers_after ∙ ap (λ (keys : List ℕ). numbers_of (sort (pairs_of keys read.new.best))) front-is) in
    let size = sorted.auto.numbers ∙ best-long in
    let words-long-3 = length_front (read.new.keys ++ rest) sorted.new.keys k sorted.auto.keys ∙ words-long-2 in
    let first-count = length-take-le k c.args.order.now (omega (arith, lent.order_room, ready.enough)) in
    let told = c.rank_candidates-count.ensures in
    record {
      fact = lent.prepared;
      fact_2 = aligned lent has _ _ size _ _ _ _ _ told (front lent _ first-count chosen.ensures.first_after _);
      fact_3 = ends lent has _ _ size _ _ _ _ _ told;
      fact_4 = still lent has _ _ size _ _ _ _ _ told;
    }

pub returns : goal.returns
returns c =
    let lent = c.requires.fact in
    let ready = lent.prepared.ready in
    let k = c.args.task.now.terms.k in
    let chosen = c.select_first-last in
    let words-long = length_front c.args.words.now chosen.new.least k chosen.auto.least in
    let read = c.read_first in
    let keys-long = read.auto.keys ∙ length-take-le k (chosen.new.least ++ drop k c.args.words.now) (omega (arith, words-long, lent.words_room, ready.enough)) in
    let best-long = read.auto.best ∙ lent.best_room in
    let rest = drop k (chosen.new.least ++ drop k c.args.words.now) in
    let words-long-2 = length_front (chosen.new.least ++ drop k c.args.words.now) read.new.keys k read.auto.keys ∙ words-long in
    let sorted = c.sort_few in
    let words-long-3 = length_front (read.new.keys ++ rest) sorted.new.keys k sorted.auto.keys ∙ words-long-2 in
    reads_front _ c.read_rest.ensures
    (c.read_rest.auto.keys ∙ length-take-le _ _ (omega (arith, c.rank_candidates-count.auto.words, words-long-3, lent.words_room, ready.enough)))
