use Rattle.std.proofs.Common.{◌≡◌, sym, ap, ◌∙◌, List, ◌++◌, ℕ, ◌+◌, ◌-◌, ◌≤◌, arith, length, take, drop, length-append, length-drop, length-take-le, take_at, take_all, drop_at}
use Rattle.std.proofs.Math.ListN.{length-map}
use Rattle.std.proofs.Math.Seq.{length_front}
use Rattle.refusal.specs.First.{first, outcome}
use Rattle.order.specs.Pair.{Pair, sort, ranked, numbers_of, count_from}
use Rattle.order.specs.Pairs.{pairs_of, keys_of}
use Rattle.order.specs.Counted.{counted_length}
use Rattle.order.specs.Insertion.{length_ranked}
use Rattle.order.specs.Rank.{pair_causes, sort_leaves}
use Rattle.selection.specs.Loop.{EndsBy}
use Rattle.selection.proofs.Loop.{ends_all}
use Rattle.scan.specs.Ranked.{values_sorted}
use Rattle.search.specs.Search.{Index, Query, numbers_in, distance_in, low_in}
use Rattle.least_reading.specs.Aligned.{Aligned, aligned_all}
use Rattle.least_reading.specs.Answered.{Lent, lows_room, reads_front, first_sorted, first_outside}
use Rattle.least_reading.proofs.reading.read_ranked.Goals as goal

-- the best sorted, their keys as the front of a longer list
front_sorted : (of : List Pair → List ℕ) (keys best rest old : List ℕ) (k spare : ℕ) {new : List ℕ} → length keys ≡ k → length best ≡ k
    → spare ≡ k
    → new ≡ outcome (first (pair_causes (length (take k (keys ++ rest))) (length best) spare))
    (of (sort (pairs_of (take k (keys ++ rest)) best))) (λ _. old)
    → new ≡ of (sort (pairs_of keys best))
front_sorted of keys best rest old k spare of_keys of-best of-spare is =
    let front : take k (keys ++ rest) ≡ keys = take_at keys rest k of_keys in
    sort_leaves of keys best old spare (of-best ∙ sym of_keys) (omega arith) (rw front at is)

module _ {factors : List ℕ} {l : Index} {query : Query} {k : ℕ} {lows order words best : List ℕ}
    (lent : Lent factors l query k lows order words best) where
  -- the numbers counted up and sorted by their lows
  of_ranked : (of : List Pair → List ℕ) (old counted : List ℕ) {new : List ℕ} → counted ≡ count_from 0 (length order)
      → new ≡ outcome (first (pair_causes (length lows) (length counted) (length words))) (of (sort (pairs_of lows counted))) (λ _. old)
      → new ≡ of (ranked (low_in l query) (numbers_in l))
  of_ranked of old counted up is =
      let n = l.n in
      let many : counted ≡ count_from 0 n = up ∙ ap (count_from 0) lent.order_room in
      let long : length lows ≡ n = lows_room lent in
      sort_leaves of lows counted old (length words) (ap length many ∙ counted_length 0 n ∙ sym long) (omega (arith, lent.words_room)) is
      ∙ rw (lent.lows_are, many) (ap of (values_sorted (low_in l query) n))

  module _ {lows₂ order₂ : List ℕ} (back : List ℕ) (of-lows : lows₂ ≡ keys_of (ranked (low_in l query) (numbers_in l)))
      (of-order : order₂ ≡ numbers_of (ranked (low_in l query) (numbers_in l))) (size : length back ≡ k) where
    long : length lows₂ ≡ l.n
    unfolding keys_of
    long =
        ap length of-lows ∙ length-map (ranked (low_in l query) (numbers_in l)) (λ p. p.key)
        ∙ length_ranked (low_in l query) (numbers_in l) ∙ counted_length 0 l.n

    -- the lows behind the first k
    behind : take (length (back ++ drop k lows₂) - k) (drop k (back ++ drop k lows₂)) ≡ drop k lows₂
    behind =
        ap (take (length (back ++ drop k lows₂) - k)) (drop_at back (drop k lows₂) k size)
        ∙ take_all (length (back ++ drop k lows₂) - k) (drop k lows₂) (omega (arith, length-append back (drop k lows₂), size))

    aligned : Aligned k (ranked (low_in l query) (numbers_in l)) (take (length (back ++ drop k lows₂) - k) (drop k (back ++ drop k lows₂)))
        order₂
    aligned = aligned_all of-order (behind ∙ ap (drop k) of-lows)

    ends : EndsBy k (low_in l query) (distance_in l query) (numbers_in l)
        (k + length (take (length (back ++ drop k lows₂) - k) (drop k (back ++ drop k lows₂))))
    ends =
        let enough : k ≤ length (numbers_in l) = omega (arith, lent.prepared.ready.enough, counted_length 0 l.n) in
        let all : k + length (take (length (back ++ drop k lows₂) - k) (drop k (back ++ drop k lows₂))) ≡ length (numbers_in l) =
        omega (arith, ap length behind ∙ length-drop k lows₂, long, counted_length 0 l.n, lent.prepared.ready.enough) in
        rw all (ends_all k (low_in l query) (distance_in l query) (numbers_in l) enough)

pub count_up-requires : goal.count_up-requires
count_up-requires c = omega (arith, c.requires.order_room, c.requires.prepared.ready.count)

pub read_first-requires : goal.read_first-requires
read_first-requires c =
    let lent = c.requires in
    let ready = lent.prepared.ready in
    let k = c.args.task.now.terms.k in
    let ranks = c.sort in
    let order-is = of_ranked lent numbers_of _ _ c.count_up.ensures ranks.ensures.numbers_after in
    let lows-are = of_ranked lent keys_of _ _ c.count_up.ensures ranks.ensures.keys_after in
    record {
      fact = (
        lent.prepared,
        length-take-le _ _ (omega (arith, ranks.auto.words, lent.words_room, ready.enough)),
        lent.best_room,
      );
      order_value = ap (take k) order-is;
    }

pub returns-then-not-read_first : goal.returns-then-not-read_first
returns-then-not-read_first c = first_outside c.read_first.ensures c.if-not-read_first.true _ _ _

pub slice_bounds-sort-end-3 : goal.slice_bounds-sort-end-3
slice_bounds-sort-end-3 c = omega (arith, c.sort.auto.keys, c.requires.prepared.ready.enough, lows_room c.requires)

pub slice_bounds-sort-end-4 : goal.slice_bounds-sort-end-4
slice_bounds-sort-end-4 c =
    sym (length-take-le _ _ (omega (arith, c.sort.auto.keys, c.requires.prepared.ready.enough, lows_room c.requires)))

pub slice_bounds-read_rest-count : goal.slice_bounds-read_rest-count
slice_bounds-read_rest-count c =
    let lows-long = length_front c.sort.new.keys c.sort-2.new.words c.args.task.now.terms.k c.sort-2.auto.words ∙ c.sort.auto.keys in
    omega (arith, lows-long, lows_room c.requires, c.requires.prepared.ready.enough)

pub slice_bounds-read_rest-start : goal.slice_bounds-read_rest-start
slice_bounds-read_rest-start c =
    let lows-long = length_front c.sort.new.keys c.sort-2.new.words c.args.task.now.terms.k c.sort-2.auto.words ∙ c.sort.auto.keys in
    omega (arith, lows-long, lows_room c.requires, c.requires.prepared.ready.enough)

pub read_rest-requires : goal.read_rest-requires
read_rest-requires c =
    let lent = c.requires in
    let ready = lent.prepared.ready in
    let k = c.args.task.now.terms.k in
    let ranks = c.sort in
    let order-is = of_ranked lent numbers_of _ _ c.count_up.ensures ranks.ensures.numbers_after in
    let lows-are = of_ranked lent keys_of _ _ c.count_up.ensures ranks.ensures.keys_after in
    let words-held = length-take-le k ranks.new.words (omega (arith, ranks.auto.words, lent.words_room, ready.enough)) in
    let read = c.read_first in
    let keys-long = read.auto.keys ∙ words-held in
    let best-long = read.auto.best ∙ lent.best_room in
    let words-long = length_front ranks.new.words read.new.keys k read.auto.keys ∙ ranks.auto.words in
    let room = length-take-le k ranks.new.keys (omega (arith, ranks.auto.keys, ready.enough, lows_room lent)) in
    let sorts = c.sort-2 in
    let back-long = sorts.auto.words ∙ room in
    let words-long-2 = length_front (read.new.keys ++ drop k ranks.new.words) sorts.new.keys k sorts.auto.keys ∙ words-long in
    let keys-long-2 = sorts.auto.keys ∙ length-take-le k (read.new.keys ++ drop k ranks.new.words) (omega (arith, words-long, lent.words_room, ready.enough)) in
    let has =
    first_sorted read.ensures ready c.if-not-read_first.false
    (front_sorted keys_of read.new.keys read.new.best _ _ k _ keys-long best-long room sorts.ensures.keys_after)
    (front_sorted numbers_of read.new.keys read.new.best _ _ k _ keys-long best-long room sorts.ensures.numbers_after) in
    record {
      fact = lent.prepared;
      fact_2 = aligned lent sorts.new.words lows-are order-is back-long;
      fact_3 = ends lent sorts.new.words lows-are order-is back-long;
      fact_4 = rw (take_at sorts.new.keys _ _ keys-long-2) has;
    }

pub returns : goal.returns
returns c =
    let lent = c.requires in
    let ready = lent.prepared.ready in
    let k = c.args.task.now.terms.k in
    let ranks = c.sort in
    let order-is = of_ranked lent numbers_of _ _ c.count_up.ensures ranks.ensures.numbers_after in
    let lows-are = of_ranked lent keys_of _ _ c.count_up.ensures ranks.ensures.keys_after in
    let words-held = length-take-le k ranks.new.words (omega (arith, ranks.auto.words, lent.words_room, ready.enough)) in
    let read = c.read_first in
    let keys-long = read.auto.keys ∙ words-held in
    let best-long = read.auto.best ∙ lent.best_room in
    let words-long = length_front ranks.new.words read.new.keys k read.auto.keys ∙ ranks.auto.words in
    let room = length-take-le k ranks.new.keys (omega (arith, ranks.auto.keys, ready.enough, lows_room lent)) in
    let sorts = c.sort-2 in
    let back-long = sorts.auto.words ∙ room in
    let words-long-2 = length_front (read.new.keys ++ drop k ranks.new.words) sorts.new.keys k sorts.auto.keys ∙ words-long in
    reads_front _ c.read_rest.ensures
    (c.read_rest.auto.keys ∙ length-take-le _ _ (omega (arith, words-long-2, lent.words_room, ready.enough)))
