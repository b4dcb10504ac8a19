use Rattle.std.specs.Prelude.{Ok, Err}
use Rattle.std.proofs.Common.{◌≡◌, refl, sym, ap, ◌∙◌, Bool, true, false, ℕ, suc, ◌+◌, ◌-◌, ◌≤◌, ◌<◌, List, length, take, get_or, take_all, add-one, arith, length-take-le, Some, None}
use Rattle.refusal.specs.declared.Refusal.TheVariants.{Cell}
use Rattle.limits.specs.Limits.{max_vectors}
use Rattle.order.specs.Pair.{pair_of, ranked}
use Rattle.order.specs.Pairs.{pair, pairs_of}
use Rattle.order.specs.Counted.{counted_length}
use Rattle.order.specs.Ranking.{ranked_count}
use Rattle.selection.specs.Reading.{reading_order, goes_on}
use Rattle.selection.specs.Loop.{EndsBy, after}
use Rattle.selection.proofs.Loop.{reached_next, reached_stop, full_after}
use Rattle.best_pairs.specs.Kept.{Keeps}
use Rattle.best_pairs.specs.Holds.{holds_keys, holds_numbers, arrays_goes_on, arrays_next}
use Rattle.search.specs.Search.{Index, Query, numbers_in, distance_in, low_in, in_own_cell, searched}
use Rattle.search.specs.Ready.{Ready, ordered_below}
use Rattle.least_reading.specs.Aligned.{Aligned, front_is, order_room, number_at, low_at}
use Rattle.least_reading.specs.Answered.{Reads, HasRead, after_reads, reads_outside, next_in_cell, next_outside}
use Rattle.least_reading.specs.Vector.{vector_read, tells_distance, tells_outside}
use Rattle.least_reading.proofs.reading.read_rest.Goals as goal

module _ {l : Index} {query : Query} {k : ℕ} (is : Ready l query k) {lows order : List ℕ}
    (aligned : Aligned k (ranked (low_in l query) (numbers_in l)) lows order)
    (ends : EndsBy k (low_in l query) (distance_in l query) (numbers_in l) (k + length lows)) {keys best : List ℕ} {done : ℕ}
    (at : HasRead l query k done keys best) (few : done ≤ k + length lows) where
  -- nothing more is read
  reads_count : length (after_reads l query k done).reads ≡ done
  unfolding after
  reads_count =
      length-take-le done (reading_order (low_in l query) (numbers_in l))
      (omega (arith, at.within, ranked_count (low_in l query) (numbers_in l), counted_length 0 l.n))

  finish : searched l query k ≡ after_reads l query k done → Reads l query k (Ok done) order keys best
  unfolding after
  finish all = record {
    answer = rw (all, at.inside, reads_count);
    reads_are = λ _. rw (all, reads_count) (front_is aligned done few);
    keys_are = λ _. rw all (sym (take_all k keys (omega (arith, at.holds.keys_room))) ∙ holds_keys at.holds);
    numbers_are = λ _. rw all (sym (take_all k best (omega (arith, at.holds.numbers_room))) ∙ holds_numbers at.holds);
  }

  module _ (more : done < k + length lows) (number : ℕ) (got : number ≡ get_or order done 0) where
    its : number ≡ get_or (reading_order (low_in l query) (numbers_in l)) done 0
    its = got ∙ number_at aligned done more

    short : done < l.n
    short = omega (arith, ends.within, counted_length 0 l.n)

    below : number < l.n
    below = rw its (ordered_below l (low_in l query) done short)

    inside : done < length (numbers_in l)
    inside = omega (arith, ends.within)

    tested : k ≤ done → (low : ℕ) → low ≡ get_or lows (done - k) 0 → {r : Bool} → r ≡ goes_on k (take k (pairs_of keys best)) (pair low number)
        → goes_on k (after_reads l query k done).best (pair_of (low_in l query) (get_or (reading_order (low_in l query) (numbers_in l)) done 0)) ≡ r
    tested behind low is-low test =
        arrays_goes_on _ _ _ _ _ at.holds (pair low number) its
        (is-low ∙ low_at (low_in l query) (numbers_in l) aligned done behind more inside ∙ ap (low_in l query) (sym its)) test

    stop : goes_on k (after_reads l query k done).best (pair_of (low_in l query) (get_or (reading_order (low_in l query) (numbers_in l)) done 0))
        ≡ false
        → Reads l query k (Ok done) order keys best
    stop stops = finish (reached_stop _ _ _ _ _ at.reached inside stops)

    module _ (goes : goes_on k (after_reads l query k done).best
        (pair_of (low_in l query) (get_or (reading_order (low_in l query) (numbers_in l)) done 0)) ≡ true) where
      outside : vector_read l query number ≡ None → Reads l query k (Err Cell) order keys best
      outside told =
          reads_outside order keys best
          (next_outside l query k done short at.reached goes
          (sym (ap (in_own_cell l) its) ∙ tells_outside (in_own_cell l number) (distance_in l query number) told))

      turn : k ≤ done → (distance : ℕ) → vector_read l query number ≡ Some distance
          → {keys-then best-then : List ℕ} {r : ℕ} → Keeps keys best k (pair distance number) r keys-then best-then
          → HasRead l query k (done + 1) keys-then best-then
      turn full distance told {keys-then} {best-then} {r} keeps =
          let tells = tells_distance (in_own_cell l number) (distance_in l query number) distance told in
          let holds = arrays_next _ _ _ _ _ at.holds (pair distance number) its tells.is inside keeps in
          let same : r ≡ k = holds.counted ∙ full_after k (low_in l query) (distance_in l query) (numbers_in l) (suc done) (omega arith)
          inside in
          rw add-one
          (record {
            within = omega (arith, short);
            reached = reached_next _ _ _ _ _ at.reached inside goes;
            holds = rw same at holds;
            inside = next_in_cell l query k done short at.inside (sym (ap (in_own_cell l) its) ∙ tells.in_cell_lem);
          })

-- it stands in the order, as far as its low is known
module _ {l : Index} {query : Query} {k : ℕ} (is : Ready l query k) {lows order : List ℕ}
    (aligned : Aligned k (ranked (low_in l query) (numbers_in l)) lows order)
    (ends : EndsBy k (low_in l query) (distance_in l query) (numbers_in l) (k + length lows)) where
  stands : (k + length lows ≤ length order) × (k + length lows ≤ max_vectors)
  stands =
      let counted = counted_length 0 l.n in (
        order_room aligned (omega (arith, ends.within, ranked_count (low_in l query) (numbers_in l))),
        omega (arith, ends.within, counted, is.count),
      )

pub overflow_add-end : goal.overflow_add-end
overflow_add-end c = omega (arith, stands c.requires.fact.ready c.requires.fact_2 c.requires.fact_3)

pub bounds-order-done : goal.bounds-order-done
bounds-order-done c = omega (arith, stands c.requires.fact.ready c.requires.fact_2 c.requires.fact_3)

pub read_vector-read-requires : goal.read_vector-read-requires
read_vector-read-requires c =
    let pre = c.requires in
    (pre.fact, below pre.fact.ready pre.fact_2 pre.fact_3 c.loop-done.invariant (omega arith) (omega arith) _ refl)

pub returns-then-not-goes_on : goal.returns-then-not-goes_on
returns-then-not-goes_on c =
    let pre = c.requires in
    let inv = c.loop-done.invariant in
    let test = tested pre.fact.ready pre.fact_2 pre.fact_3 inv (omega arith) (omega arith) _ refl (omega arith) _ refl c.goes_on.ensures in
    stop pre.fact.ready pre.fact_2 pre.fact_3 inv (omega arith) (omega arith) _ refl (test ∙ c.if-not-goes_on.true)

pub returns-in_default : goal.returns-in_default
returns-in_default c =
    let pre = c.requires in
    let inv = c.loop-done.invariant in
    let test = tested pre.fact.ready pre.fact_2 pre.fact_3 inv (omega arith) (omega arith) _ refl (omega arith) _ refl c.goes_on.ensures in
    outside pre.fact.ready pre.fact_2 pre.fact_3 inv (omega arith) (omega arith) _ refl (test ∙ c.if-not-goes_on.false)
    (sym c.read_vector-read.ensures ∙ c.in_default.is)

pub loop-done-preserved : goal.loop-done-preserved
loop-done-preserved c =
    let pre = c.requires in
    let inv = c.loop-done.invariant in
    let test = tested pre.fact.ready pre.fact_2 pre.fact_3 inv (omega arith) (omega arith) _ refl (omega arith) _ refl c.goes_on.ensures in
    turn pre.fact.ready pre.fact_2 pre.fact_3 inv (omega arith) (omega arith) _ refl (test ∙ c.if-not-goes_on.false) (omega arith) _
    (sym c.read_vector-read.ensures ∙ c.in-Some.is)
    (c.keep.ensures.value, (c.keep.ensures.keys_after, c.keep.ensures.numbers_after))

pub returns : goal.returns
returns c =
    let pre = c.requires in
    let inv = c.loop-done.invariant in
    let all : c.loop-done.done ≡ c.args.task.now.terms.k + length c.args.lows.now = omega arith in
    rw all at (finish pre.fact.ready pre.fact_2 pre.fact_3 inv (omega arith) (rw all (pre.fact_3.whole (rw all at inv.reached))))
