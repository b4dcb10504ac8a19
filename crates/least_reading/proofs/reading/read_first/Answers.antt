use Rattle.std.proofs.Common.{◌≡◌, refl, sym, ap, ◌∙◌, true, false, ℕ, ◌+◌, ◌≤◌, ◌<◌, List, length, take, get_or, set, add-one, arith, length-take, length-take-le, get_or-take, Some, None}
use Rattle.std.proofs.Math.Seq.{take-suc}
use Rattle.std.proofs.lemmas.Bool.{true≢false, false≢true}
use Rattle.order.specs.Counted.{counted_length}
use Rattle.order.specs.Ranking.{ranked_count}
use Rattle.selection.specs.Reading.{reading_order}
use Rattle.selection.proofs.Loop.{reached_first, goes_on_first}
use Rattle.best_pairs.specs.Gathered.{gathers_start, gathers_next}
use Rattle.search.specs.Search.{Index, Query, numbers_in, distance_in, low_in, in_own_cell, in_own_cells}
use Rattle.search.specs.Ready.{Ready, ordered_below}
use Rattle.least_reading.specs.Answered.{FirstReads, cells_snoc, next_outside}
use Rattle.least_reading.specs.Vector.{vector_read, tells_distance, tells_outside}
use Rattle.least_reading.proofs.reading.read_first.Invariants.{State}
use Rattle.least_reading.proofs.reading.read_first.Goals as goal

module _ {l : Index} {query : Query} {k : ℕ} (is : Ready l query k) {keys best : List ℕ} where
  begin : length keys ≡ k → length best ≡ k → State l query k 0 keys best
  unfolding in_own_cells
  begin keys_room best_room = record { within = omega arith; gathers = gathers_start keys_room best_room; inside = refl }

  module _ {done : ℕ} (at : State l query k done keys best) where
    finish : k ≤ done → FirstReads l query k true keys best
    finish all =
        let same : done ≡ k = omega (arith, at.within) in
        record {
          inside = λ _. rw same at at.inside;
          gathered = λ _. rw same at at.gathers;
          outside = λ none. absurd (true≢false none);
        }

    module _ (more : done < k) (number : ℕ) (its : number ≡ get_or (reading_order (low_in l query) (numbers_in l)) done 0) where
      below : number < l.n
      below = rw its (ordered_below l (low_in l query) done (omega (arith, is.enough)))

      long : length (reading_order (low_in l query) (numbers_in l)) ≡ l.n
      long = ranked_count (low_in l query) (numbers_in l) ∙ counted_length 0 l.n

      fails : vector_read l query number ≡ None → FirstReads l query k false keys best
      fails told =
          let enough : k ≤ length (numbers_in l) = omega (arith, is.enough, counted_length 0 l.n) in
          record {
            inside = λ none. absurd (false≢true none);
            gathered = λ none. absurd (false≢true none);
            outside = λ _.
                next_outside l query k done (omega (arith, is.enough))
                (reached_first k (low_in l query) (distance_in l query) (numbers_in l) done at.within enough)
                (goes_on_first k (low_in l query) (distance_in l query) (numbers_in l) done more (omega arith) _)
                (sym (ap (in_own_cell l) its) ∙ tells_outside (in_own_cell l number) (distance_in l query number) told);
          }

      turn : (distance : ℕ) → vector_read l query number ≡ Some distance
          → State l query k (done + 1) (set keys done distance) (set best done number)
      turn distance told =
          let tells = tells_distance (in_own_cell l number) (distance_in l query number) distance told in
          let order = reading_order (low_in l query) (numbers_in l) in
          let short : done < length order = omega (arith, long, is.enough) in
          let one = take-suc order done 0 short in
          rw add-one
          (record {
            within = omega arith;
            gathers = rw (one, ← its) (gathers_next at.gathers number done distance
                (sym (length-take-le done order (omega arith))) more tells.is);
            inside = rw (one, ← its) (cells_snoc l (take done order) number at.inside tells.in_cell_lem);
          })

-- the numbers that are read
module _ {l : Index} {query : Query} {k : ℕ} (is : Ready l query k) (order : List ℕ)
    (same : take k order ≡ take k (reading_order (low_in l query) (numbers_in l))) where
  order_long : k ≤ length order
  order_long =
      omega (
        arith,
        sym (length-take k order) ∙ ap length same ∙ length-take k (reading_order (low_in l query) (numbers_in l)),
        ranked_count (low_in l query) (numbers_in l),
        counted_length 0 l.n,
        is.enough,
      )

  its_number : {done : ℕ} → done < k → get_or order done 0 ≡ get_or (reading_order (low_in l query) (numbers_in l)) done 0
  its_number {done} more =
      sym (get_or-take k order done 0 more)
      ∙ ap (λ (o : List ℕ). get_or o done 0) same
      ∙ get_or-take k (reading_order (low_in l query) (numbers_in l)) done 0 more

pub loop-done-init : goal.loop-done-init
loop-done-init c =
    let pre = c.requires.fact in
    begin pre.0.ready pre.1 pre.2

pub bounds-order-done : goal.bounds-order-done
bounds-order-done c = omega (arith, order_long c.requires.fact.0.ready c.args.order.now c.requires.order_value)

pub read_vector-read-requires : goal.read_vector-read-requires
read_vector-read-requires c =
    let ready = c.requires.fact.0.ready in
    let more = c.loop-done-test.true in
    (c.requires.fact.0, below ready c.loop-done.invariant more _ (its_number ready c.args.order.now c.requires.order_value more))

pub returns-in_default : goal.returns-in_default
returns-in_default c =
    let ready = c.requires.fact.0.ready in
    let more = c.loop-done-test.true in
    fails ready c.loop-done.invariant more _ (its_number ready c.args.order.now c.requires.order_value more)
    (sym c.read_vector-read.ensures ∙ c.in_default.is)

pub loop-done-preserved : goal.loop-done-preserved
loop-done-preserved c =
    let ready = c.requires.fact.0.ready in
    let more = c.loop-done-test.true in
    turn ready c.loop-done.invariant more _ (its_number ready c.args.order.now c.requires.order_value more) _
    (sym c.read_vector-read.ensures ∙ c.in-Some.is)

pub returns : goal.returns
returns c = finish c.requires.fact.0.ready c.loop-done.invariant (omega arith)
