use Rattle.std.proofs.Common.{◌≡◌, refl, sym, ap, ◌∙◌, Bool, true, false, cond, ℕ, suc, ◌+◌, ◌-◌, ◌≤◌, ◌<◌, List, [], ◌∷◌, ◌++◌, map, length, take, drop, get_or, set, append-nil, add-one, arith, length-append, length-set, length-take-le, get_or-drop, drop-drop}
use lib.Seq.{append_snoc, drop-set-lt}
use Rattle.order.specs.Pair.{Pair, pair_of, count_from}
use Rattle.order.specs.Pairs.{pair}
use Rattle.order.specs.Rank.{key_at}
use Rattle.selection.specs.Candidates.{is_candidate, numbers_passing}
use Rattle.best_pairs.specs.Gathered.{write_next, map_snoc}
use Rattle.least_reading.proofs.candidates.gather.Invariants.{all, State}
use Rattle.least_reading.proofs.candidates.gather.Goals as goal
use Rattle.least_reading.proofs.candidates.gather.Goals.{then-is_candidate, else-is_candidate}

begin : (test : Pair → Bool) (lows numbers : List ℕ) → State test lows (length numbers) lows numbers 0 0
begin test lows numbers =
    let none : length lows - 0 ≡ length lows = omega arith in
    record {
      few = omega arith;
      within = omega arith;
      same = refl;
      rooms = refl;
      held = omega arith;
      ahead = refl;
      keys = refl;
      rest = rw none refl;
    }

module _ {test : Pair → Bool} {lows₀ : List ℕ} {room : ℕ} {lows numbers : List ℕ} {count i : ℕ}
    (at : State test lows₀ room lows numbers count i) where
  finish : length lows₀ ≤ i → (count ≡ length (all test lows₀)) × (take count lows ≡ map (key_at lows₀) (all test lows₀))
      × (take count numbers ≡ all test lows₀)
  unfolding numbers_passing count_from
  finish done =
      let none : length lows₀ - i ≡ 0 = omega arith in
      let gathered : take count numbers ≡ all test lows₀ = sym (append-nil (take count numbers)) ∙ (rw none at at.rest) in (
        sym (length-take-le count numbers (omega (arith, at.held, at.rooms))) ∙ ap length gathered,
        at.keys ∙ ap (map (key_at lows₀)) gathered,
        gathered,
      )

  module _ (taken : i < length lows) where
    more : i < length lows₀
    more = omega (arith, at.same)

    -- the numbers from i on without i
    later : List ℕ
    later = numbers_passing test (key_at lows₀) (count_from (i + 1) (length lows₀ - (i + 1)))

    split : numbers_passing test (key_at lows₀) (count_from i (length lows₀ - i)) ≡ cond (test (pair_of (key_at lows₀) i)) (i ∷ later) later
    unfolding numbers_passing count_from later
    split =
        let one : length lows₀ - i ≡ suc (length lows₀ - (i + 1)) = omega (arith, more) in
        rw (one, add-one) refl

    its_low : get_or lows i 0 ≡ key_at lows₀ i
    its_low =
        let here : i + 0 ≡ i = omega arith in
        rw here at (sym (get_or-drop i lows 0 0) ∙ ap (λ (l : List ℕ). get_or l 0 0) at.ahead ∙ get_or-drop i lows₀ 0 0)

    ahead_next : drop (i + 1) lows ≡ drop (i + 1) lows₀
    ahead_next = sym (drop-drop 1 i lows) ∙ ap (λ (l : List ℕ). drop 1 l) at.ahead ∙ drop-drop 1 i lows₀

    fails : test (pair_of (key_at lows₀) i) ≡ false → State test lows₀ room lows numbers count (i + 1)
    unfolding later
    fails out = record {
      few = omega (arith, at.few);
      within = omega (arith, more);
      same = at.same;
      rooms = at.rooms;
      held = at.held;
      ahead = ahead_next;
      keys = at.keys;
      rest = rw (split, out) at at.rest;
    }

    module _ (fit : length (all test lows₀) ≤ room) (passes : test (pair_of (key_at lows₀) i) ≡ true) where
      gathered : take count numbers ++ (i ∷ later) ≡ all test lows₀
      gathered = rw (split, passes) at at.rest

      room_left : count < room
      room_left =
          omega (
            arith,
            ap length gathered,
            length-append (take count numbers) (i ∷ later),
            length-take-le count numbers (omega (arith, at.held, at.rooms)),
          )

      takes : State test lows₀ room (set lows count (get_or lows i 0)) (set numbers count i) (count + 1) (i + 1)
      unfolding later
      takes =
          let size : count ≡ length (take count numbers) = sym (length-take-le count numbers (omega (arith, at.held, at.rooms))) in
          let front : take (count + 1) (set numbers count i) ≡ take count numbers ++ (i ∷ []) =
          write_next (take count numbers) numbers count i size (omega (arith, room_left, at.rooms)) refl in
          record {
            few = omega (arith, at.few);
            within = omega (arith, more);
            same = simp length-set at.same;
            rooms = simp length-set at.rooms;
            held = omega (arith, room_left);
            ahead = drop-set-lt (i + 1) lows count (get_or lows i 0) (omega (arith, at.few)) ∙ ahead_next;
            keys =
                rw (front, map_snoc, its_low)
                (write_next (map (key_at lows₀) (take count numbers)) lows count (key_at lows₀ i)
                (sym (length-take-le count lows (omega (arith, at.few, at.same))) ∙ ap length at.keys)
                (omega (arith, at.few, at.same)) at.keys);
            rest = rw (front, append_snoc) gathered;
          }

pub loop-i-init : goal.loop-i-init
loop-i-init c = begin _ _ _

-- what the test says of number i
module _ (last last_number bound bound_number : ℕ) {lows₀ : List ℕ} {room : ℕ} {lows numbers : List ℕ} {count i : ℕ} where
  tested : State (is_candidate (pair last last_number) (pair bound bound_number)) lows₀ room lows numbers count i → i < length lows → {r : Bool}
      → r ≡ is_candidate (pair last last_number) (pair bound bound_number) (pair (get_or lows i 0) i)
      → is_candidate (pair last last_number) (pair bound bound_number) (pair_of (key_at lows₀) i) ≡ r
  tested at taken is =
      ap (λ (low : ℕ). is_candidate (pair last last_number) (pair bound bound_number) (pair low i)) (sym (its_low at taken)) ∙ sym is

pub bounds-numbers-count : goal.bounds-numbers-count
bounds-numbers-count c =
    let at = c.loop-i.invariant in
    let taken : c.loop-i.i < length c.loop-i.lows = omega arith in
    omega (arith, room_left at taken c.requires.1 (tested c.args.last c.args.last_number c.args.bound c.args.bound_number at taken c.is_candidate.ensures ∙ c.if-is_candidate.true), at.rooms)

pub loop-i-preserved : goal.loop-i-preserved
loop-i-preserved c =
    let at = c.loop-i.invariant in
    let taken : c.loop-i.i < length c.loop-i.lows = omega arith in
    let test = tested c.args.last c.args.last_number c.args.bound c.args.bound_number at taken c.is_candidate.ensures in
    elim c.if-is_candidate.branch [
      | then-is_candidate w ↦ rw (w.lows-is, w.numbers-is, w.count-is) (takes at taken c.requires.1 (test ∙ w.if-is_candidate.true))
      | else-is_candidate w ↦ rw (w.lows-is, w.numbers-is, w.count-is) (fails at taken (test ∙ w.if-is_candidate.false))
    ]

pub returns : goal.returns
returns c = finish c.loop-i.invariant (omega arith)
