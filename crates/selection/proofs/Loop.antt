-- The laws of what a loop that reads has to show (specs/Loop.antt): one each for the start, a turn, the stop and the end. Assumes nothing.
use Rattle.std.specs.Prelude.{◌≡◌, true, false, ℕ, zero, suc, ◌≤◌, ◌<◌, min, take, drop, get_or}
use Rattle.std.proofs.Math.Path.{sym, ap}
use Rattle.std.proofs.Common.{◌∙◌, arith, drop_of_length-le, take-suc, drop-cons, length-take-le, lt-ltb}
use mathlib.Core.List.{List, [], ◌∷◌}
use Rattle.std.proofs.Math.ListN.{length}
use Rattle.order.specs.Pair.{Pair, pair_of, keyed, ranked}
use Rattle.order.specs.Merge.{keyed_ranked}
use Rattle.order.specs.Ranking.{ranked_count}
use Rattle.selection.specs.Reading.{Reading, unread, goes_on, read_next, reading, reading_order, read}
use Rattle.selection.proofs.Scan.{scan_length, scan_snoc}
use Rattle.selection.proofs.Steps.{unread_best}
use Rattle.selection.specs.Loop.{after, Reached, EndsBy}

-- ---- one step, from any state

module _ (k : ℕ) (distance : ℕ → ℕ) (p : Pair) (ps : List Pair) (state : Reading) where
  pub reading_stops : goes_on k state.best p ≡ false → reading k distance (p ∷ ps) state ≡ state
  unfolding reading
  reading_stops e = rw e

  pub reading_goes_on : goes_on k state.best p ≡ true
      → reading k distance (p ∷ ps) state ≡ reading k distance ps (read_next k distance state p.number)
  unfolding reading
  reading_goes_on e = rw e

-- ---- the state after so many reads

module _ (k : ℕ) (low distance : ℕ → ℕ) (numbers : List ℕ) where
  pub after_next : (done : ℕ) → done < length numbers
      → after k low distance numbers (suc done) ≡ read_next k distance (after k low distance numbers done)
      (get_or (reading_order low numbers) done 0)
  unfolding after read_next
  after_next done more = rw (take-suc (reading_order low numbers) done 0 (omega (arith, ranked_count low numbers)), scan_snoc)

  pub reached_start : Reached k low distance numbers 0
  unfolding after read unread
  reached_start =
      record {
        rest =
            rw (keyed_ranked low numbers) (ap (λ (b : List Pair). reading k distance (ranked low numbers) (record { best = b; reads = [] }))
            (sym (unread_best k distance)));
      }

  module _ (done : ℕ) (reached : Reached k low distance numbers done) where
    rest_split : done < length numbers
        → reading k distance (pair_of low (get_or (reading_order low numbers) done 0) ∷ keyed low (drop (suc done) (reading_order low numbers)))
        (after k low distance numbers done)
        ≡ read k low distance numbers
    unfolding keyed
    rest_split more = rw (drop-cons (reading_order low numbers) done 0 (omega (arith, ranked_count low numbers))) at reached.rest

    pub reached_next : done < length numbers
        → goes_on k (after k low distance numbers done).best (pair_of low (get_or (reading_order low numbers) done 0)) ≡ true
        → Reached k low distance numbers (suc done)
    reached_next more goes =
        record {
          rest = rw (after_next done more)
              (rw (reading_goes_on k distance _ _ (after k low distance numbers done) goes) at (rest_split more));
        }

    pub reached_stop : done < length numbers
        → goes_on k (after k low distance numbers done).best (pair_of low (get_or (reading_order low numbers) done 0)) ≡ false
        → read k low distance numbers ≡ after k low distance numbers done
    reached_stop more stops = sym (rest_split more) ∙ reading_stops k distance _ _ (after k low distance numbers done) stops

    pub reached_end : length numbers ≤ done → read k low distance numbers ≡ after k low distance numbers done
    unfolding keyed reading
    reached_end all =
        sym (rw (drop_of_length-le (reading_order low numbers) {i = done} (omega (arith, ranked_count low numbers))) at reached.rest)

  pub ends_all : k ≤ length numbers → EndsBy k low distance numbers (length numbers)
  ends_all enough =
      record { behind = enough; within = omega arith; whole = λ reached. reached_end (length numbers) reached (omega arith) }

  -- the first k are read, whatever their lows are, and from then on there are k best
  best_count : (done : ℕ) → done ≤ length numbers → length (after k low distance numbers done).best ≡ min k done
  unfolding after
  best_count done within =
      scan_length k distance (take done (reading_order low numbers))
      ∙ ap (min k) (length-take-le done (reading_order low numbers) (omega (arith, ranked_count low numbers)))

  pub goes_on_first : (done : ℕ) → done < k → done ≤ length numbers → (p : Pair)
      → goes_on k (after k low distance numbers done).best p ≡ true
  unfolding goes_on
  goes_on_first done few within p =
      let short : length (after k low distance numbers done).best < k = omega (arith, best_count done within) in
      rw (lt-ltb (length (after k low distance numbers done).best) k short)

  pub reached_first : (done : ℕ) → done ≤ k → k ≤ length numbers → Reached k low distance numbers done
  reached_first zero few enough = reached_start
  reached_first (suc done) few enough =
      reached_next done (reached_first done (omega arith) enough) (omega arith) (goes_on_first done (omega arith) (omega arith) _)

  pub full_after : (done : ℕ) → k ≤ done → done ≤ length numbers → length (after k low distance numbers done).best ≡ k
  full_after done all within = omega (arith, best_count done within)
