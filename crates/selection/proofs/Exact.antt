-- The reading from any state on: where no key of the rest is above its number's distance, the best at the end are the scan's answer over
-- the numbers read and those of the rest. Assumes nothing.
use Rattle.std.specs.Prelude.{◌≡◌, false, ℕ, ◌-◌, ◌≤◌, get_or}
use Rattle.std.proofs.Common.{sym, ◌∙◌, arith}
use mathlib.Core.List.Memᴰ
use mathlib.Core.List.{List, ◌∷◌, ◌++◌, append-nil}
use Rattle.std.proofs.Math.Seq.{append_snoc}
use Rattle.order.specs.Pair.{Pair, pair_of, numbers_of}
use Rattle.order.specs.AtMost.{AtMost, level, at_most_trans}
use Rattle.order.specs.Members.{◌∈◌}
use Rattle.order.specs.Sorted.{Sorted, sorted_least, sorted_rest}
use Rattle.selection.specs.Reading.{scan, Reading, least_pair, goes_on, read_next, reading}
use Rattle.selection.proofs.Scan.{scan_late}
use Rattle.selection.proofs.Steps.{stopped, along, next_best}

module _ (k : ℕ) (distance : ℕ → ℕ) where
  -- where the reading stops, the rest is behind the k-th best
  stopped_exact : (p : Pair) (ps : List Pair) (state : Reading) → goes_on k state.best p ≡ false
      → state.best ≡ scan k distance state.reads
      → Sorted (p ∷ ps) → ((q : Pair) → q ∈ (p ∷ ps) → q.key ≤ distance q.number)
      → state.best ≡ scan k distance (state.reads ++ numbers_of (p ∷ ps))
  stopped_exact p ps state stop e sorted low =
      let s = stopped k state.best p stop in
      e ∙ sym (scan_late k distance state.reads (p ∷ ps) (rw e at s.full) (λ q m. rw e at (late s.late q m)))
    where
      late : AtMost (get_or state.best (k - 1) least_pair) p → (q : Pair) → q ∈ (p ∷ ps)
          → AtMost (get_or state.best (k - 1) least_pair) (pair_of distance q.number)
      late h q m = at_most_trans (at_most_trans h (sorted_least sorted q m)) (level (low q m) (omega arith))

  pub reading_exact : (ps : List Pair) (state : Reading) → state.best ≡ scan k distance state.reads
      → Sorted ps → ((q : Pair) → q ∈ ps → q.key ≤ distance q.number)
      → (reading k distance ps state).best ≡ scan k distance (state.reads ++ numbers_of ps)
  unfolding read_next numbers_of
  reading_exact =
      along k distance
      {P = λ ps state end.
      state.best ≡ scan k distance state.reads → Sorted ps → ((q : Pair) → q ∈ ps → q.key ≤ distance q.number)
      → end.best ≡ scan k distance (state.reads ++ numbers_of ps)}
      (record {
        at_end = λ state e sorted low. rw append-nil e;
        at_stop = λ p ps state stop. stopped_exact p ps state stop;
        at_step = λ p ps state goes rest e sorted low.
            rw append_snoc at (rest (next_best k distance state p.number e) (sorted_rest sorted) (λ q m. low q (Memᴰ.tail m)));
      })
