-- The reading looks at the distances of the numbers that it reads, and at no others. Assumes nothing.
use Rattle.std.specs.Prelude.{◌≡◌, refl, List, ℕ}
use Rattle.order.specs.Pair.{Pair}
use Rattle.selection.specs.Reading.{Reading, read_next, reading}
use Rattle.selection.specs.Settles.{Agree}
use Rattle.selection.proofs.Steps.{along, next_read}

module _ (k : ℕ) (distance other : ℕ → ℕ) where
  -- one number read, where its two distances are one
  same_next : (state : Reading) (i : ℕ) → other i ≡ distance i → read_next k other state i ≡ read_next k distance state i
  unfolding read_next
  same_next state i e = rw e

  pub reading_stable : (ps : List Pair) (state : Reading) → Agree (reading k distance ps state).reads other distance
      → reading k other ps state ≡ reading k distance ps state
  unfolding reading
  reading_stable =
      along k distance {P = λ ps state end. Agree end.reads other distance → reading k other ps state ≡ end}
      (record {
        at_end = λ state agree. refl;
        at_stop = λ p ps state stop agree. rw stop;
        at_step = λ p ps state goes rest agree.
            rw (goes, same_next state p.number (agree p.number (next_read k distance ps state p.number))) (rest agree);
      })
