-- What a loop that reads has to show: it goes through the reading order, and after the first `done` numbers of it have been read, to read
-- the rest from there on is the whole reading. Assumes nothing.
use Rattle.std.specs.Prelude.{◌≡◌, ℕ, ◌≤◌, take, drop}
use mathlib.Core.List.{List}
use Rattle.std.proofs.Math.ListN.{length}
use Rattle.order.specs.Pair.{keyed}
use Rattle.selection.specs.Reading.{scan, Reading, reading, reading_order, read}

-- ---- the state after so many reads

unfoldable pub after : ℕ → (ℕ → ℕ) → (ℕ → ℕ) → List ℕ → ℕ → Reading
after k low distance numbers done =
    record { best = scan k distance (take done (reading_order low numbers)); reads = take done (reading_order low numbers) }

-- to read the rest from there on is the whole reading
pub record Reached (k : ℕ) (low distance : ℕ → ℕ) (numbers : List ℕ) (done : ℕ) : Type 0 where
  pub rest : reading k distance (keyed low (drop done (reading_order low numbers))) (after k low distance numbers done)
      ≡ read k low distance numbers

-- so many reads are the most: a reading that comes so far ends there
pub record EndsBy (k : ℕ) (low distance : ℕ → ℕ) (numbers : List ℕ) (end : ℕ) : Type 0 where
  pub behind : k ≤ end
  pub within : end ≤ length numbers
  pub whole : Reached k low distance numbers end → read k low distance numbers ≡ after k low distance numbers end
