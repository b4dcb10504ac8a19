-- The full scan's answer and the reading order (document 01, "Distance, bounds, reading order"), over numbers alone: each number has a
-- distance and a low, a lower bound of its distance (01's L). Assumes nothing.
use Rattle.std.specs.Prelude.{Bool, cond, ◌||◌, List, [], ◌∷◌, ◌++◌, ℕ, ◌-◌, ltb, length, take, get_or}
use Rattle.order.specs.Pair.{Pair, below, insert, pair_of, ranked, numbers_of}

-- "A full scan's answer is the k least pairs (distance, number) over all patterns, least first."
unfoldable pub scan : ℕ → (ℕ → ℕ) → List ℕ → List Pair
scan k distance numbers = take k (ranked distance numbers)

-- how far a reading has come: the k best pairs (distance, number) read so far, least first, and the numbers read, in reading order
pub record Reading : Type 0 where
  pub best : List Pair
  pub reads : List ℕ

-- nothing read yet
unfoldable pub unread : Reading
unread = record { best = []; reads = [] }

-- no pair is below it
unfoldable pub least_pair : Pair
least_pair = record { key = 0; number = 0 }

-- "It reads the next while fewer than k have been read, or while its pair is below the pair (distance, number) of the k-th best read so
-- far." The best are fewer than k exactly while fewer than k have been read. For k = 0 nothing is read.
unfoldable pub goes_on : ℕ → List Pair → Pair → Bool
goes_on k best p = ltb (length best) k || below p (get_or best (k - 1) least_pair)

-- number i read next: its pair put among the best, which are cut to k, and i behind the numbers read
unfoldable pub read_next : ℕ → (ℕ → ℕ) → Reading → ℕ → Reading
read_next k distance state i =
    record { best = take k (insert (pair_of distance i) state.best); reads = state.reads ++ (i ∷ []) }

-- the rest of a ranking read from a state on, up to the first pair for which it does not go on
unfoldable pub reading : ℕ → (ℕ → ℕ) → List Pair → Reading → Reading
reading k distance [] state = state
reading k distance (p ∷ ps) state =
    let on = reading k distance ps (read_next k distance state p.number) in
    cond (goes_on k state.best p) on state

-- "The search reads patterns in order of (L, number)."
abbrev pub reading_order : (ℕ → ℕ) → List ℕ → List ℕ
reading_order low numbers = numbers_of (ranked low numbers)

-- the whole reading
unfoldable pub read : ℕ → (ℕ → ℕ) → (ℕ → ℕ) → List ℕ → Reading
read k low distance numbers = reading k distance (ranked low numbers) unread
