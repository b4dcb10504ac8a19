-- The theorems of a batch (document 02, Slip 5; demands 2 and 3 of the mission). An answered query is one that the single search does not
-- refuse (`Answered`), and what it is given is what the single search gives, by definition; so each theorem of the search holds of it.
-- Assumes nothing.
use Rattle.std.specs.Prelude.{◌≡◌, ◌≢◌, List, ℕ, ◌+◌, ◌≤◌, ℤ, length, Ok}
use Rattle.order.specs.Members.{◌∈◌}
use Rattle.selection.specs.Settles.{fixed}
use Rattle.search.specs.Search.{low_in, high_in, scanned, searched}
use Rattle.search.specs.Settled.{OwnCodes, SameCells, with_vectors, SettlesAnswer, NeededVector}
use Rattle.search.specs.Theorems.{search_is_scan, search_is_stable, read_is_needed, settling_set_holds_reads, reading_is_least}
use Rattle.batch.specs.Batch.{Batch, library_in, query_in, part_room, verdict_in}

-- the single search does not refuse query i
abbrev pub Answered : Batch → ℕ → Type 0
Answered batch i = verdict_in batch i ≡ Ok tt

module _ (batch : Batch) (i : ℕ) where
  abbrev k : ℕ
  k = batch.terms.k

  -- demand 2: its numbers and distances are the scan's
  pub answer_is_scan : OwnCodes (library_in batch)
      → (searched (library_in batch) (query_in batch i) k).best ≡ scanned (library_in batch) (query_in batch i) k
  answer_is_scan = search_is_scan (library_in batch) (query_in batch i) k

  -- demand 3: whatever vectors of the same cells stand at the unread numbers, it is given the same
  pub answer_is_stable : (vectors : List ℤ) → SameCells (library_in batch) (searched (library_in batch) (query_in batch i) k).reads vectors
      → searched (with_vectors (library_in batch) vectors) (query_in batch i) k ≡ searched (library_in batch) (query_in batch i) k
  answer_is_stable = search_is_stable (library_in batch) (query_in batch i) k

  -- each vector read whose cell's two distances differ is needed
  pub answer_needs : OwnCodes (library_in batch) → Answered batch i → (j : ℕ) → j ∈ (searched (library_in batch) (query_in batch i) k).reads
      → low_in (library_in batch) (query_in batch i) j ≢ high_in (library_in batch) (query_in batch i) j
      → NeededVector (library_in batch) (query_in batch i) k (part_room batch) j
  answer_needs = read_is_needed (library_in batch) (query_in batch i) k (part_room batch)

  -- every set that settles its answer holds all of those
  pub settling_set_holds : OwnCodes (library_in batch) → Answered batch i
      → (set : List ℕ) → SettlesAnswer (library_in batch) (query_in batch i) k set
      → (j : ℕ) → j ∈ (searched (library_in batch) (query_in batch i) k).reads
      → low_in (library_in batch) (query_in batch i) j ≢ high_in (library_in batch) (query_in batch i) j → j ∈ set
  settling_set_holds = settling_set_holds_reads (library_in batch) (query_in batch i) k (part_room batch)

  -- so its reading is the least
  pub answer_reads_least : OwnCodes (library_in batch) → Answered batch i
      → (set : List ℕ) → SettlesAnswer (library_in batch) (query_in batch i) k set
      → length (searched (library_in batch) (query_in batch i) k).reads
      ≤ length set + fixed (low_in (library_in batch) (query_in batch i)) (high_in (library_in batch) (query_in batch i))
      (searched (library_in batch) (query_in batch i) k).reads
  answer_reads_least = reading_is_least (library_in batch) (query_in batch i) k (part_room batch)
