-- What the search gives: what it found, and the read list that it was lent. Assumes nothing.
use Rattle.std.specs.Prelude.{◌≡◌, refl, Bool, true, false, not, cond, List, [], ◌∷◌, ℕ, take, Ok, Err, Result}
use Rattle.std.proofs.Common.{sym, ap, ◌∙◌}
use Rattle.refusal.specs.declared.Refusal.{Refusal}
use Rattle.refusal.specs.declared.Refusal.TheVariants.{Cell}
use Rattle.refusal.specs.Refusal.{Verdict}
use Rattle.refusal.specs.First.{Row, ◌⇒◌, first, outcome, first_append, outcome_accepted, outcome_refused}
use Rattle.entries.specs.Entries.{entries_of}
use Rattle.entries.specs.EntryLaws.{entries_length, array_front}
use Rattle.search.specs.declared.Found.{Found}
use Rattle.search.specs.Answer.{found_of, search_reads}
use Rattle.search.specs.Accepted.{Accepts, best_few, best_size}
use Rattle.search.specs.Search.{Index, Query, Room, in_own_cells, searched, entry_causes, search_causes}

-- the outcome of a verdict: what is found, and the read list, which a refusal leaves as it was
pub record Searches (v : Verdict) (l : Index) (query : Query) (k : ℕ) (r : Result Found Refusal) (reads reads_then : List ℕ) : Type 0 where
  pub found : r ≡ outcome v (Ok (found_of l query k)) Err
  pub reads_are : reads_then ≡ search_reads v l query k reads

-- where something is found, nothing refuses, and it is what the search finds
pub record TellsFound (v : Verdict) (l : Index) (query : Query) (k : ℕ) (found : Found) : Type 0 where
  pub accepted : v ≡ Ok tt
  pub is : found ≡ found_of l query k

pub tells_found : {v : Verdict} {l : Index} {query : Query} {k : ℕ} {found : Found} {reads reads_then : List ℕ}
    → Searches v l query k (Ok found) reads reads_then → TellsFound v l query k found
tells_found {v} {l} {query} {k} {found} s = go v s.found
  where
    go : (v : Verdict) → Ok found ≡ outcome v (Ok (found_of l query k)) Err → TellsFound v l query k found
    go (Ok _) e = record { accepted = refl; is = cc }
    go (Err cause) e = record { accepted = cc; is = cc }

-- and where it refuses, so does the verdict
pub tells_cause : {v : Verdict} {l : Index} {query : Query} {k : ℕ} {cause : Refusal} {reads reads_then : List ℕ}
    → Searches v l query k (Err cause) reads reads_then → v ≡ Err cause
tells_cause {v} {l} {query} {k} {cause} s = go v s.found
  where
    go : (v : Verdict) → Err cause ≡ outcome v (Ok (found_of l query k)) Err → v ≡ Err cause
    go (Ok _) e = cc
    go (Err other) e = cc

-- where nothing refuses, the first k entries are those of the best
pub found_front : (l : Index) (query : Query) (k : ℕ) (room : Room) {found : Found} {reads reads_then : List ℕ} → Accepts l query k room
    → Searches (first (search_causes l query k room)) l query k (Ok found) reads reads_then
    → take k found.entries ≡ entries_of (searched l query k).best
found_front l query k room held s =
    ap (λ (f : Found). take k f.entries) (tells_found s).is
    ∙ array_front (entries_of (searched l query k).best) k (entries_length (searched l query k).best ∙ best_size l query k room held)
    (best_few l query k room held)

-- the cause that is left behind the entry
abbrev pub cell_causes : Index → Query → ℕ → List Row
cell_causes l query k = (not (in_own_cells l (searched l query k).reads) ⇒ Cell) ∷ []

pub behind_entry : (l : Index) (query : Query) (k : ℕ) (room : Room) → first (entry_causes l query k room) ≡ Ok tt
    → first (search_causes l query k room) ≡ first (cell_causes l query k)
behind_entry l query k room accepted = first_append (entry_causes l query k room) (cell_causes l query k) ∙ outcome_accepted _ _ accepted

-- the outcome of an equal verdict
pub searches_by : {v w : Verdict} {l : Index} {query : Query} {k : ℕ} {r : Result Found Refusal} {reads reads_then : List ℕ} → w ≡ v
    → Searches v l query k r reads reads_then → Searches w l query k r reads reads_then
searches_by e s = rw e s

-- what a refusal leaves
pub searches_none : {v : Verdict} {l : Index} {query : Query} {k : ℕ} {r : Result Found Refusal} {cause : Refusal} (reads : List ℕ)
    → v ≡ Err cause → r ≡ Err cause → Searches v l query k r reads reads
searches_none reads refused is = record {
  found = is ∙ sym (outcome_refused _ _ refused);
  reads_are = sym (outcome_refused _ _ refused);
}

-- a refusal at the entry is the search's
pub refused_at_entry : (l : Index) (query : Query) (k : ℕ) (room : Room) (cause : Refusal)
    → first (entry_causes l query k room) ≡ Err cause
    → first (search_causes l query k room) ≡ Err cause
refused_at_entry l query k room cause refused = first_append (entry_causes l query k room) (cell_causes l query k)
    ∙ outcome_refused _ _ refused

-- ---- what the answer of reading tells

pub record TellsRead (cells : Bool) (m count : ℕ) : Type 0 where
  pub in_cells : cells ≡ true
  pub all_read : count ≡ m

pub tells_read : (cells : Bool) (m count : ℕ) → cond cells (Ok m) (Err Cell) ≡ Ok count → TellsRead cells m count
tells_read true m count e = record { in_cells = refl; all_read = cc }
tells_read false m count e = record { in_cells = cc; all_read = cc }

pub tells_refused : (cells : Bool) (m : ℕ) (cause : Refusal) → cond cells (Ok m) (Err Cell) ≡ Err cause → cells ≡ false
tells_refused true m cause e = cc
tells_refused false m cause e = refl

pub cells_accepted : (l : Index) (query : Query) (k : ℕ) → in_own_cells l (searched l query k).reads ≡ true
    → first (cell_causes l query k) ≡ Ok tt
unfolding first
cells_accepted l query k all = rw all

pub cells_refused : (l : Index) (query : Query) (k : ℕ) → in_own_cells l (searched l query k).reads ≡ false
    → first (cell_causes l query k) ≡ Err Cell
unfolding first
cells_refused l query k Some-out = rw Some-out
