-- A query of a batch, in a library that is tested: what is left to test, and what the query leads to. Assumes nothing.
use Rattle.std.specs.Prelude.{◌≡◌, true, List, ◌++◌, ℕ, Ok, Err, Result}
use Rattle.std.proofs.Common.{◌∙◌}
use Rattle.std.proofs.lemmas.Bool.{not-false}
use Rattle.refusal.specs.declared.Refusal.{Refusal}
use Rattle.refusal.specs.First.{Row, first, first_append, outcome_accepted, outcome_refused, accepted_front, accepted_behind, passed}
use Rattle.presence.specs.Presence.{word_causes}
use Rattle.signed.specs.Components.{are_components}
use Rattle.entries.specs.declared.Entry.{Entry}
use Rattle.search.specs.Answer.{search_answer}
use Rattle.search.specs.Search.{Index, Query}
use Rattle.search.specs.Ready.{Ready}
use Rattle.batch.specs.Parts.{part_at, with_part}
use Rattle.batch.specs.Batch.{Batch, library_in, query_in, entries_in, reads_in, verdict_in, component_causes}
use Rattle.least_reading.specs.Searching.{cell_causes}

-- the query can be read for, where neither its word nor its components refuse it
pub record Tested (l : Index) (query : Query) (k : ℕ) : Type 0 where
  pub ready : first (word_causes l.d query.word) ≡ Ok tt → are_components query.components ≡ true → Ready l query k

-- 19, 18, 6
abbrev pub entry_rows : Index → Query → List Row
entry_rows l query = word_causes l.d query.word ++ component_causes query.components

-- and 10 while reading
abbrev pub own_causes : Index → Query → ℕ → List Row
own_causes l query k = word_causes l.d query.word ++ (component_causes query.components ++ cell_causes l query k)

pub tested_ready : {l : Index} {query : Query} {k : ℕ} → Tested l query k → first (entry_rows l query) ≡ Ok tt → Ready l query k
tested_ready {l} {query} tested accepted =
    let word = word_causes l.d query.word in
    let components = component_causes query.components in
    let tests = passed _ _ _ (accepted_behind word components accepted) in
    tested.ready (accepted_front word components accepted) (not-false (are_components query.components) tests.fails)

pub own_accepted : (l : Index) (query : Query) (k : ℕ) → first (entry_rows l query) ≡ Ok tt
    → first (own_causes l query k) ≡ first (cell_causes l query k)
own_accepted l query k accepted = first_append (entry_rows l query) (cell_causes l query k) ∙ outcome_accepted _ _ accepted

pub own_refused : (l : Index) (query : Query) (k : ℕ) (cause : Refusal) → first (entry_rows l query) ≡ Err cause
    → first (own_causes l query k) ≡ Err cause
own_refused l query k cause refused = first_append (entry_rows l query) (cell_causes l query k) ∙ outcome_refused _ _ refused

-- the answer, and the entries and the read list, which stand in their parts
pub record Turned (batch : Batch) (i : ℕ) (r : Result ℕ Refusal) (entries entries_then : List Entry) (reads reads_then : List ℕ) : Type 0 where
  pub answer_is : r ≡ search_answer (verdict_in batch i) (library_in batch) (query_in batch i) batch.terms.k
  pub entries_are : entries_then ≡ with_part batch.terms.k i (entries_in batch i (part_at batch.terms.k entries i)) entries
  pub reads_are : reads_then ≡ with_part batch.terms.n i (reads_in batch i (part_at batch.terms.n reads i)) reads
