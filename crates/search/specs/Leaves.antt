-- All that a search leaves. Assumes nothing.
use Rattle.std.specs.Prelude.{List, ℕ, Result}
use Rattle.refusal.specs.declared.Refusal.{Refusal}
use Rattle.refusal.specs.First.{first}
use Rattle.entries.specs.declared.Entry.{Entry}
use Rattle.search.specs.Search.{Index, Query, Room, search_causes}
use Rattle.search.specs.Answer.{search_answer, search_entries, search_reads}

pub record SearchLeft : Type 0 where
  pub answer : Result ℕ Refusal
  pub entries : List Entry
  pub reads : List ℕ

-- by its verdict, where so much room is lent
abbrev pub search_leaves : Index → Query → ℕ → Room → List Entry → List ℕ → SearchLeft
search_leaves l query k room refused reads =
    let v = first (search_causes l query k room) in
    record { answer = search_answer v l query k; entries = search_entries v l query k refused; reads = search_reads v l query k reads }
