-- What an answer of the search stands for, and the outcome of a verdict on a search. Assumes nothing.
use Rattle.std.specs.Prelude.{List, ◌++◌, ℕ, length, drop, Ok, Err, Result}
use Rattle.refusal.specs.declared.Refusal.{Refusal}
use Rattle.refusal.specs.Refusal.{Verdict}
use Rattle.refusal.specs.Refusal.{number_of}
use Rattle.refusal.specs.First.{outcome}
use Rattle.entries.specs.declared.Entry.{Entry}
use Rattle.entries.specs.Entries.{entries_of, in_array}
use Rattle.search.specs.declared.Found.{Found}
use Rattle.search.specs.Search.{Index, Query, searched}

-- document 01's number of an answer, 0 where nothing refuses
abbrev pub searched_number : Result ℕ Refusal → ℕ
searched_number (Ok count) = 0
searched_number (Err cause) = number_of cause

-- how many vectors were read, 0 where it is refused
abbrev pub searched_count : Result ℕ Refusal → ℕ
searched_count (Ok count) = count
searched_count (Err cause) = 0

-- what it finds where nothing refuses: the entries of the best, and how many vectors were read
abbrev pub found_of : Index → Query → ℕ → Found
found_of l query k =
    record { entries = in_array (entries_of (searched l query k).best); count = length (searched l query k).reads }

-- ---- the outcome of a verdict on a search

-- the answer
abbrev pub search_answer : Verdict → Index → Query → ℕ → Result ℕ Refusal
search_answer v l query k = outcome v (Ok (length (searched l query k).reads)) Err

-- the entries of the best, or what a refusal leaves
abbrev pub search_entries : Verdict → Index → Query → ℕ → List Entry → List Entry
search_entries v l query k refused = outcome v (entries_of (searched l query k).best) (λ _. refused)

-- the read list: the numbers read, and what stood past them
abbrev pub search_reads : Verdict → Index → Query → ℕ → List ℕ → List ℕ
search_reads v l query k reads = outcome v ((searched l query k).reads ++ drop (length (searched l query k).reads) reads) (λ _. reads)
