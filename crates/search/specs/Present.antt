-- A search goes over present dimensions only (document 02, Slip 1): queries that agree in these have the same distances, L and U, the same
-- search and the same scan, and calls with them leave the same, where both queries pass 6 or neither does; 6 is tested on absent components
-- too. Assumes nothing.
use Rattle.std.specs.Prelude.{◌≡◌, refl, List, ℕ, ℤ}
use Rattle.refusal.specs.First.{first}
use Rattle.signed.specs.Components.{are_components}
use Rattle.cells.specs.Cells.{vector_at}
use Rattle.step.specs.Step.{shortest, longest}
use Rattle.distance.specs.Present.{SamePresent, same_distance, same_bound}
use Rattle.entries.specs.declared.Entry.{Entry}
use Rattle.scan.specs.Scanning.{scan_terms}
use Rattle.scan.specs.Ranked.{read_agree}
use Rattle.scan.specs.Present.{same_answer}
use Rattle.search.specs.Search.{Index, Query, Room, numbers_in, distance_from, distance_in, low_in, high_in, scanned, searched, search_causes}
use Rattle.search.specs.Leaves.{search_leaves}

-- the query with other components, its word kept
abbrev pub with_components : Query → List ℤ → Query
with_components query components = record { components = components; word = query.word }

module _ (l : Index) (query : Query) (other : List ℤ) (same : SamePresent l.d query.word query.components other) where
  pub same_word_distance : (vector : List ℤ) → distance_from l (with_components query other) vector ≡ distance_from l query vector
  same_word_distance vector = same_distance same vector

  pub same_word_lower : (i : ℕ) → low_in l (with_components query other) i ≡ low_in l query i
  same_word_lower i = same_bound same shortest l.b l.marks l.codes i

  pub same_word_upper : (i : ℕ) → high_in l (with_components query other) i ≡ high_in l query i
  same_word_upper i = same_bound same longest l.b l.marks l.codes i

  pub same_scanned : (k : ℕ) → scanned l (with_components query other) k ≡ scanned l query k
  same_scanned k = same_answer (scan_terms l.d l.n k query.word) query.components other l.vectors same

  pub same_searched : (k : ℕ) → searched l (with_components query other) k ≡ searched l query k
  same_searched k =
      read_agree k (low_in l query) (low_in l (with_components query other)) (distance_in l query) (distance_in l (with_components query other))
      (numbers_in l) (λ i m. same_word_lower i) (λ i m. same_word_distance (vector_at l.d l.vectors i))

  module _ (components : are_components other ≡ are_components query.components) (k : ℕ) (room : Room) where
    pub same_search_verdict : first (search_causes l (with_components query other) k room) ≡ first (search_causes l query k room)
    same_search_verdict = rw (same.size, components, same_searched k) refl

    -- answer, entries and read list, also where it refuses
    pub same_search : (refused : List Entry) (reads : List ℕ)
        → search_leaves l (with_components query other) k room refused reads ≡ search_leaves l query k room refused reads
    same_search refused reads = rw (same_search_verdict, same_searched k) refl
