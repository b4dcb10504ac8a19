-- The scan call: its answer and its causes. It takes the presence word of the query (document 02, Slip 1). Assumes nothing.
use Rattle.std.specs.Prelude.{not, ◌&&◌, List, [], ◌∷◌, ◌++◌, ℕ, ◌*◌, eqb, ℤ, length}
use Rattle.refusal.specs.declared.Refusal.TheVariants.{Dimension, Count, Neighbours, Length, Component}
use Rattle.refusal.specs.Refusal.{Verdict}
use Rattle.refusal.specs.First.{Row, ◌⇒◌, outcome}
use Rattle.limits.specs.Limits.{is_dimension_count, is_vector_count, is_neighbour_count}
use Rattle.presence.specs.Presence.{factors_of, word_causes}
use Rattle.signed.specs.Components.{are_components}
use Rattle.order.specs.Pair.{Pair, count_from}
use Rattle.selection.specs.Reading.{scan}
use Rattle.cells.specs.Cells.{vector_at}
use Rattle.distance.specs.Distance.{weighed_distance}
use Rattle.entries.specs.declared.Entry.{Entry}
use Rattle.entries.specs.Entries.{entries_of}
use Rattle.scan.specs.declared.ScanTerms.{ScanTerms}

-- the distances of n vectors in a row from the query, with these factors of the dimensions
abbrev pub distances_of : ℕ → List ℕ → List ℤ → List ℤ → ℕ → ℕ
distances_of d factors query vectors i = weighed_distance d factors query (vector_at d vectors i)

abbrev pub scan_terms : ℕ → ℕ → ℕ → ℕ → ScanTerms
scan_terms d n k word = record { d = d; n = n; k = k; word = word }

-- "A full scan's answer is the k least pairs (distance, number) over all patterns, least first." A distance is the sum "over present
-- dimensions only".
abbrev pub scan_answer : ScanTerms → List ℤ → List ℤ → List Pair
scan_answer t query vectors = scan t.k (distances_of t.d (factors_of t.word) query vectors) (count_from 0 t.n)

-- the lengths are d for the query, n·d for the vectors, k for the entries; the scan has the query and the vectors and tests 6 on both
abbrev pub scan_buffer_causes : ScanTerms → List ℤ → List ℤ → ℕ → List Row
scan_buffer_causes t query vectors entries =
    (not (eqb (length query) t.d && (eqb (length vectors) (t.n * t.d) && eqb entries t.k)) ⇒ Length)
    ∷ (not (are_components query && are_components vectors) ⇒ Component)
    ∷ []

-- 1, 3, 4, those of the presence word (19, 18), 5, 6
abbrev pub scan_causes : ScanTerms → List ℤ → List ℤ → ℕ → List Row
scan_causes t query vectors entries =
    (not (is_dimension_count t.d) ⇒ Dimension)
    ∷ (not (is_vector_count t.n) ⇒ Count)
    ∷ (not (is_neighbour_count t.n t.k) ⇒ Neighbours)
    ∷ (word_causes t.d t.word ++ scan_buffer_causes t query vectors entries)

-- the outcome of a verdict on a scan: the entries of the answer, or what a refusal leaves
abbrev pub scanned_entries : Verdict → ScanTerms → List ℤ → List ℤ → List Entry → List Entry
scanned_entries v t query vectors refused = outcome v (entries_of (scan_answer t query vectors)) (λ _. refused)
