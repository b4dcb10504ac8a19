-- Document 01's own scan, of a query without a presence word, and the theorems that the full word gives it: "With every dimension present
-- it gives the old search's result" (document 02, Slip 1), and so does the scan that it is held to. Assumes nothing.
use Rattle.std.specs.Prelude.{◌≡◌, refl, Bool, true, false, not, List, [], ◌∷◌, ◌++◌, ℕ, ◌≤◌, ℤ}
use Rattle.std.proofs.Common.{sym, ap, ◌∙◌}
use Rattle.refusal.specs.declared.Refusal.TheVariants.{Dimension, Count, Neighbours}
use Rattle.refusal.specs.First.{Row, ◌⇒◌, first, outcome, first_here}
use Rattle.limits.specs.Limits.{max_dimensions, is_dimension_count, is_vector_count, is_neighbour_count}
use Rattle.limits.specs.Tests.{between}
use Rattle.presence.specs.Presence.{factors_of, full_word}
use Rattle.order.specs.Pair.{Pair, count_from}
use Rattle.selection.specs.Reading.{scan}
use Rattle.cells.specs.Cells.{vector_at}
use Rattle.distance.specs.Distance.{distance_of}
use Rattle.distance.specs.Full.{full_distance}
use Rattle.distance.specs.FullWord.{word_full, full_word_left}
use Rattle.entries.specs.declared.Entry.{Entry}
use Rattle.entries.specs.Entries.{entries_of}
use Rattle.scan.specs.declared.ScanTerms.{ScanTerms}
use Rattle.scan.specs.Scanning.{distances_of, scan_terms, scan_answer, scan_buffer_causes, scan_causes}
use Rattle.scan.specs.Leaves.{ScanLeft, scan_leaves}
use Rattle.scan.specs.Ranked.{scan_agree}

-- the numbers of a scan with every dimension present
abbrev pub full_terms : ℕ → ℕ → ℕ → ScanTerms
full_terms d n k = scan_terms d n k (full_word d)

-- ---- without a word

-- the distances over all dimensions, and the answer by them
abbrev plain_distances : ℕ → List ℤ → List ℤ → ℕ → ℕ
plain_distances d query vectors i = distance_of d query (vector_at d vectors i)

abbrev pub plain_scan_answer : ℕ → ℕ → ℕ → List ℤ → List ℤ → List Pair
plain_scan_answer d n k query vectors = scan k (plain_distances d query vectors) (count_from 0 n)

-- 1, 3, 4
abbrev count_causes : ℕ → ℕ → ℕ → List Row
count_causes d n k =
    (not (is_dimension_count d) ⇒ Dimension) ∷ (not (is_vector_count n) ⇒ Count) ∷ (not (is_neighbour_count n k) ⇒ Neighbours) ∷ []

-- document 01's causes of the scan: these, and those of the buffers, which look at no word (5, 6)
abbrev pub plain_scan_causes : ℕ → ℕ → ℕ → List ℤ → List ℤ → ℕ → List Row
plain_scan_causes d n k query vectors lent = count_causes d n k ++ scan_buffer_causes (full_terms d n k) query vectors lent

abbrev pub plain_scan_leaves : ℕ → ℕ → ℕ → List ℤ → List ℤ → ℕ → List Entry → ScanLeft
plain_scan_leaves d n k query vectors lent refused =
    let v = first (plain_scan_causes d n k query vectors lent) in
    record { verdict = v; entries = outcome v (entries_of (plain_scan_answer d n k query vectors)) (λ _. refused) }

-- ---- with every dimension present

module _ (d n k : ℕ) (query vectors : List ℤ) where
  -- the least pairs by the distances of present dimensions, which are all
  full_word_scanned : d ≤ max_dimensions
      → scan k (distances_of d (factors_of (full_word d)) query vectors) (count_from 0 n) ≡ plain_scan_answer d n k query vectors
  full_word_scanned few =
      scan_agree k (plain_distances d query vectors) (distances_of d (factors_of (full_word d)) query vectors) (count_from 0 n)
      (λ i m. full_distance (factors_of (full_word d)) query (vector_at d vectors i) d (word_full d few))

  pub full_word_answer : d ≤ max_dimensions → scan_answer (full_terms d n k) query vectors ≡ plain_scan_answer d n k query vectors
  full_word_answer few = full_word_scanned few

  module _ (lent : ℕ) where
    -- 19 and 18 never hold: the scan refuses for document 01's causes alone, in their order
    pub full_word_scan_verdict : first (scan_causes (full_terms d n k) query vectors lent) ≡ first (plain_scan_causes d n k query vectors lent)
    full_word_scan_verdict = go (is_dimension_count d) refl
      where
        go : (counts : Bool) → is_dimension_count d ≡ counts
            → first (scan_causes (full_terms d n k) query vectors lent) ≡ first (plain_scan_causes d n k query vectors lent)
        go true is =
            full_word_left d (between 1 d max_dimensions is).below (count_causes d n k)
            (scan_buffer_causes (full_terms d n k) query vectors lent)
        go false none = first_here Dimension _ (ap not none) ∙ sym (first_here Dimension _ (ap not none))

    -- the call leaves what document 01's leaves, also where it refuses
    pub full_word_scan_leaves : (refused : List Entry)
        → scan_leaves (full_terms d n k) query vectors lent refused ≡ plain_scan_leaves d n k query vectors lent refused
    full_word_scan_leaves refused = go (is_dimension_count d) refl
      where
        go : (counts : Bool) → is_dimension_count d ≡ counts
            → scan_leaves (full_terms d n k) query vectors lent refused ≡ plain_scan_leaves d n k query vectors lent refused
        go true is = rw (full_word_scan_verdict, full_word_scanned (between 1 d max_dimensions is).below) refl
        go false none = rw (full_word_scan_verdict, first_here {test = not (is_dimension_count d)} Dimension _ (ap not none)) refl
