-- A scan goes over present dimensions only (document 02, Slip 1): queries that agree in these have the same answer, and calls with them leave
-- the same, where both queries pass 6 or neither does; 6 is tested on absent components too. Assumes nothing.
use Rattle.std.specs.Prelude.{◌≡◌, refl, List, ℕ, ℤ}
use Rattle.refusal.specs.First.{first}
use Rattle.presence.specs.Presence.{factors_of}
use Rattle.signed.specs.Components.{are_components}
use Rattle.order.specs.Pair.{count_from}
use Rattle.selection.specs.Reading.{scan}
use Rattle.cells.specs.Cells.{vector_at}
use Rattle.distance.specs.Present.{SamePresent, same_distance}
use Rattle.entries.specs.declared.Entry.{Entry}
use Rattle.scan.specs.declared.ScanTerms.{ScanTerms}
use Rattle.scan.specs.Scanning.{distances_of, scan_answer, scan_causes}
use Rattle.scan.specs.Leaves.{scan_leaves}
use Rattle.scan.specs.Ranked.{scan_agree}

module _ (t : ScanTerms) (query other : List ℤ) (vectors : List ℤ) (same : SamePresent t.d t.word query other) where
  -- the least pairs by the distances of either
  same_scanned :
      scan t.k (distances_of t.d (factors_of t.word) other vectors) (count_from 0 t.n)
      ≡ scan t.k (distances_of t.d (factors_of t.word) query vectors) (count_from 0 t.n)
  same_scanned =
      scan_agree t.k (distances_of t.d (factors_of t.word) query vectors) (distances_of t.d (factors_of t.word) other vectors)
      (count_from 0 t.n) (λ i m. same_distance same (vector_at t.d vectors i))

  pub same_answer : scan_answer t other vectors ≡ scan_answer t query vectors
  same_answer = same_scanned

  module _ (components : are_components other ≡ are_components query) (lent : ℕ) where
    pub same_scan_verdict : first (scan_causes t other vectors lent) ≡ first (scan_causes t query vectors lent)
    same_scan_verdict = rw (same.size, components) refl

    pub same_scan : (refused : List Entry) → scan_leaves t other vectors lent refused ≡ scan_leaves t query vectors lent refused
    same_scan refused = rw (same_scan_verdict, same_scanned) refl
