-- All that a scan leaves. Assumes nothing.
use Rattle.std.specs.Prelude.{List, ℕ, ℤ}
use Rattle.refusal.specs.Refusal.{Verdict}
use Rattle.refusal.specs.First.{first}
use Rattle.entries.specs.declared.Entry.{Entry}
use Rattle.scan.specs.declared.ScanTerms.{ScanTerms}
use Rattle.scan.specs.Scanning.{scan_causes, scanned_entries}

-- where so many entries are lent: its verdict, and the entries
pub record ScanLeft : Type 0 where
  pub verdict : Verdict
  pub entries : List Entry

abbrev pub scan_leaves : ScanTerms → List ℤ → List ℤ → ℕ → List Entry → ScanLeft
scan_leaves t query vectors lent refused =
    let v = first (scan_causes t query vectors lent) in
    record { verdict = v; entries = scanned_entries v t query vectors refused }
