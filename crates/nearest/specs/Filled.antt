-- Lent entries that are filled from an array, with all entries of an answer. Assumes nothing.
use Rattle.std.specs.Prelude.{◌≡◌, List, [], ℕ, ◌≤◌, ℤ, length, Ok}
use Rattle.std.proofs.Common.{sym, ◌∙◌, append-nil, arith}
use Rattle.refusal.specs.First.{first}
use Rattle.limits.specs.Limits.{max_neighbours}
use Rattle.presence.specs.Presence.{factors_of}
use Rattle.order.specs.Pair.{count_from}
use Rattle.order.specs.Counted.{counted_length}
use Rattle.selection.proofs.Scan.{scan_length}
use Rattle.entries.specs.declared.Entry.{Entry}
use Rattle.entries.specs.Entries.{entries_of, in_array}
use Rattle.entries.specs.EntryLaws.{entries_length}
use Rattle.entries.specs.Filled.{filled, fitting, filled_within, fitting_fits}
use Rattle.scan.specs.declared.ScanTerms.{ScanTerms}
use Rattle.scan.specs.Scanning.{distances_of, scan_answer, scan_causes}
use Rattle.scan.specs.Scanned.{scannable}
use Rattle.search.specs.Search.{Index, Query, searched}
use Rattle.search.specs.Ready.{room_of}
use Rattle.search.specs.Accepted.{Accepts, passes, lengths_told, best_few, best_size}

-- over as many as there are, from the array that holds them
filled_all : (es entries : List Entry) → length entries ≡ length es → length es ≤ max_neighbours
    → filled (in_array es) entries 0 (length es) ≡ es
filled_all es entries room few =
    let within = filled_within es [] entries [] room few in
    rw (append-nil entries, append-nil es) at within

-- as many entries as an answer has are lent, and fit into the array
pub record Fits (es : List Entry) (k entries : ℕ) : Type 0 where
  pub size : length es ≡ k
  pub room : entries ≡ k
  pub few : k ≤ max_neighbours

pub fits_filled : {es : List Entry} {k : ℕ} (entries : List Entry) → Fits es k (length entries)
    → filled (in_array es) entries 0 (fitting (length entries) 0 k) ≡ es
fits_filled {es} {k} entries fits =
    let all = filled_all es entries (fits.room ∙ sym fits.size) (omega (arith, fits.size, fits.few)) in
    rw (fitting_fits (length entries) 0 k fits.few (omega (arith, fits.room)), ← fits.size) all

-- ---- the scan and the search

pub scan_fits : (t : ScanTerms) (query vectors : List ℤ) (entries : ℕ) → first (scan_causes t query vectors entries) ≡ Ok tt
    → Fits (entries_of (scan_answer t query vectors)) t.k entries
scan_fits t query vectors entries accepted =
    let is = scannable t query vectors entries accepted in
    let length_is = scan_length t.k (distances_of t.d (factors_of t.word) query vectors) (count_from 0 t.n) in
    record {
      size = entries_length (scan_answer t query vectors) ∙ omega (arith, length_is, counted_length 0 t.n, is.among.enough);
      room = is.room;
      few = is.among.few;
    }

pub search_fits : (l : Index) (query : Query) (k entries reads : ℕ) → Accepts l query k (room_of entries reads)
    → Fits (entries_of (searched l query k).best) k entries
search_fits l query k entries reads held =
    let room = room_of entries reads in
    record {
      size = entries_length (searched l query k).best ∙ best_size l query k room held;
      room = (lengths_told l query k room (passes l query k room held).lengths).of_entries;
      few = best_few l query k room held;
    }
