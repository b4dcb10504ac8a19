-- The theorems of the reading order. `read k low distance numbers` is the reading and `scan k distance numbers` the full scan's answer
-- (Reading.antt); what is possible, needed and settled is in Settles.antt. They hold for every k. The statements can be read without the
-- proofs, whose arguments stand in the other files. Assumes nothing.
use Rattle.std.specs.Prelude.{◌≡◌, refl, ◌≢◌, List, ℕ, ◌+◌, ◌≤◌, min, length, take, drop}
use Rattle.std.proofs.Common.{sym, ap, ◌∙◌, arith, length-take, take-append-drop, take_at}
use Rattle.order.specs.Pair.{Pair, ranked}
use Rattle.order.specs.Members.{◌∈◌, Distinct, Entry, member_take}
use Rattle.order.specs.Insertion.{length_ranked}
use Rattle.order.specs.Sorted.{Sorted, ranked_sorted}
use Rattle.order.specs.Ranking.{ranked_count, ranked_among, ranked_distinct, take_distinct}
use Rattle.selection.specs.Reading.{scan, Reading, unread, reading_order, read}
use Rattle.selection.specs.Settles.{LowerBound, Bounds, Within, Agree, Settles, Needed, fixed}
use Rattle.selection.proofs.Scan.{member_scan, ranked_lower, scan_sorted, scan_ranked}
use Rattle.selection.proofs.Steps.{unread_best, reading_best, reading_length, reading_reads}
use Rattle.selection.proofs.Exact.{reading_exact}
use Rattle.selection.proofs.Stable.{reading_stable}
use Rattle.selection.proofs.Needed.{read_needed}
use Rattle.selection.proofs.Least.{settles_needed, count_fixed}

module _ (k : ℕ) (low distance : ℕ → ℕ) (numbers : List ℕ) where
  -- ---- what is read

  -- the numbers read are the first of the ranking by low
  pub reads_in_order : (read k low distance numbers).reads ≡ take (length (read k low distance numbers).reads) (reading_order low numbers)
  unfolding read unread
  reads_in_order =
      let r = reading_reads k distance (ranked low numbers) unread in
      let ranking = reading_order low numbers in
      rw r.1 (rw (take-append-drop r.0 ranking) at (sym (take_at (take r.0 ranking) (drop r.0 ranking) (length (take r.0 ranking)) refl)))

  -- each is one of the numbers
  pub reads_among : {i : ℕ} → i ∈ (read k low distance numbers).reads → i ∈ numbers
  reads_among m =
      ranked_among low numbers
      (member_take (length (read k low distance numbers).reads) (reading_order low numbers) (rw reads_in_order at m))

  -- none is read twice
  pub reads_distinct : Distinct numbers → Distinct (read k low distance numbers).reads
  reads_distinct distinct = rw reads_in_order (take_distinct (length (read k low distance numbers).reads) (ranked_distinct low distinct))

  pub reads_count : length (read k low distance numbers).reads ≤ length numbers
  reads_count =
      let reads = (read k low distance numbers).reads in
      omega
      (arith, ap length reads_in_order ∙ length-take (length reads) (reading_order low numbers), ranked_count low numbers)

  -- ---- the best, whether or not the lows are lower bounds

  -- they are the k best of the numbers read
  pub best_of_reads : (read k low distance numbers).best ≡ scan k distance (read k low distance numbers).reads
  unfolding read
  best_of_reads = reading_best k distance (ranked low numbers) unread (unread_best k distance)

  -- they are k, or all where there are fewer
  pub best_length : length (read k low distance numbers).best ≡ min k (length numbers)
  unfolding read unread
  best_length = omega (arith, reading_length k distance (ranked low numbers) unread (unread_best k distance), length_ranked low numbers)

  pub best_sorted : Sorted (read k low distance numbers).best
  best_sorted = rw best_of_reads (scan_sorted k distance (read k low distance numbers).reads)

  -- each is a number read, with its distance
  pub best_entries : {p : Pair} → p ∈ (read k low distance numbers).best → Entry distance (read k low distance numbers).reads p
  best_entries m = member_scan k distance (read k low distance numbers).reads (rw best_of_reads at m)

  -- ---- exact: where no low is above its number's distance, the best are the scan's answer

  pub exact : LowerBound low distance numbers → (read k low distance numbers).best ≡ scan k distance numbers
  unfolding read unread
  exact lower =
      reading_exact k distance (ranked low numbers) unread (unread_best k distance) (ranked_sorted low numbers)
      (ranked_lower low distance numbers lower)
      ∙ scan_ranked k distance low numbers

  -- ---- stable: the distances of unread numbers do not matter

  -- the reading is the same, best and reads
  pub stable : (other : ℕ → ℕ) → Agree (read k low distance numbers).reads other distance
      → read k low other numbers ≡ read k low distance numbers
  unfolding read
  stable other agree = reading_stable k distance other (ranked low numbers) unread agree

module _ (k : ℕ) (low distance : ℕ → ℕ) (numbers : List ℕ) where
  -- the scan's answer is the same, where the lows are lower bounds of both
  pub stable_answer : (other : ℕ → ℕ) → LowerBound low distance numbers → LowerBound low other numbers
      → Agree (read k low distance numbers).reads other distance → scan k other numbers ≡ scan k distance numbers
  stable_answer other lower lower-other agree =
      sym (exact k low other numbers lower-other)
      ∙ ap (λ (r : Reading). r.best) (stable k low distance numbers other agree)
      ∙ exact k low distance numbers lower

  -- ---- needed: a read number with two bounds could change the answer

  pub needed : (possible : ℕ → ℕ → Type 0) (high : ℕ → ℕ) → Bounds possible low high numbers → LowerBound low distance numbers
      → {i : ℕ} → i ∈ (read k low distance numbers).reads → low i ≢ high i → Needed k possible distance numbers i
  needed possible high bounds lower is_read differ =
      read_needed k low distance numbers lower is_read possible high bounds (reads_among k low distance numbers is_read) differ

-- ---- least: every set that settles the answer holds the numbers read with two bounds

module _ (k : ℕ) (possible : ℕ → ℕ → Type 0) (low high distance : ℕ → ℕ) (numbers : List ℕ) (bounds : Bounds possible low high numbers)
    (own : Within possible distance numbers) where
  lower : LowerBound low distance numbers
  lower i m = bounds.least i (distance i) m (own i m)

  pub settling_holds : (set : List ℕ) → Settles k possible distance numbers set
      → (i : ℕ) → i ∈ (read k low distance numbers).reads → low i ≢ high i → i ∈ set
  settling_holds set settles i is_read differ =
      settles_needed own settles (needed k low distance numbers possible high bounds lower is_read differ)

  -- so it has no fewer members than there are read numbers with two bounds
  pub least : Distinct numbers → (set : List ℕ) → Settles k possible distance numbers set
      → length (read k low distance numbers).reads ≤ length set + fixed low high (read k low distance numbers).reads
  least distinct set settles = count_fixed low high (reads_distinct k low distance numbers distinct) set (settling_holds set settles)
