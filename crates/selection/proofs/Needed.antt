-- A number that is read is in the answer once its distance is its low; so where it has another possible distance too, one of the two
-- changes the answer. Assumes nothing.
use Rattle.std.specs.Prelude.{◌≡◌, refl, true, ◌≢◌, List, [], ◌∷◌, ◌++◌}
use Rattle.std.proofs.Math.Path.{sym}
use Rattle.std.proofs.Common.{◌∙◌, arith}
use Rattle.std.proofs.Math.Logic.{⊎_elim}
use mathlib.Core.List.Memᴰ
use Prim.Native.Nat.{ℕ, ◌≤◌}
use Rattle.std.proofs.Math.Decide.{ℕ_discrete}
use Rattle.std.proofs.Math.Seq.{append_snoc}
use Rattle.order.specs.Pair.{Pair, pair_of, ranked, numbers_of}
use Rattle.order.specs.AtMost.{AtMost, level, at_most_trans}
use Rattle.order.specs.Members.{◌∈◌, member_ranked}
use Rattle.order.specs.Sorted.{Sorted, ranked_sorted, sorted_least, sorted_rest}
use Rattle.selection.specs.Reading.{scan, Reading, unread, goes_on, read_next, reading, read}
use Rattle.selection.specs.Settles.{LowerBound, Bounds, Needed, changed}
use Rattle.selection.proofs.Changed.{changed_there, changed_elsewhere, changed_holds, changed_same}
use Rattle.selection.proofs.Scan.{member_scan, ranked_lower, scan_snoc, scan_ranked, scan_keeps}
use Rattle.selection.proofs.Steps.{enters, along, unread_best, next_best, best_count}

-- the next pair is read, and pairs behind it leave it in the answer
reads_next : (k : ℕ) (distance : ℕ → ℕ) (p : Pair) (ps : List Pair) (state : Reading) → state.best ≡ scan k distance state.reads
    → goes_on k state.best p ≡ true → p ≡ pair_of distance p.number → ((q : Pair) → q ∈ ps → AtMost p (pair_of distance q.number))
    → p ∈ scan k distance (state.reads ++ numbers_of (p ∷ ps))
unfolding numbers_of
reads_next k distance p ps state e goes own late =
    rw (← (append_snoc state.reads p.number (numbers_of ps))) (scan_keeps k distance (state.reads ++ (p.number ∷ [])) ps late now)
  where
    now : p ∈ scan k distance (state.reads ++ (p.number ∷ []))
    now = rw (scan_snoc, ← own, ← e) (enters k state.best p (omega (arith, best_count k distance state e)) goes)

-- ---- the distances are lowered at i alone, to its low

module _ (k : ℕ) (low distance lowered : ℕ → ℕ) (i : ℕ) (at_i : lowered i ≡ low i) (elsewhere : (j : ℕ) → j ≢ i → distance j ≡ lowered j) where
  -- another number is read next
  best_elsewhere : (state : Reading) (j : ℕ) → j ≢ i → state.best ≡ scan k lowered state.reads
      → (read_next k distance state j).best ≡ scan k lowered (read_next k distance state j).reads
  unfolding read_next
  best_elsewhere state j other e = rw (elsewhere j other) (next_best k lowered state j e)

  unread_elsewhere : (state : Reading) (j : ℕ) → j ≢ i → ¬ (i ∈ state.reads) → ¬ (i ∈ (read_next k distance state j).reads)
  unfolding read_next
  unread_elsewhere state j other not_yet m =
      ⊎_elim not_yet (λ s. other (sym (Memᴰ.eq_of_singleton s))) (Memᴰ.append_cases state.reads m)

  -- i's own pair comes next
  own_pair : (p : Pair) → p.key ≡ low p.number → p.number ≡ i → (p ≡ pair_of lowered p.number) × (pair_of low i ≡ p)
  own_pair p its_key same =
      let own : p.key ≡ lowered p.number = cc in
      let low-key : low i ≡ p.key = cc in
      (λ j. record { key = own j; number = p.number }, λ j. record { key = low-key j; number = sym same j })

  reading_lowered : (ps : List Pair) (state : Reading) → state.best ≡ scan k lowered state.reads → Sorted ps
      → ((q : Pair) → q ∈ ps → q.key ≡ low q.number) → ((q : Pair) → q ∈ ps → q.key ≤ lowered q.number)
      → ¬ (i ∈ state.reads) → i ∈ (reading k distance ps state).reads → pair_of low i ∈ scan k lowered (state.reads ++ numbers_of ps)
  unfolding read_next numbers_of
  reading_lowered =
      along k distance
      {P = λ ps state end.
      state.best ≡ scan k lowered state.reads → Sorted ps
      → ((q : Pair) → q ∈ ps → q.key ≡ low q.number) → ((q : Pair) → q ∈ ps → q.key ≤ lowered q.number)
      → ¬ (i ∈ state.reads) → i ∈ end.reads → pair_of low i ∈ scan k lowered (state.reads ++ numbers_of ps)}
      (record {
        at_end = λ state e sorted keys bounds not_yet is_read. absurd (not_yet is_read);
        at_stop = λ p ps state stop e sorted keys bounds not_yet is_read. absurd (not_yet is_read);
        at_step = λ p ps state goes rest e sorted keys bounds not_yet is_read.
            elim (ℕ_discrete p.number i) [
              | yes same ↦
                  let own = own_pair p (keys p (Memᴰ.head refl)) same in
                  Memᴰ.cast own.1
                  (reads_next k lowered p ps state e goes own.0
                  (λ q m. at_most_trans (sorted_least sorted q (Memᴰ.tail m)) (level (bounds q (Memᴰ.tail m)) (omega arith))))
              | no other ↦
                  rw append_snoc
                  at
                  (rest (best_elsewhere state p.number other e) (sorted_rest sorted) (λ q m. keys q (Memᴰ.tail m))
                  (λ q m. bounds q (Memᴰ.tail m)) (unread_elsewhere state p.number other not_yet) is_read)
            ];
      })

-- ---- i is read

module _ (k : ℕ) (low distance : ℕ → ℕ) (numbers : List ℕ) (lower : LowerBound low distance numbers) {i : ℕ}
    (is_read : i ∈ (read k low distance numbers).reads) where
  -- it is in the answer once its distance is its low
  in_answer : pair_of low i ∈ scan k (changed distance i (low i)) numbers
  unfolding read unread
  in_answer =
      rw (scan_ranked k lowered low numbers)
      at
      (reading_lowered k low distance lowered i (changed_there distance i (low i)) (λ j other. sym (changed_elsewhere distance i (low i) j other))
      (ranked low numbers) unread (unread_best k lowered) (ranked_sorted low numbers) (λ q m. (member_ranked low numbers m).its_key)
      (ranked_lower low lowered numbers still_lower) Memᴰ.not-nil is_read)
    where
      lowered : ℕ → ℕ
      lowered = changed distance i (low i)

      still_lower : LowerBound low lowered numbers
      still_lower j m = changed_holds distance i (low i) j (λ n v. low n ≤ v) (omega arith) (lower j m)

  -- so the answer changes with its low or, where that is its distance already, with its high
  pub read_needed : (possible : ℕ → ℕ → Type 0) (high : ℕ → ℕ) → Bounds possible low high numbers → i ∈ numbers → low i ≢ high i
      → Needed k possible distance numbers i
  read_needed possible high bounds here differ = go (ℕ_discrete (distance i) (low i))
    where
      go : Dec (distance i ≡ low i) → Needed k possible distance numbers i
      go (yes e) =
          record {
            value = high i;
            is_possible = bounds.high_possible i here;
            changes = λ s.
                differ
                (sym e ∙ (member_scan k (changed distance i (high i)) numbers (rw (← e, changed_same distance i, ← s) at in_answer)).its_key
                ∙ changed_there distance i (high i));
          }
      go (no e) =
          record {
            value = low i;
            is_possible = bounds.low_possible i here;
            changes = λ s. e (sym (member_scan k distance numbers (rw s at in_answer)).its_key);
          }
