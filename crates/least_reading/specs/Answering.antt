-- The buffers of a batch while its queries are answered one after the other: what is written up to a query, and one query more. Assumes
-- nothing.
use Rattle.std.specs.Prelude.{◌≡◌, refl, List, ◌++◌, ℕ, ◌+◌, ◌*◌, ◌≤◌, ◌<◌, length, take, drop, set, Result}
use Rattle.std.proofs.Common.{sym, ap, ◌∙◌, zero-mul, arith, take-append-drop, length-take-le}
use borrow.Rule.Slice.PartMut.{put_same}
use Rattle.refusal.specs.declared.Refusal.{Refusal}
use Rattle.limits.specs.Limits.{max_neighbours}
use Rattle.entries.specs.declared.Entry.{Entry}
use Rattle.entries.specs.Entries.{in_array}
use Rattle.entries.specs.Filled.{filled, fitting, filled_within, fitting_fits}
use Rattle.batch.specs.declared.Answer.{Answer}
use Rattle.batch.specs.Parts.{part_at, parts_from, each_from, with_part}
use Rattle.batch.specs.PartLaws.{each_length, each_of, parts_length, parts_at, part_ends, part_length, changed, changed_all, changed_rest, changed_part, changed_one}
use Rattle.batch.specs.Batch.{Batch, answer_of, answer_in, entries_in, reads_in}
use Rattle.batch.specs.Accepted.{Entered, entries_part, reads_part}
use Rattle.least_reading.specs.Turned.{Turned}

-- an answer that stands for none
abbrev pub no_answer : Answer
no_answer = record { status = 0; count = 0 }

module _ (batch : Batch) (answers : List Answer) (entries : List Entry) (reads : List ℕ) where
  abbrev k : ℕ
  k = batch.terms.k

  abbrev n : ℕ
  n = batch.terms.n

  abbrev m : ℕ
  m = batch.terms.m

  -- what each query writes
  abbrev entries_of_query : ℕ → List Entry
  entries_of_query i = entries_in batch i (part_at k entries i)

  abbrev reads_of_query : ℕ → List ℕ
  reads_of_query i = reads_in batch i (part_at n reads i)

  -- the buffers with the queries before i answered
  abbrev pub answers_after : ℕ → List Answer
  answers_after i = changed i (each_from (answer_in batch) 0 m) answers

  abbrev pub entries_after : ℕ → List Entry
  entries_after i = changed (i * k) (parts_from entries_of_query 0 m) entries

  abbrev pub reads_after : ℕ → List ℕ
  reads_after i = changed (i * n) (parts_from reads_of_query 0 m) reads

  -- ---- before the first

  pub entries_begun : entries_after 0 ≡ entries
  entries_begun = rw (zero-mul k) refl

  pub reads_begun : reads_after 0 ≡ reads
  reads_begun = rw (zero-mul n) refl

  -- ---- where the batch is not refused

  module _ (is : Entered batch (length answers) (length entries) (length reads)) where
    entries_sizes : (i : ℕ) → i < m → length (entries_of_query i) ≡ k
    entries_sizes i below = entries_part batch i (part_at k entries i) (part_length k m i entries is.of_entries below)

    reads_sizes : (i : ℕ) → i < m → length (reads_of_query i) ≡ n
    reads_sizes i below = reads_part batch i (part_at n reads i) (part_length n m i reads is.of_reads below)

    answers_same : length (each_from (answer_in batch) 0 m) ≡ length answers
    answers_same = each_length (answer_in batch) 0 m ∙ sym is.of_answers

    entries_same : length (parts_from entries_of_query 0 m) ≡ length entries
    entries_same = parts_length entries_of_query k m entries_sizes ∙ sym is.of_entries

    reads_same : length (parts_from reads_of_query 0 m) ≡ length reads
    reads_same = parts_length reads_of_query n m reads_sizes ∙ sym is.of_reads

    module _ (i : ℕ) (below : i < m) where
      -- the part of query i is still as it was
      entries_rest : part_at k (entries_after i) i ≡ part_at k entries i
      entries_rest =
          changed_rest (parts_from entries_of_query 0 m) entries entries_same k (i * k) (omega (arith, is.of_entries, part_ends k m i below))

      reads_rest : part_at n (reads_after i) i ≡ part_at n reads i
      reads_rest =
          changed_rest (parts_from reads_of_query 0 m) reads reads_same n (i * n) (omega (arith, is.of_reads, part_ends n m i below))

      -- one query more
      module _ {r : Result ℕ Refusal} {entries_then : List Entry} {reads_then : List ℕ}
          (turned : Turned batch i r (entries_after i) entries_then (reads_after i) reads_then) where
        pub answers_next : set (answers_after i) i (answer_of r) ≡ answers_after (i + 1)
        answers_next =
            ap (set (answers_after i) i) (ap answer_of turned.answer_is ∙ sym (each_of (answer_in batch) m i no_answer below))
            ∙ changed_one i (each_from (answer_in batch) 0 m) answers no_answer (omega (arith, each_length (answer_in batch) 0 m))
            (omega (arith, is.of_answers))

        pub reads_next : reads_then ≡ reads_after (i + 1)
        reads_next =
            turned.reads_are
            ∙ ap (λ (part : List ℕ). with_part n i part (reads_after i))
            (ap (reads_in batch i) reads_rest ∙ sym (parts_at reads_of_query n m reads_sizes i below))
            ∙ changed_part (parts_from reads_of_query 0 m) reads reads_same n m i is.of_reads below

        pub entries_next : entries_then ≡ entries_after (i + 1)
        entries_next =
            turned.entries_are
            ∙ ap (λ (part : List Entry). with_part k i part (entries_after i))
            (ap (entries_in batch i) entries_rest ∙ sym (parts_at entries_of_query k m entries_sizes i below))
            ∙ changed_part (parts_from entries_of_query 0 m) entries entries_same k m i is.of_entries below

    -- at the end the buffers are what the contract says
    pub record Ended : Type 0 where
      pub answers_are : answers_after m ≡ each_from (answer_in batch) 0 m
      pub entries_are : entries_after m ≡ parts_from entries_of_query 0 m
      pub reads_are : reads_after m ≡ parts_from reads_of_query 0 m

    pub ended : Ended
    ended = record {
      answers_are = changed_all (each_from (answer_in batch) 0 m) answers answers_same m (sym is.of_answers);
      entries_are = changed_all (parts_from entries_of_query 0 m) entries entries_same (m * k) (sym is.of_entries);
      reads_are = changed_all (parts_from reads_of_query 0 m) reads reads_same (m * n) (sym is.of_reads);
    }

-- ---- one query's entries

-- those that were found over their part
module _ (size m i : ℕ) (below : i < m) (entries : List Entry) (all : length entries ≡ m * size) where
  part_ends_within : i * size + size ≤ length entries
  part_ends_within = omega (arith, all, part_ends size m i below)

  pub part_filled : (es : List Entry) → length es ≡ size → size ≤ max_neighbours
      → filled (in_array es) entries (i * size) (fitting (length entries) (i * size) size) ≡ with_part size i es entries
  part_filled es of_es few =
      let front = take (i * size) entries in
      let part = part_at size entries i in
      let rest = drop size (drop (i * size) entries) in
      let front_size : length front ≡ i * size = length-take-le (i * size) entries (omega (arith, part_ends_within)) in
      let part_size : length part ≡ size = part_length size m i entries all below in
      let whole : front ++ (part ++ rest) ≡ entries =
      ap (λ (l : List Entry). front ++ l) (take-append-drop size (drop (i * size) entries)) ∙ take-append-drop (i * size) entries in
      let written = filled_within es front part rest (part_size ∙ sym of_es) (omega (arith, of_es, few)) in
      ap (filled (in_array es) entries (i * size)) (fitting_fits (length entries) (i * size) size few part_ends_within)
      ∙ sym (ap (λ (l : List Entry). filled (in_array es) l (i * size) size) whole)
      ∙ (rw (front_size, of_es) at written)

-- a part that is as it was
pub part_kept : {A : Type 0} (size i : ℕ) (buffer : List A) → buffer ≡ with_part size i (part_at size buffer i) buffer
part_kept size i buffer = sym (put_same (i * size) size buffer)
