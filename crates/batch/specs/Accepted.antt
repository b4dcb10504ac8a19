-- What holds where a batch is not refused whole: each of its queries has the single search's verdict by its own causes alone, and finds its
-- library ready. Assumes nothing.
use Rattle.std.specs.Prelude.{◌≡◌, true, List, ℕ, ◌*◌, ◌≤◌, ◌<◌, length, drop, Ok, Err}
use Rattle.std.proofs.Math.Path.{refl}
use Rattle.std.proofs.Common.{ap, ◌∙◌, arith, leb-true, eqb-true, length-append, length-drop, length-take}
use Rattle.std.proofs.Math.Bool.{and-eq-true_iff}
use Rattle.std.proofs.lemmas.Bool.{not-false}
use Rattle.refusal.specs.Refusal.{Verdict}
use Rattle.refusal.specs.First.{first, passed, accepted_front, accepted_behind}
use Rattle.limits.specs.Limits.{max_vectors, max_queries, is_vector_count, is_neighbour_count, is_dimension_count, is_bits}
use Rattle.limits.specs.Tests.{between, neighbours}
use Rattle.presence.specs.Presence.{word_causes}
use Rattle.signed.specs.Components.{are_components}
use Rattle.order.specs.Counted.{counted_length}
use Rattle.order.specs.Ranking.{ranked_count}
use Rattle.layout.specs.Layout.{first_marks, code_length}
use Rattle.layout.specs.Stretch.{shape_causes, shape}
use Rattle.partition.specs.Marks.{good_marks}
use Rattle.cells.specs.Cells.{good_codes}
use Rattle.entries.specs.declared.Entry.{Entry}
use Rattle.entries.specs.EntryLaws.{entries_length}
use Rattle.search.specs.Search.{Index, Query, numbers_in, low_in, searched}
use Rattle.search.specs.Accepted.{lengths_exact, best_size}
use Rattle.search.specs.Ready.{Ready}
use Rattle.search.specs.Theorems.{reads_are_the_order}
use Rattle.batch.specs.PartLaws.{part_length}
use Rattle.batch.specs.Batch.{Batch, library_in, query_in, part_room, verdict_in, entries_in, reads_in, query_causes_in}
use Rattle.batch.specs.BatchCauses.{lengths_of, exact_batch, shaped_batch_causes, batch_causes}

-- the library is good, and each query has its part
pub record Batched (batch : Batch) : Type 0 where
  pub few : batch.terms.m ≤ max_queries
  pub shaped : first (shape_causes batch.terms.d batch.terms.b) ≡ Ok tt
  pub dimensions : is_dimension_count batch.terms.d ≡ true
  pub bits : is_bits batch.terms.d batch.terms.b ≡ true
  pub count : is_vector_count batch.terms.n ≡ true
  pub neighbours : is_neighbour_count batch.terms.n batch.terms.k ≡ true
  pub marks : good_marks batch.terms.d batch.terms.b batch.marks ≡ true
  pub codes : good_codes batch.terms.d batch.terms.b batch.terms.n batch.marks batch.codes ≡ true
  pub of_queries : length batch.queries ≡ batch.terms.m * batch.terms.d
  pub of_words : length batch.words ≡ batch.terms.m
  pub of_marks : length batch.marks ≡ first_marks batch.terms.d batch.terms.b batch.terms.d
  pub of_codes : length batch.codes ≡ code_length batch.terms.b batch.terms.n
  pub of_vectors : length batch.vectors ≡ batch.terms.n * batch.terms.d

-- and so has each answer
pub record Entered (batch : Batch) (answers entries reads : ℕ) : Type 0 where
  pub ready : Batched batch
  pub of_answers : answers ≡ batch.terms.m
  pub of_entries : entries ≡ batch.terms.m * batch.terms.k
  pub of_reads : reads ≡ batch.terms.m * batch.terms.n

pub entered : (batch : Batch) (answers entries reads : ℕ)
    → first (batch_causes batch.terms (lengths_of batch answers entries reads) batch.marks batch.codes) ≡ Ok tt
    → Entered batch answers entries reads
entered batch answers entries reads accepted =
    let t = batch.terms in
    let lengths = lengths_of batch answers entries reads in
    let rows = shaped_batch_causes t lengths batch.marks batch.codes in
    let queries = passed _ _ _ accepted in
    let shaped = accepted_front (shape_causes t.d t.b) rows queries.rest in
    let dimensions = passed _ _ _ shaped in
    let bits = passed _ _ _ dimensions.rest in
    let count = passed _ _ _ (accepted_behind (shape_causes t.d t.b) rows queries.rest) in
    let neighbours = passed _ _ _ count.rest in
    let exact = passed _ _ _ neighbours.rest in
    let marks = passed _ _ _ exact.rest in
    let codes = passed _ _ _ marks.rest in
    let all = (and-eq-true_iff _ _).0 (not-false (exact_batch t lengths (length batch.marks) (length batch.codes)) exact.fails) in
    let room = (and-eq-true_iff _ _).0 all.1 in
    let answered = (and-eq-true_iff _ _).0 all.0 in
    let asked = (and-eq-true_iff _ _).0 answered.0 in
    let queried = (and-eq-true_iff _ _).0 asked.1 in
    let stored = (and-eq-true_iff _ _).0 asked.0 in
    let coded = (and-eq-true_iff _ _).0 stored.0 in
    record {
      ready = record {
        few = leb-true t.m max_queries (not-false _ queries.fails);
        shaped = shaped;
        dimensions = not-false (is_dimension_count t.d) dimensions.fails;
        bits = not-false (is_bits t.d t.b) bits.fails;
        count = not-false (is_vector_count t.n) count.fails;
        neighbours = not-false (is_neighbour_count t.n t.k) neighbours.fails;
        marks = not-false (good_marks t.d t.b batch.marks) marks.fails;
        codes = not-false (good_codes t.d t.b t.n batch.marks batch.codes) codes.fails;
        of_queries = eqb-true _ _ queried.0;
        of_words = eqb-true _ _ queried.1;
        of_marks = eqb-true _ _ coded.0;
        of_codes = eqb-true _ _ coded.1;
        of_vectors = eqb-true _ _ stored.1;
      };
      of_answers = eqb-true _ _ answered.1;
      of_entries = eqb-true _ _ room.0;
      of_reads = eqb-true _ _ room.1;
    }

module _ {batch : Batch} (is : Batched batch) (i : ℕ) (below : i < batch.terms.m) where
  -- a query has d components
  pub query_length : length (query_in batch i).components ≡ batch.terms.d
  query_length = part_length batch.terms.d batch.terms.m i batch.queries is.of_queries below

  -- "equal to what single calls give in turn": of the single search's causes its own alone are left
  pub own_causes_lem : verdict_in batch i ≡ first (query_causes_in batch i)
  unfolding first
  own_causes_lem =
      let exact = lengths_exact (library_in batch) (query_in batch i) batch.terms.k (part_room batch) (record {
        of_query = query_length;
        of_marks = is.of_marks;
        of_codes = is.of_codes;
        of_vectors = is.of_vectors;
        of_entries = refl;
        of_reads = refl;
      }) in
      rw (is.dimensions, is.bits, is.count, is.neighbours, exact, is.marks, is.codes) refl

  -- where neither its word nor its components refuse it, it can be read for
  pub query_ready : first (word_causes batch.terms.d (query_in batch i).word) ≡ Ok tt
      → are_components (query_in batch i).components ≡ true
      → Ready (library_in batch) (query_in batch i) batch.terms.k
  query_ready word components =
      let among = neighbours batch.terms.n batch.terms.k is.count is.neighbours in
      record {
        shaped = is.shaped;
        dimensions = (shape _ _ is.shaped).few;
        count = (between 1 batch.terms.n max_vectors is.count).below;
        some = among.some;
        enough = among.enough;
        few = among.few;
        word = word;
        of_query = query_length;
        of_marks = is.of_marks;
        of_codes = is.of_codes;
        of_vectors = is.of_vectors;
        components = components;
        marks = is.marks;
        codes = is.codes;
      }

-- ---- each part keeps its length

reads_few : (l : Index) (query : Query) (k : ℕ) → length (searched l query k).reads ≤ l.n
reads_few l query k =
    let order = ranked_count (low_in l query) (numbers_in l) ∙ counted_length 0 l.n in
    let count = ap length (reads_are_the_order l query k) ∙ length-take (length (searched l query k).reads) _ in
    omega (arith, order, count)

pub entries_part : (batch : Batch) (i : ℕ) (part : List Entry) → length part ≡ batch.terms.k → length (entries_in batch i part) ≡ batch.terms.k
entries_part batch i part size = go (verdict_in batch i) refl
  where
    go : (v : Verdict) → verdict_in batch i ≡ v → length (entries_in batch i part) ≡ batch.terms.k
    go (Ok _) held =
        rw held (entries_length (searched (library_in batch) (query_in batch i) batch.terms.k).best
        ∙ best_size (library_in batch) (query_in batch i) batch.terms.k (part_room batch) held)
    go (Err cause) held = rw held size

pub reads_part : (batch : Batch) (i : ℕ) (part : List ℕ) → length part ≡ batch.terms.n → length (reads_in batch i part) ≡ batch.terms.n
reads_part batch i part size = go (verdict_in batch i) refl
  where
    reading : List ℕ
    reading = (searched (library_in batch) (query_in batch i) batch.terms.k).reads

    go : (v : Verdict) → verdict_in batch i ≡ v → length (reads_in batch i part) ≡ batch.terms.n
    go (Ok _) held =
        rw held (omega (
          arith,
          length-append reading (drop (length reading) part),
          length-drop (length reading) part,
          reads_few (library_in batch) (query_in batch i) batch.terms.k,
          size,
        ))
    go (Err cause) held = rw held size
