-- A batch of queries (document 02, Slip 5): "up to 64 queries, each with its presence word, and one k". "Otherwise each query has its own
-- status, read count, entries and read list, equal to what single calls give in turn": so each is said by the single search's definitions,
-- its buffers being its parts of the lent ones. Assumes nothing.
use Rattle.std.specs.Prelude.{not, List, [], ◌∷◌, ◌++◌, ℕ, ℤ, get_or, Result}
use Rattle.refusal.specs.declared.Refusal.{Refusal}
use Rattle.refusal.specs.declared.Refusal.TheVariants.{Component, Cell}
use Rattle.refusal.specs.Refusal.{Verdict}
use Rattle.refusal.specs.First.{Row, ◌⇒◌, first, outcome}
use Rattle.presence.specs.Presence.{word_causes}
use Rattle.signed.specs.Components.{are_components}
use Rattle.entries.specs.declared.Entry.{Entry}
use Rattle.search.specs.Search.{Index, Query, Room, searched, search_causes, in_own_cells}
use Rattle.search.specs.Answer.{searched_number, searched_count, search_answer, search_entries, search_reads}
use Rattle.search.specs.Ready.{room_of}
use Rattle.batch.specs.declared.Answer.{Answer}
use Rattle.batch.specs.declared.BatchTerms.{BatchTerms}
use Rattle.batch.specs.Parts.{part_at, parts_from, each_from}

-- the numbers of a batch, where each is handed in by itself
abbrev pub batch_terms : ℕ → ℕ → ℕ → ℕ → ℕ → BatchTerms
batch_terms d b n k m = record { d = d; b = b; n = n; k = k; m = m }

-- a library, and m queries of d components with their presence words
pub record Batch : Type 0 where
  pub terms : BatchTerms
  pub queries : List ℤ
  pub words : List ℕ
  pub marks : List ℤ
  pub codes : List ℕ
  pub vectors : List ℤ

abbrev pub batch_of : BatchTerms → List ℤ → List ℕ → List ℤ → List ℕ → List ℤ → Batch
batch_of t queries words marks codes vectors =
    record { terms = t; queries = queries; words = words; marks = marks; codes = codes; vectors = vectors }

-- its library
abbrev pub library_in : Batch → Index
library_in batch = record {
  d = batch.terms.d;
  b = batch.terms.b;
  n = batch.terms.n;
  marks = batch.marks;
  codes = batch.codes;
  vectors = batch.vectors;
}

-- query i, "with its presence word"
abbrev pub query_in : Batch → ℕ → Query
query_in batch i = record { components = part_at batch.terms.d batch.queries i; word = get_or batch.words i 0 }

-- a query's parts of the lent buffers: k entries, and a read list of n
abbrev pub part_room : Batch → Room
part_room batch = room_of batch.terms.k batch.terms.n

-- the single search's verdict on query i
abbrev pub verdict_in : Batch → ℕ → Verdict
verdict_in batch i = first (search_causes (library_in batch) (query_in batch i) batch.terms.k (part_room batch))

-- "an answered query has status 0, a refused one has its number as status, count 0"
abbrev pub answer_of : Result ℕ Refusal → Answer
answer_of answer = record { status = searched_number answer; count = searched_count answer }

abbrev pub answer_in : Batch → ℕ → Answer
answer_in batch i = answer_of (search_answer (verdict_in batch i) (library_in batch) (query_in batch i) batch.terms.k)

-- its entries and its read list; a refused query's are "unchanged"
abbrev pub entries_in : Batch → ℕ → List Entry → List Entry
entries_in batch i part = search_entries (verdict_in batch i) (library_in batch) (query_in batch i) batch.terms.k part

abbrev pub reads_in : Batch → ℕ → List ℕ → List ℕ
reads_in batch i part = search_reads (verdict_in batch i) (library_in batch) (query_in batch i) batch.terms.k part

-- ---- the outcome of a verdict on the batch: a refusal leaves every buffer as it was

abbrev pub batch_answers : Verdict → Batch → List Answer → List Answer
batch_answers v batch answers = outcome v (each_from (answer_in batch) 0 batch.terms.m) (λ _. answers)

abbrev pub batch_entries : Verdict → Batch → List Entry → List Entry
batch_entries v batch entries =
    outcome v (parts_from (λ i. entries_in batch i (part_at batch.terms.k entries i)) 0 batch.terms.m) (λ _. entries)

abbrev pub batch_reads : Verdict → Batch → List ℕ → List ℕ
batch_reads v batch reads =
    outcome v (parts_from (λ i. reads_in batch i (part_at batch.terms.n reads i)) 0 batch.terms.m) (λ _. reads)

-- ---- the causes of one query

-- 6
abbrev pub component_causes : List ℤ → List Row
component_causes query = (not (are_components query) ⇒ Component) ∷ []

-- 19, 18, 6, and 10 while reading
abbrev pub query_causes_in : Batch → ℕ → List Row
query_causes_in batch i =
    let l = library_in batch in
    let query = query_in batch i in
    word_causes l.d query.word
    ++ (component_causes query.components ++ ((not (in_own_cells l (searched l query batch.terms.k).reads) ⇒ Cell) ∷ []))
