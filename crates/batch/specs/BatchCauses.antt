-- The causes for which a batch is refused whole (document 02, Slip 5): "Causes of the library (10 aside, which is the query's), of k and of
-- lengths refuse the batch whole", and "22, more than 64 queries, before all else". Assumes nothing.
use Rattle.std.specs.Prelude.{Bool, not, ◌&&◌, List, [], ◌∷◌, ◌++◌, ℕ, ◌*◌, leb, eqb, ℤ, length}
use Rattle.refusal.specs.declared.Refusal.TheVariants.{Count, Neighbours, Length, Mark, Code, TooManyQueries}
use Rattle.refusal.specs.First.{Row, ◌⇒◌}
use Rattle.limits.specs.Limits.{max_queries, is_vector_count, is_neighbour_count}
use Rattle.layout.specs.Layout.{first_marks, code_length}
use Rattle.layout.specs.Stretch.{shape_causes}
use Rattle.partition.specs.Marks.{good_marks}
use Rattle.cells.specs.Cells.{good_codes}
use Rattle.batch.specs.declared.BatchTerms.{BatchTerms}
use Rattle.batch.specs.declared.BatchLengths.{BatchLengths}
use Rattle.batch.specs.Batch.{Batch}

-- the lengths of a batch's buffers, where so many answers, entries and numbers of vectors read are lent
abbrev pub lengths_of : Batch → ℕ → ℕ → ℕ → BatchLengths
lengths_of batch answers entries reads = record {
  queries = length batch.queries;
  words = length batch.words;
  vectors = length batch.vectors;
  answers = answers;
  entries = entries;
  reads = reads;
}

-- every buffer has its exact length
abbrev pub exact_batch : BatchTerms → BatchLengths → ℕ → ℕ → Bool
exact_batch t lengths marks codes =
    ((((eqb marks (first_marks t.d t.b t.d)
    && eqb codes (code_length t.b t.n))
    && eqb lengths.vectors (t.n * t.d))
    && (eqb lengths.queries (t.m * t.d) && eqb lengths.words t.m))
    && eqb lengths.answers t.m)
    && (eqb lengths.entries (t.m * t.k) && eqb lengths.reads (t.m * t.n))

-- 3, 4, 5, 7, 9
abbrev pub shaped_batch_causes : BatchTerms → BatchLengths → List ℤ → List ℕ → List Row
shaped_batch_causes t lengths marks codes =
    (not (is_vector_count t.n) ⇒ Count)
    ∷ (not (is_neighbour_count t.n t.k) ⇒ Neighbours)
    ∷ (not (exact_batch t lengths (length marks) (length codes)) ⇒ Length)
    ∷ (not (good_marks t.d t.b marks) ⇒ Mark)
    ∷ (not (good_codes t.d t.b t.n marks codes) ⇒ Code)
    ∷ []

-- 22, 1, 2, and those behind them
abbrev pub batch_causes : BatchTerms → BatchLengths → List ℤ → List ℕ → List Row
batch_causes t lengths marks codes =
    (not (leb t.m max_queries) ⇒ TooManyQueries) ∷ (shape_causes t.d t.b ++ shaped_batch_causes t lengths marks codes)
