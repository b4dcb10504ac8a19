-- The answer of a match (document 01, "The program") and a refusal, as text. Assumes nothing.
use Rattle.std.specs.Prelude.{List, [], ◌∷◌, ◌++◌, ℕ, length, get_or}
use Rattle.refusal.specs.declared.Refusal.{Refusal}
use Rattle.refusal.specs.Refusal.{number_of}
use Rattle.order.specs.Pair.{Pair}
use Rattle.selection.specs.Reading.{Reading}
use Rattle.approximation.specs.Vectors.{vector_codes}
use Rattle.search.specs.Search.{Index as Searchable, Query, searched}
use Rattle.library.specs.Library.{Library}
use Rattle.text.specs.Text.{line, refused_line}

-- the library, with the codes that packing gives for its vectors
abbrev pub searchable : Library → Searchable
searchable l = record {
  d = l.d;
  b = l.b;
  n = l.n;
  marks = l.marks;
  codes = vector_codes l.d l.b l.n l.marks l.components;
  vectors = l.components;
}

-- "Its first fault from the left comes out as `refused ` and the number"
abbrev pub refused_text : Refusal → List ℕ
refused_text cause = refused_line (number_of cause)

-- "then one line for each entry: number, settings, distance"
abbrev pub entry_line : List ℕ → Pair → List ℕ
entry_line settings p = line p.number (get_or settings p.number 0 ∷ p.key ∷ [])

unfoldable pub entry_lines : List ℕ → List Pair → List ℕ
entry_lines settings [] = []
entry_lines settings (p ∷ ps) = entry_line settings p ++ entry_lines settings ps

-- "line one is k and the read count"
abbrev pub lines_of : List ℕ → ℕ → ℕ → List Pair → List ℕ
lines_of settings k count best = line k (count ∷ []) ++ entry_lines settings best

abbrev pub answer_lines : List ℕ → ℕ → Reading → List ℕ
answer_lines settings k reading = lines_of settings k (length reading.reads) reading.best

-- the k nearest vectors to the query
abbrev pub answer_text : Library → Query → ℕ → List ℕ
answer_text l query k = answer_lines l.settings k (searched (searchable l) query k)
