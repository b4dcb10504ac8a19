-- A search that nothing refuses at its entry, with the factors of its query's dimensions, and the same of a task. Assumes nothing.
use Rattle.std.specs.Prelude.{◌≡◌, List, ℕ}
use Rattle.search.specs.Search.{Index, Query, factors_in}
use Rattle.search.specs.Ready.{index_of, query_of, Ready}
use Rattle.least_reading.specs.declared.reading.Task.{Task}

pub record PreparedFor (factors : List ℕ) (l : Index) (query : Query) (k : ℕ) : Type 0 where
  pub ready : Ready l query k
  pub weighed : factors ≡ factors_in query

-- a task's library and its query
abbrev pub library_of : Task → Index
library_of task = index_of task.terms task.marks.now task.codes.now task.vectors.now

abbrev pub asked_of : Task → Query
asked_of task = query_of task.terms task.query.now

abbrev pub Prepared : Task → Type 0
Prepared task = PreparedFor task.factors (library_of task) (asked_of task) task.terms.k
