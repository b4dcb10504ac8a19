-- the first `done` of the reading order lie in their cells and stand in the two lists
use Rattle.std.proofs.Common.{◌≡◌, ℕ, ◌≤◌, true, List, take}
use Rattle.selection.specs.Reading.{reading_order}
use Rattle.best_pairs.specs.Gathered.{Gathers}
use Rattle.search.specs.Search.{Index, Query, numbers_in, distance_in, low_in, in_own_cells}
use Rattle.least_reading.specs.Prepared.{library_of, asked_of}
use Rattle.least_reading.proofs.reading.read_first.Given as goal

pub record State (l : Index) (query : Query) (k done : ℕ) (keys best : List ℕ) : Type 0 where
  pub within : done ≤ k
  pub gathers : Gathers k (distance_in l query) (take done (reading_order (low_in l query) (numbers_in l))) keys best
  pub inside : in_own_cells l (take done (reading_order (low_in l query) (numbers_in l))) ≡ true

abbrev pub invariant-loop-done : goal.invariant-loop-done
invariant-loop-done l =
    let task = l.fn.task in
    State (library_of task) (asked_of task) task.terms.k l.done l.keys l.best
