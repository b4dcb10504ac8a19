use Rattle.std.proofs.Common.{◌≡◌, ◌≤◌, refl, sym, ap, ◌∙◌, Bool, cond, ℕ, List, ◌++◌, length, take, drop, take_at, length-take-le, arith, Ok, Err}
use Rattle.refusal.specs.declared.Refusal.TheVariants.{Cell}
use Rattle.refusal.specs.First.{first, handed_on, outcome_accepted}
use Rattle.order.specs.Pairs.{pairs_of, pairs_both}
use Rattle.order.specs.Counted.{counted_length}
use Rattle.selection.proofs.Theorems.{reads_count}
use Rattle.entries.specs.declared.Entry.{Entry}
use Rattle.entries.specs.Entries.{entries_of, in_array}
use Rattle.search.specs.declared.Found.{Found}
use Rattle.search.specs.Answer.{found_of, search_reads}
use Rattle.search.specs.Search.{Index, Query, numbers_in, distance_in, low_in, in_own_cells, searched}
use Rattle.least_reading.specs.Prepared.{library_of, asked_of}
use Rattle.least_reading.specs.Answered.{Reads}
use Rattle.least_reading.specs.Searching.{TellsRead, cell_causes, searches_none, tells_read, tells_refused, cells_accepted, cells_refused}
use Rattle.least_reading.proofs.search_bounded.Goals as goal

-- what was read, its best and its cells
module _ {l : Index} {query : Query} {k : ℕ} {order keys best : List ℕ} {count : ℕ} (read : Reads l query k (Ok count) order keys best) where
  told : TellsRead (in_own_cells l (searched l query k).reads) (length (searched l query k).reads) count
  told = tells_read _ _ _ (sym read.answer)

  few : count ≤ l.n
  few = omega (arith, told.all_read, reads_count k (low_in l query) (distance_in l query) (numbers_in l), counted_length 0 l.n)

  found_is : {numbers : List ℕ} {entries : List Entry} → numbers ≡ best → entries ≡ in_array (entries_of (pairs_of keys numbers))
      → ◌≡◌ {A = Found} (record { entries = entries; count = count }) (found_of l query k)
  found_is same are =
      rw (are, same, read.keys_are told.in_cells, read.numbers_are told.in_cells, pairs_both (searched l query k).best, told.all_read) refl

  reads_is : (reads : List ℕ) {reads_then : List ℕ} → reads_then ≡ take count order ++ drop count reads
      → reads_then ≡ search_reads (first (cell_causes l query k)) l query k reads
  reads_is reads put =
      put
      ∙ ap (λ (m : ℕ). take m order ++ drop m reads) told.all_read
      ∙ ap (λ (front : List ℕ). front ++ drop (length (searched l query k).reads) reads) (read.reads_are told.in_cells)
      ∙ sym (outcome_accepted _ _ (cells_accepted l query k told.in_cells))

pub returns : goal.returns
returns c =
    let a = c.args in
    let task = a.task.now in
    let k = task.terms.k in
    let read = c.in_ok-count.ensures in
    let l = library_of task in
    let q = asked_of task in
    let size = c.read_in_order.auto.best ∙ length-take-le _ _ c.requires.fact.0.ready.few in
    record {
      found = ap (λ (found : Found). Ok found) (found_is read (take_at c.read_in_order.new.best _ k size) c.entries_of.ensures)
          ∙ sym (outcome_accepted _ _ (cells_accepted l q k (told read).in_cells));
      reads_are = reads_is read a.reads.now c.put_numbers.ensures;
    }

pub returns-in_err-count : goal.returns-in_err-count
returns-in_err-count c =
    let a = c.args in
    let task = a.task.now in
    let k = task.terms.k in
    let read = c.in_err-count.ensures in
    let l = library_of task in
    let q = asked_of task in
    let out = tells_refused _ _ _ (sym read.answer) in
    let its = read.answer ∙ ap (λ (cells : Bool). cond cells (Ok (length (searched l q k).reads)) (Err Cell)) out in
    searches_none a.reads.now (cells_refused l q k out ∙ cc (its)) (handed_on c.from_residual.ensures.1)
