-- What reading gives: the best where each vector read lies in its cell, and a refusal otherwise. Assumes nothing.
use Rattle.std.specs.Prelude.{◌≡◌, refl, Bool, true, false, cond, List, [], ◌∷◌, ◌++◌, ℕ, suc, ◌≤◌, ◌<◌, take, get_or, Ok, Err, Result}
use Rattle.std.proofs.Common.{sym, ap, ◌∙◌, arith, take_at}
use Rattle.std.proofs.Math.Bool.{and-eq-true_iff}
use mathlib.Core.List.Memᴰ
use Rattle.std.proofs.Math.ListN.{length}
use Rattle.std.proofs.Math.Seq.{length-take-le}
use Rattle.refusal.specs.declared.Refusal.{Refusal}
use Rattle.refusal.specs.declared.Refusal.TheVariants.{Cell}
use Rattle.order.specs.Pair.{sort, numbers_of, pair_of}
use Rattle.order.specs.Pairs.{pairs_of, keys_of}
use Rattle.order.specs.Members.{◌∈◌}
use Rattle.order.specs.Counted.{counted_length}
use Rattle.selection.specs.Reading.{Reading, read_next, goes_on, reading_order}
use Rattle.order.specs.Ranking.{ranked_count}
use Rattle.selection.specs.Loop.{Reached, after}
use Rattle.selection.proofs.Loop.{after_next, reached_next, reached_first}
use Rattle.selection.proofs.Steps.{next_read}
use Rattle.best_pairs.specs.Gathered.{Gathers, gathers_sorted}
use Rattle.best_pairs.specs.Holds.{HoldsBest}
use Rattle.distance.specs.Values.{values_from, values_length}
use Rattle.search.specs.Ready.{Ready}
use Rattle.least_reading.specs.declared.reading.Task.{Task}
use Rattle.least_reading.specs.Prepared.{PreparedFor, library_of, asked_of}
use Rattle.search.specs.Search.{Index, Query, numbers_in, distance_in, low_in, in_own_cell, in_own_cells, searched}

-- what a reading is lent: the lower bounds, and room for the reading order, for the distances of the best and for their numbers
pub record Lent (factors : List ℕ) (l : Index) (query : Query) (k : ℕ) (lows order words best : List ℕ) : Type 0 where
  pub prepared : PreparedFor factors l query k
  pub lows_are : lows ≡ values_from (low_in l query) 0 l.n
  pub order_room : length order ≡ l.n
  pub words_room : length words ≡ l.n
  pub best_room : length best ≡ k

-- the same of a task
abbrev pub LentTo : Task → List ℕ → List ℕ → List ℕ → List ℕ → Type 0
LentTo task = Lent task.factors (library_of task) (asked_of task) task.terms.k

pub lows_room : {factors : List ℕ} {l : Index} {query : Query} {k : ℕ} {lows order words best : List ℕ}
    → Lent factors l query k lows order words best
    → length lows ≡ l.n
lows_room {l} {query} lent = ap length lent.lows_are ∙ values_length (low_in l query) 0 l.n

-- the outcome of reading: the answer, the numbers read at the front of `order`, and the keys and numbers of the best
pub record Reads (l : Index) (query : Query) (k : ℕ) (r : Result ℕ Refusal) (order keys numbers : List ℕ) : Type 0 where
  pub answer : r ≡ cond (in_own_cells l (searched l query k).reads) (Ok (length (searched l query k).reads)) (Err Cell)
  pub reads_are : in_own_cells l (searched l query k).reads ≡ true → take (length (searched l query k).reads) order
      ≡ (searched l query k).reads
  pub keys_are : in_own_cells l (searched l query k).reads ≡ true → keys ≡ keys_of (searched l query k).best
  pub numbers_are : in_own_cells l (searched l query k).reads ≡ true → numbers ≡ numbers_of (searched l query k).best

-- the outcome of reading the first k: where each lies in its cell, they stand in the two lists with their distances
pub record FirstReads (l : Index) (query : Query) (k : ℕ) (r : Bool) (keys numbers : List ℕ) : Type 0 where
  pub inside : r ≡ true → in_own_cells l (take k (reading_order (low_in l query) (numbers_in l))) ≡ true
  pub gathered : r ≡ true → Gathers k (distance_in l query) (take k (reading_order (low_in l query) (numbers_in l))) keys numbers
  pub outside : r ≡ false → in_own_cells l (searched l query k).reads ≡ false

-- after the first `done` reads
abbrev pub after_reads : Index → Query → ℕ → ℕ → Reading
after_reads l query k done = after k (low_in l query) (distance_in l query) (numbers_in l) done

-- so many were read, each lies in its cell, and the two lists hold the k best
pub record HasRead (l : Index) (query : Query) (k done : ℕ) (keys numbers : List ℕ) : Type 0 where
  pub within : done ≤ l.n
  pub reached : Reached k (low_in l query) (distance_in l query) (numbers_in l) done
  pub holds : HoldsBest k keys numbers k (after_reads l query k done).best
  pub inside : in_own_cells l (after_reads l query k done).reads ≡ true

-- a vector outside its cell is all that is told
pub reads_outside : {l : Index} {query : Query} {k : ℕ} (order keys numbers : List ℕ) → in_own_cells l (searched l query k).reads ≡ false
    → Reads l query k (Err Cell) order keys numbers
reads_outside order keys numbers out =
    record { answer = rw out; reads_are = λ none. cc; keys_are = λ none. cc; numbers_are = λ none. cc }

-- the keys lent as the front of a longer list
pub reads_front : {l : Index} {query : Query} {k : ℕ} {r : Result ℕ Refusal} {order keys numbers : List ℕ} (rest : List ℕ)
    → Reads l query k r order keys numbers → length keys ≡ k → Reads l query k r order (take k (keys ++ rest)) numbers
reads_front {k = k} {keys = keys} rest reads size = rw (take_at keys rest k size) reads

-- ---- cells of several vectors

pub cells_snoc : (l : Index) (is : List ℕ) (i : ℕ) → in_own_cells l is ≡ true → in_own_cell l i ≡ true → in_own_cells l (is ++ (i ∷ [])) ≡ true
unfolding in_own_cells
cells_snoc l [] i all one = rw one
cells_snoc l (j ∷ is) i all one =
    let both = (and-eq-true_iff (in_own_cell l j) (in_own_cells l is)).0 all in
    rw (both.0, cells_snoc l is i both.1 one)

cells_member : (l : Index) (is : List ℕ) {i : ℕ} → in_own_cells l is ≡ true → i ∈ is → in_own_cell l i ≡ true
unfolding in_own_cells
cells_member l [] {i} all m = elim m [ ]
cells_member l (j ∷ is) all (Memᴰ.head e) = rw e ((and-eq-true_iff (in_own_cell l j) (in_own_cells l is)).0 all).0
cells_member l (j ∷ is) all (Memᴰ.tail m) = cells_member l is ((and-eq-true_iff (in_own_cell l j) (in_own_cells l is)).0 all).1 m

-- one that is not in its cell
pub cells_fail : (l : Index) (is : List ℕ) {i : ℕ} → in_own_cell l i ≡ false → i ∈ is → in_own_cells l is ≡ false
cells_fail l is {i} out m = go (in_own_cells l is) refl
  where
    go : (b : Bool) → in_own_cells l is ≡ b → b ≡ false
    go false e = refl
    go true e = sym (cells_member l is e m) ∙ out

-- ---- the loop

module _ (l : Index) (query : Query) (k done : ℕ) (more : done < l.n) where
  within : done < length (numbers_in l)
  within = omega (arith, counted_length 0 l.n)

  -- the next is in its cell
  pub next_in_cell : in_own_cells l (after k (low_in l query) (distance_in l query) (numbers_in l) done).reads ≡ true
      → in_own_cell l (get_or (reading_order (low_in l query) (numbers_in l)) done 0) ≡ true
      → in_own_cells l (after k (low_in l query) (distance_in l query) (numbers_in l) (suc done)).reads ≡ true
  unfolding read_next
  next_in_cell all one = rw (after_next k (low_in l query) (distance_in l query) (numbers_in l) done within) (cells_snoc l _ _ all one)

  -- the next is read, and not in its cell
  pub next_outside : Reached k (low_in l query) (distance_in l query) (numbers_in l) done
      → goes_on k (after k (low_in l query) (distance_in l query) (numbers_in l) done).best
      (pair_of (low_in l query) (get_or (reading_order (low_in l query) (numbers_in l)) done 0)) ≡ true
      → in_own_cell l (get_or (reading_order (low_in l query) (numbers_in l)) done 0) ≡ false → in_own_cells l (searched l query k).reads ≡ false
  next_outside reached goes out =
      let rest = (reached_next k (low_in l query) (distance_in l query) (numbers_in l) done reached within goes).rest in
      cells_fail l (searched l query k).reads out
      (rw (← rest, after_next k (low_in l query) (distance_in l query) (numbers_in l) done within) (next_read k (distance_in l query) _ _ _))

-- ---- the first k

module _ {l : Index} {query : Query} {k : ℕ} {r : Bool} {keys best : List ℕ} (first_reads : FirstReads l query k r keys best) where
  -- sorted
  pub first_sorted : Ready l query k → r ≡ true → {keys-then best-then : List ℕ} → keys-then ≡ keys_of (sort (pairs_of keys best))
      → best-then ≡ numbers_of (sort (pairs_of keys best)) → HasRead l query k k keys-then best-then
  unfolding after
  first_sorted is all sorted-keys sorted-best =
      let order = reading_order (low_in l query) (numbers_in l) in
      let long : length order ≡ l.n = ranked_count (low_in l query) (numbers_in l) ∙ counted_length 0 l.n in
      let full : length (take k order) ≡ k = length-take-le k order (omega (arith, is.enough)) in
      record {
        within = is.enough;
        reached = reached_first k (low_in l query) (distance_in l query) (numbers_in l) k (omega arith)
            (omega (arith, is.enough, counted_length 0 l.n));
        holds = gathers_sorted (first_reads.gathered all) full sorted-keys sorted-best;
        inside = first_reads.inside all;
      }

  -- one is not in its cell
  pub first_outside : r ≡ false → (order keys-then best-then : List ℕ) → Reads l query k (Err Cell) order keys-then best-then
  first_outside out order keys-then best-then = reads_outside order keys-then best-then (first_reads.outside out)
