-- The entries of an answer and their lines. Assumes nothing.
use Rattle.std.specs.Prelude.{◌≡◌, refl, List, [], ◌∷◌, ◌++◌, ℕ, zero, suc, ◌+◌, ◌≤◌, ◌<◌, length, get_or, take, drop}
use Rattle.std.proofs.Common.{ap, add-one, arith, drop_of_length-le, drop-cons}
use mathlib.Core.List.Memᴰ
use Rattle.limits.specs.Limits.{max_neighbours}
use Rattle.order.specs.Pair.{Pair}
use Rattle.order.specs.Pairs.{pair}
use Rattle.order.specs.Members.{◌∈◌}
use Rattle.order.specs.Counted.{counted}
use Rattle.selection.proofs.Theorems.{reads_among, best_entries}
use Rattle.search.specs.Search.{Index as Searchable, Query, numbers_in, distance_in, low_in, searched}
use Rattle.entries.specs.declared.Entry.{Entry}
use Rattle.entries.specs.Entries.{entries_of}
use Rattle.matching.specs.Answer.{entry_line, entry_lines}

-- entries as pairs
unfoldable pub pairs_in : List Entry → List Pair
pairs_in [] = []
pairs_in (e ∷ es) = pair e.distance e.number ∷ pairs_in es

pub pairs_back : (ps : List Pair) → pairs_in (entries_of ps) ≡ ps
unfolding pairs_in entries_of
pairs_back [] = refl
pairs_back (p ∷ ps) = ap {B = List Pair} (λ rest. p ∷ rest) (pairs_back ps)

-- the first k of an array's entries are there, and there are settings for the number of each
pub record Listed (k : ℕ) (settings : List ℕ) (entries : List Entry) : Type 0 where
  pub few : k ≤ max_neighbours
  pub named : (p : Pair) → p ∈ pairs_in (take k entries) → p.number < length settings

pub number_below : (n : ℕ) (es : List Entry) (none : Entry) → ((p : Pair) → p ∈ pairs_in es → p.number < n) → (i : ℕ) → i < length es
    → (get_or es i none).number < n
unfolding pairs_in
number_below n [] none below i within = absurd (omega arith)
number_below n (e ∷ es) none below zero within = below _ (Memᴰ.head refl)
number_below n (e ∷ es) none below (suc i) within = number_below n es none (λ p m. below p (Memᴰ.tail m)) i (omega arith)

-- the numbers that the search reads and answers are those of vectors
pub read_below : (l : Searchable) (query : Query) (k i : ℕ) → i ∈ (searched l query k).reads → i < l.n
read_below l query k i m = omega (arith, (counted 0 l.n (reads_among k (low_in l query) (distance_in l query) (numbers_in l) m)).below)

pub best_below : (l : Searchable) (query : Query) (k : ℕ) (p : Pair) → p ∈ (searched l query k).best → p.number < l.n
best_below l query k p m =
    read_below l query k p.number (best_entries k (low_in l query) (distance_in l query) (numbers_in l) m).its_number

-- the lines of the entries from index i on
abbrev pub lines_from : List ℕ → List Entry → ℕ → List ℕ
lines_from settings entries i = entry_lines settings (pairs_in (drop i entries))

pub lines_next : (settings : List ℕ) (entries : List Entry) (none : Entry) (i : ℕ) → i < length entries
    → let e = get_or entries i none in
    lines_from settings entries i ≡ entry_line settings (pair e.distance e.number) ++ lines_from settings entries (i + 1)
unfolding entry_lines pairs_in
lines_next settings entries none i within = rw (drop-cons entries i none within, add-one i)

pub lines_none : (settings : List ℕ) (entries : List Entry) (i : ℕ) → length entries ≤ i → lines_from settings entries i ≡ []
unfolding entry_lines pairs_in
lines_none settings entries i past = rw (drop_of_length-le entries past)
