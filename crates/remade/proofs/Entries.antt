-- So a search of a library remade is refused as before, and leaves the entries that it left. Assumes nothing.
use Rattle.std.specs.Prelude.{◌≡◌, true, List}
use Rattle.std.proofs.Common.{ap}
use Prim.Native.Nat.{ℕ}
use Rattle.refusal.specs.First.{first}
use Rattle.partition.specs.Marks.{good_marks}
use Rattle.approximation.specs.OwnCodes.{own_good}
use Rattle.entries.specs.declared.Entry.{Entry}
use Rattle.search.specs.Search.{Index, Query, Room, search_causes}
use Rattle.search.specs.Answer.{search_entries}
use Rattle.search.specs.Theorems.{own_reads}
use Rattle.remade.specs.Former.{former_passes}
use Rattle.remade.specs.Remade.{FormerLibrary, remade}
use Rattle.remade.proofs.Kept.{facts, new_passes, new_count, remade_codes, remade_own}
use Rattle.remade.proofs.Neighbours.{remade_neighbours}

module _ {l : Index} (old : FormerLibrary l) where
  -- The search is refused for the cause for which it was refused, or not.
  pub remade_verdict : (query : Query) (k : ℕ) (room : Room)
      → first (search_causes (remade l) query k room) ≡ first (search_causes l query k room)
  remade_verdict query k room =
      ap first
      (rw (
        new_count old,
        (facts old).exact,
        new_passes old,
        former_good,
        own_good (remade_own old),
        own_good old.own,
        own_reads (remade l) query k (remade_own old),
        own_reads l query k old.own,
        remade_codes old,
      ))
    where
      former_good : good_marks l.d l.b l.marks ≡ true
      former_good = rw old.marks (former_passes l.d l.b l.n l.vectors (facts old).count.above (facts old).components)

  -- So the entries that a search leaves are the old ones, whether it is refused or not.
  pub remade_entries : (query : Query) (k : ℕ) (room : Room) (lent : List Entry)
      → search_entries (first (search_causes (remade l) query k room)) (remade l) query k lent
      ≡ search_entries (first (search_causes l query k room)) l query k lent
  remade_entries query k room lent = rw (remade_verdict query k room, remade_neighbours old query k)
