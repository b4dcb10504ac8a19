-- The answer as entries: "The answer is lent as k entries, each a pattern number and its distance" (document 01, "Distance, bounds, reading
-- order"). Assumes nothing.
use Rattle.std.specs.Prelude.{List, [], ◌∷◌, replicate}
use Rattle.std.proofs.lemmas.List.Edits.{sets}
use Rattle.limits.specs.Limits.{max_neighbours}
use Rattle.order.specs.Pair.{Pair}
use Rattle.entries.specs.declared.Entry.{Entry}

-- a pair (distance, number) as an entry
abbrev pub entry_of : Pair → Entry
entry_of p = record { number = p.number; distance = p.key }

unfoldable pub entries_of : List Pair → List Entry
entries_of [] = []
entries_of (p ∷ ps) = entry_of p ∷ entries_of ps

-- an entry that stands for none
abbrev pub blank : Entry
blank = record { number = 0; distance = 0 }

-- an array of the most neighbours: entries at its front, as many as fit, and blank ones behind them
unfoldable pub in_array : List Entry → List Entry
in_array es = sets (replicate max_neighbours blank) 0 es
