-- the first i entries stand in the array
use Rattle.std.proofs.Common.{◌≡◌, take}
use Rattle.order.specs.Pairs.{pairs_of}
use Rattle.entries.specs.Entries.{entries_of, in_array}
use Rattle.entries.proofs.entries_of.Given as goal

abbrev pub invariant-loop-i : goal.invariant-loop-i
invariant-loop-i l = l.entries ≡ in_array (take l.i (entries_of (pairs_of l.keys l.numbers)))
