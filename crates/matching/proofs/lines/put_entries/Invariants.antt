-- The entries so far are listed. Assumes nothing.
use Rattle.std.proofs.Common.{take}
use Rattle.matching.proofs.Listing.{Lines}
use Rattle.matching.proofs.lines.put_entries.Given as goal

abbrev pub invariant-loop-entry : goal.invariant-loop-entry
invariant-loop-entry l = Lines l.settings l.fn.text l.at (take l.k l.fn.entries) l.text l.next l.entry-index
