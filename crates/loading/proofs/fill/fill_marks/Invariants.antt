-- the marks so far are read
use Rattle.std.proofs.Common.{◌≡◌, take}
use Rattle.library.specs.Each.{tabulate}
use Rattle.library.specs.Library.{mark_at}
use Rattle.loading.proofs.fill.fill_marks.Given as goal

abbrev pub invariant-loop-i : goal.invariant-loop-i
invariant-loop-i l = take l.i l.mark-items ≡ tabulate l.i (mark_at l.bytes)
