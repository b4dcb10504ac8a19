-- the components so far are read
use Rattle.std.proofs.Common.{◌≡◌, take, drop}
use Rattle.library.specs.Each.{tabulate}
use Rattle.library.specs.Library.{stored_at}
use Rattle.loading.proofs.fill.fill_vector.Given as goal

abbrev pub invariant-loop-t : goal.invariant-loop-t
invariant-loop-t l = take l.t l.component-items ≡ tabulate l.t (stored_at (drop l.at l.bytes))
