-- the marks so far pass
use Rattle.std.specs.Prelude.{Ok}
use Rattle.std.proofs.Common.{◌≡◌}
use Rattle.refusal.specs.First.{first}
use Rattle.library.specs.Each.{each}
use Rattle.loading.specs.Load.{mark_causes}
use Rattle.loading.proofs.check.check_dimension.Given as goal

abbrev pub invariant-loop-i : goal.invariant-loop-i
invariant-loop-i l = first (each l.i (mark_causes l.bytes l.from)) ≡ Ok tt
