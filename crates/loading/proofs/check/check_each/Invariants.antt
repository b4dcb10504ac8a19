-- the vectors so far pass
use Rattle.std.specs.Prelude.{Ok}
use Rattle.std.proofs.Common.{◌≡◌, drop}
use Rattle.refusal.specs.First.{first}
use Rattle.library.specs.Each.{each}
use Rattle.library.specs.Library.{vector_place}
use Rattle.loading.specs.Checks.{between_causes}
use Rattle.loading.proofs.check.check_each.Given as goal

abbrev pub invariant-loop-i : goal.invariant-loop-i
invariant-loop-i l =
    first (each l.i (λ i. between_causes l.d l.lows l.highs (drop (vector_place l.m i) l.bytes))) ≡ Ok tt
