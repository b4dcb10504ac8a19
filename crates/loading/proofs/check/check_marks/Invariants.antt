-- the dimensions so far pass
use Rattle.std.specs.Prelude.{Ok}
use Rattle.std.proofs.Common.{◌≡◌, suc}
use Rattle.refusal.specs.First.{first}
use Rattle.layout.specs.Layout.{mark_count, first_marks}
use Rattle.library.specs.Each.{each}
use Rattle.loading.specs.Load.{mark_causes}
use Rattle.loading.proofs.check.check_marks.Given as goal

abbrev pub invariant-loop-t : goal.invariant-loop-t
invariant-loop-t l =
    first (each l.t (λ t. each (mark_count l.layout.d l.layout.b (suc t)) (mark_causes l.bytes (first_marks l.layout.d l.layout.b t))))
    ≡ Ok tt
