-- the vectors so far are read
use Rattle.std.proofs.Common.{◌*◌, ◌/◌, ◌%◌}
use Rattle.library.specs.Library.{component_at}
use Rattle.library.proofs.Filling.{Filling}
use Rattle.loading.proofs.fill.fill_components.Given as goal

abbrev pub invariant-loop-i : goal.invariant-loop-i
invariant-loop-i l = Filling (l.n * l.d) (λ k. component_at l.m l.bytes (k / l.d) (k % l.d)) l.fn.components l.components (l.i * l.d)
