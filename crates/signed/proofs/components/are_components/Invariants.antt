-- the bits so far are few exactly where the numbers so far are components
use Rattle.std.proofs.Common.{◌≡◌, ◌^◌, ◌&&◌, nat_lt, drop}
use Rattle.signed.specs.Components.{are_components}
use Rattle.signed.proofs.components.are_components.Given as goal

abbrev pub invariant-loop-z : goal.invariant-loop-z
invariant-loop-z l = nat_lt l.bits (2 ^ 16) && are_components (drop l.z-index l.s) ≡ are_components l.s
