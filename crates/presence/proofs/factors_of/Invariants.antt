-- the first t factors stand in the array
use Rattle.std.proofs.Common.{◌≡◌, length, take}
use Rattle.limits.specs.Limits.{max_dimensions}
use Rattle.presence.specs.Presence.{factors_of}
use Rattle.presence.proofs.factors_of.Given as goal

abbrev pub invariant-loop-t : goal.invariant-loop-t
invariant-loop-t l = (length l.factor-items ≡ max_dimensions) × (take l.t l.factor-items ≡ take l.t (factors_of l.word))
