use Rattle.std.proofs.Common.{◌≡◌, ℕ, ◌<◌, get_or}
use Rattle.distance.specs.Distance.{product_at}
use Rattle.distance.proofs.multiply.Given as goal

abbrev pub invariant-loop-t : goal.invariant-loop-t
invariant-loop-t l = (k : ℕ) → k < l.t → get_or l.products k 0 ≡ product_at l.factors l.query l.vector k
