use Rattle.std.proofs.Common.{◌≡◌, ℕ, ◌+◌, ◌*◌, ◌<◌, get_or, pos}
use Rattle.signed.specs.Keys.{key_of}
use Rattle.marking.proofs.column_keys.Given as goal

abbrev pub invariant-loop-i : goal.invariant-loop-i
invariant-loop-i l = (k : ℕ) → k < l.i → get_or l.keys k 0 ≡ key_of (get_or l.vectors (k * l.d + l.t) (pos 0))
