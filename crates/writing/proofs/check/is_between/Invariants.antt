-- The answer is that of the components so far. Assumes nothing.
use Rattle.std.proofs.Common.{◌≡◌, ◌+◌, pos, get_or}
use Rattle.library.specs.Each.{every}
use Rattle.library.specs.Ends.{lies}
use Rattle.writing.proofs.check.is_between.Given as goal

abbrev pub invariant-loop-t : goal.invariant-loop-t
invariant-loop-t l =
    l.inside
    ≡ every l.t (λ t. lies (get_or l.lows t (pos 0)) (get_or l.components (l.from + t) (pos 0)) (get_or l.highs t (pos 0)))
