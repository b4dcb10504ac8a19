use Rattle.std.proofs.Common.{◌≡◌, ℕ, ◌<◌, get_or, length, map, pos}
use Rattle.marking.specs.Made.{mark_at, scale_ends}
use Rattle.marking.specs.KeysInOrder.{whole_of}
use Rattle.marking.proofs.write_marks.Given as goal

abbrev pub invariant-loop-i : goal.invariant-loop-i
invariant-loop-i l = (k : ℕ) → k < l.i → get_or l.out-items k (pos 0) ≡ mark_at scale_ends (length l.keys) l.w (map whole_of l.keys) k
