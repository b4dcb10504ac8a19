-- The records of the marks so far stand behind what stood in front of them. Assumes nothing.
use Rattle.std.proofs.Common.{◌≡◌, ◌++◌, pos, get_or, take}
use Rattle.library.specs.Each.{each}
use Rattle.library.specs.Library.{mark_bytes, mark_place}
use Rattle.writing.proofs.put.write_marks.Given as goal

abbrev pub invariant-loop-i : goal.invariant-loop-i
invariant-loop-i l =
    take (mark_place l.i) l.bytes
    ≡ take (mark_place 0) l.fn.bytes ++ each l.i (λ i. mark_bytes (get_or l.marks i (pos 0)))
