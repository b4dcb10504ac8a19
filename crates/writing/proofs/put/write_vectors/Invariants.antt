-- The records of the vectors so far stand behind what stood in front of them. Assumes nothing.
use Rattle.std.proofs.Common.{◌≡◌, ◌++◌, ◌+◌, ◌*◌, pos, get_or, take}
use Rattle.library.specs.Each.{each}
use Rattle.library.specs.Library.{vector_bytes, vector_place}
use Rattle.writing.proofs.put.write_vectors.Given as goal

abbrev pub invariant-loop-i : goal.invariant-loop-i
invariant-loop-i l =
    take (vector_place l.m l.i) l.bytes
    ≡ take (vector_place l.m 0) l.fn.bytes
    ++ each l.i (λ i. vector_bytes l.d (get_or l.settings i 0) (λ t. get_or l.components (i * l.d + t) (pos 0)))
