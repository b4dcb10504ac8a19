-- What is written so far, with the components that are left, is the whole. Assumes nothing.
use Rattle.std.proofs.Common.{◌≡◌, ◌++◌, ◌+◌, ◌-◌, ◌*◌, pos, get_or, take, drop, replicate, of_z}
use Rattle.std.specs.Int.{w16}
use Rattle.records.specs.Records.{joined}
use Rattle.library.specs.Each.{tabulate}
use Rattle.writing.proofs.put.write_stored.Given as goal

abbrev pub invariant-loop-t : goal.invariant-loop-t
invariant-loop-t l =
    let stored = tabulate l.d (λ t. of_z w16 (get_or l.components (l.from + t) (pos 0))) in
    take (l.at + 2 * l.t) l.bytes ++ joined (replicate (l.d - l.t) 2) (drop l.t stored)
    ≡ take l.at l.fn.bytes ++ joined (replicate l.d 2) stored
