-- The farther of the region's ends. Assumes nothing.
use Rattle.std.proofs.Common.{◌≡◌, max, arith, w32}
use Rattle.std.proofs.lemmas.Int.{to_z-of_z}
use Rattle.step.specs.Step.{longest}
use Rattle.step.proofs.longest_step.Goals as goal

pub returns : goal.returns
unfolding longest
returns c =
    let fits = c.ranges in
    let q = to_z-of_z w32 c.args.q fits.q in
    let low = to_z-of_z w32 c.args.low fits.low in
    let high = to_z-of_z w32 c.args.high fits.high in
    let first = rw (q, low) at c.abs_diff.ensures in
    let last = rw (q, high) at c.gap_to_last-last.ensures.0 in
    let ends : longest c.args.q c.args.low c.args.high ≡ max c.from-first.result c.gap_to_last-last.result =
    rw (c.from-first.ensures, first, last) in
    (omega arith, omega arith)
