-- The rows written so far, with those left to be read off the bits, are the whole.
use Rattle.std.proofs.Common.{refl, arith}
use native.Mathlib.Nat.{sub-zero}
use Rattle.codes.proofs.Columns.{shape_of}
use Rattle.codes.proofs.TakingRows.{takes, done}
use Rattle.codes.proofs.take_rows.Goals as goal

pub loop-i-init : goal.loop-i-init
loop-i-init c = record { left = rw sub-zero c.requires.0; long = refl; near = omega arith; so_far = rw sub-zero }

pub loop-i-preserved : goal.loop-i-preserved
loop-i-preserved c =
    let at = c.loop-i.invariant in
    let wide = rw (c.fewest-fewest.ensures, c.wider-more.ensures) at c.take.ensures in
    let narrow = rw (c.fewest-fewest.ensures, c.wider-more.ensures) at c.take-in-loop-i.ensures in
    takes at (shape_of c.args.layout) (omega (arith, at.long, c.loop-i-test.true))
    (omega (arith, at.long, c.take.auto.numbers, c.take-in-loop-i.auto.numbers))
    (rw (← wide) narrow)

pub returns : goal.returns
returns c = done c.loop-i.invariant (omega (arith, c.loop-i.invariant.long, c.loop-i-test.false))

-- behind the last row nothing is left
pub returns-2 : goal.returns-2
returns-2 c =
    let at = c.loop-i.invariant in
    let wide = rw (c.fewest-fewest.ensures, c.wider-more.ensures) at c.take.ensures in
    let narrow = rw (c.fewest-fewest.ensures, c.wider-more.ensures) at c.take-in-loop-i.ensures in
    done
    (takes at (shape_of c.args.layout) (omega (arith, at.long, c.loop-i-test.true))
    (omega (arith, at.long, c.take.auto.numbers, c.take-in-loop-i.auto.numbers))
    (rw (← wide) narrow))
    (omega (arith, at.long, c.take.auto.numbers, c.take-in-loop-i.auto.numbers))
