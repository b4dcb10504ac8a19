-- Behind what is written come the bits of the rows that are left.
use Rattle.std.proofs.Common.{◌+◌, ◌≤◌, length, sym, ◌∙◌, refl, arith}
use mathlib.Core.List.{append-nil}
use native.Mathlib.Nat.{sub-zero}
use lib.ListN.{drop_of_length-le}
use Rattle.codes.specs.WriterLaws.{begins}
use Rattle.codes.specs.Codes.{joined}
use Rattle.codes.proofs.Columns.{shape_of, fewest}
use Rattle.codes.proofs.PuttingRows.{first_room, second_room, fits, put}
use Rattle.codes.proofs.put_rows.Goals as goal

pub loop-i-init : goal.loop-i-init
loop-i-init c =
    let none = begins c.args.codes.now c.begin-writer.ensures in
    record {
      left = rw sub-zero c.requires.0;
      long = refl;
      fit = c.requires.1;
      writes = none.0;
      whole = rw none.1 refl;
    }

pub put-wide-requires : goal.put-wide-requires
put-wide-requires c =
    let l = c.args.layout in
    let at = c.loop-i.invariant in
    rw (c.fewest-fewest.ensures, c.wider-more.ensures) (
      at.writes,
      omega (arith, fewest (shape_of l)),
      (fits l.some at c.loop-i-test.true).0,
      omega (arith, first_room l.some at c.loop-i-test.true, c.requires.2, at.long),
    )

pub put-writer-requires : goal.put-writer-requires
put-writer-requires c =
    let l = c.args.layout in
    let at = c.loop-i.invariant in
    let wide = rw (c.fewest-fewest.ensures, c.wider-more.ensures) at c.put-wide.ensures.result_after in
    rw (c.fewest-fewest.ensures, c.wider-more.ensures) (
      c.put-wide.ensures.writes,
      omega (arith, fewest (shape_of l)),
      (fits l.some at c.loop-i-test.true).1,
      omega (arith, second_room l.some at c.loop-i-test.true wide, c.requires.2, at.long, c.put-wide.auto.bytes),
    )

pub loop-i-preserved : goal.loop-i-preserved
loop-i-preserved c =
    let at = c.loop-i.invariant in
    let wide = rw (c.fewest-fewest.ensures, c.wider-more.ensures) at c.put-wide.ensures.result_after in
    let narrow = rw (c.fewest-fewest.ensures, c.wider-more.ensures) at c.put-writer.ensures.result_after in
    put c.args.layout.some at c.loop-i-test.true c.put-writer.ensures.writes
    (omega (arith, at.long, c.put-wide.auto.bytes, c.put-writer.auto.bytes))
    (rw (← wide) narrow)

pub returns : goal.returns
unfolding joined
returns c =
    let at = c.loop-i.invariant in
    let regions = c.args.regions.now in
    (at.writes, sym (append-nil _) ∙ rw (drop_of_length-le regions c.loop-i-test.false) at at.whole)

-- behind the last row nothing is left
pub returns-2 : goal.returns-2
unfolding joined
returns-2 c =
    let at = c.loop-i.invariant in
    let regions = c.args.regions.now in
    let wide = rw (c.fewest-fewest.ensures, c.wider-more.ensures) at c.put-wide.ensures.result_after in
    let narrow = rw (c.fewest-fewest.ensures, c.wider-more.ensures) at c.put-writer.ensures.result_after in
    let after =
    put c.args.layout.some at c.loop-i-test.true c.put-writer.ensures.writes
    (omega (arith, at.long, c.put-wide.auto.bytes, c.put-writer.auto.bytes))
    (rw (← wide) narrow) in
    let past : length regions ≤ c.loop-i.i + c.args.layout.d = omega arith in
    (after.writes, sym (append-nil _) ∙ rw (drop_of_length-le regions past) at after.whole)
