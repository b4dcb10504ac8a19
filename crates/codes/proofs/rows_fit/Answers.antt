-- The rows before i fit, so it is for those from i on to decide.
use Rattle.std.proofs.Common.{◌≡◌, ◌≤◌, ℕ, ◌+◌, ◌-◌, ◌/◌, ◌%◌, ◌^◌, List, ◌&&◌, true, length, drop, sym, ◌∙◌, arith}
use lib.ListN.{drop_of_length-le}
use Rattle.layout.specs.declared.Layout.{Layout}
use Rattle.codes.specs.Fields.{all_below}
use Rattle.codes.specs.FieldLaws.{below_part}
use Rattle.codes.specs.Codes.{regions_fit}
use Rattle.codes.specs.Rows.{rows_next, part, fit_below, row_fit_at}
use Rattle.codes.proofs.rows_fit.Goals as goal

-- no number has more bits than those of the first run, so the second run decides, and the rows behind it
turn : (l : Layout) (i : ℕ) (regions : List ℕ) → i + l.d ≤ length regions → all_below (2 ^ (l.b / l.d + 1)) regions ≡ true
    → regions_fit l.d l.b 0 regions ≡ regions_fit l.d l.b 0 (drop i regions)
    → regions_fit l.d l.b 0 regions
    ≡ all_below (2 ^ (l.b / l.d)) (part (i + l.b % l.d) (i + l.d) regions) && regions_fit l.d l.b 0 (drop (i + l.d) regions)
turn l i regions there below so_far =
    so_far ∙ row_fit_at l.d l.b l.some regions i there ∙ rw (below_part (2 ^ (l.b / l.d + 1)) i (i + l.b % l.d - i) regions below)

pub returns-then-not-fit : goal.returns-then-not-fit
returns-then-not-fit c =
    let l = c.args.layout in
    let over = sym (rw c.fewest-fewest.ensures at c.fit.ensures) ∙ c.if-not-fit.true in
    sym (fit_below l.d l.b 0 c.args.regions.now ∙ rw over)

pub returns-then-not-fit-2 : goal.returns-then-not-fit-2
returns-then-not-fit-2 c =
    let at = c.loop-i.invariant in
    let there = rows_next at.left c.loop-i-test.true in
    let below = sym (rw c.fewest-fewest.ensures at c.fit.ensures) ∙ c.if-not-fit.false in
    let over = sym (rw (c.fewest-fewest.ensures, c.wider-more.ensures) at c.fit-in-loop-i.ensures) ∙ c.if-not-fit-2.true in
    sym (turn c.args.layout c.loop-i.i c.args.regions.now there.0 below at.so_far ∙ rw over)

pub loop-i-preserved : goal.loop-i-preserved
loop-i-preserved c =
    let at = c.loop-i.invariant in
    let there = rows_next at.left c.loop-i-test.true in
    let below = sym (rw c.fewest-fewest.ensures at c.fit.ensures) ∙ c.if-not-fit.false in
    let fits = sym (rw (c.fewest-fewest.ensures, c.wider-more.ensures) at c.fit-in-loop-i.ensures) ∙ c.if-not-fit-2.false in
    record { left = there.1; so_far = turn c.args.layout c.loop-i.i c.args.regions.now there.0 below at.so_far ∙ rw fits }

pub returns-else-not-fit : goal.returns-else-not-fit
unfolding regions_fit
returns-else-not-fit c = sym (c.loop-i.invariant.so_far ∙ rw (drop_of_length-le c.args.regions.now c.loop-i-test.false))

-- behind the last row nothing is left
pub returns-else-not-fit-2 : goal.returns-else-not-fit-2
unfolding regions_fit
returns-else-not-fit-2 c =
    let at = c.loop-i.invariant in
    let there = rows_next at.left c.loop-i-test.true in
    let below = sym (rw c.fewest-fewest.ensures at c.fit.ensures) ∙ c.if-not-fit.false in
    let fits = sym (rw (c.fewest-fewest.ensures, c.wider-more.ensures) at c.fit-in-loop-i.ensures) ∙ c.if-not-fit-2.false in
    let past : length c.args.regions.now ≤ c.loop-i.i + c.args.layout.d = omega arith in
    sym (turn c.args.layout c.loop-i.i c.args.regions.now there.0 below at.so_far ∙ rw (fits, drop_of_length-le c.args.regions.now past))
