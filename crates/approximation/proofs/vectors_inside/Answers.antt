-- The components before the index lie inside, so it is for those behind them to decide.
use Rattle.std.proofs.Common.{◌≡◌, sym, ◌∙◌, ◌&&◌, Bool, List, ℕ, ◌+◌, ◌-◌, ◌≤◌, ◌<◌, ℤ, pos, length, take, drop, get_or, refl, arith, rules, w32, FitsSigned}
use Rattle.std.proofs.Math.ListN.{drop_of_length-le}
use Rattle.std.proofs.lemmas.Int.{to_z-of_z}
use Rattle.region.specs.Region.{in_marks}
use Rattle.codes.specs.Codes.{next_column}
use Rattle.layout.specs.Layout.{first_marks}
use Rattle.approximation.specs.Vectors.{vectors_inside, inside_from}
use Rattle.approximation.proofs.Stretches.{shaped_by, Counted, fewest_few, counted, Begins, begins, part_within, part_is, goes_on_lem}
use Rattle.approximation.proofs.Stretches.{inside_next}
use Rattle.approximation.proofs.vectors_inside.Goals as goal

-- The test of a component and those behind it decide for the whole list.
turn : (d b : ℕ) (marks vectors : List ℤ) {column offset regions i : ℕ} {tested : Bool} → length marks ≡ first_marks d b d → Begins d b column offset
    → Counted d b column regions → i < length vectors
    → vectors_inside d b marks vectors ≡ inside_from d b marks column (drop i vectors)
    → tested ≡ in_marks (take (offset + regions + 1 - offset) (drop offset marks)) (get_or vectors i (pos 0))
    → vectors_inside d b marks vectors ≡ tested && inside_from d b marks (next_column d column) (drop (i + 1) vectors)
turn d b marks vectors {column} {offset} {regions} {i} exact at counts more decides is =
    decides ∙ inside_next d b marks column vectors i more ∙ rw (is, part_is marks exact at counts)

pub loop-z-init : goal.loop-z-init
loop-z-init c = record { begins_at = begins (shaped_by c.args.layout); rest_decides = refl }

pub column_regions-requires : goal.column_regions-requires
column_regions-requires c = rw c.fewest-fewest.ensures (fewest_few (shaped_by c.args.layout))

pub overflow_add-end : goal.overflow_add-end
overflow_add-end c =
    let within = part_within c.args.marks.now c.requires c.loop-z.invariant.begins_at (counted (shaped_by c.args.layout) (rw (c.fewest-fewest.ensures, c.wider-more.ensures) at c.column_regions.ensures)) in
    omega (arith, c.well_formed)

pub overflow_add-end-in-loop-z : goal.overflow_add-end-in-loop-z
overflow_add-end-in-loop-z c =
    let within = part_within c.args.marks.now c.requires c.loop-z.invariant.begins_at (counted (shaped_by c.args.layout) (rw (c.fewest-fewest.ensures, c.wider-more.ensures) at c.column_regions.ensures)) in
    omega (arith, c.well_formed)

pub offset_bounds-marks-offset : goal.offset_bounds-marks-offset
offset_bounds-marks-offset c =
    let within = part_within c.args.marks.now c.requires c.loop-z.invariant.begins_at (counted (shaped_by c.args.layout) (rw (c.fewest-fewest.ensures, c.wider-more.ensures) at c.column_regions.ensures)) in
    omega (arith, c.well_formed)

pub slice_bounds-in_marks-end : goal.slice_bounds-in_marks-end
slice_bounds-in_marks-end c =
    let within = part_within c.args.marks.now c.requires c.loop-z.invariant.begins_at (counted (shaped_by c.args.layout) (rw (c.fewest-fewest.ensures, c.wider-more.ensures) at c.column_regions.ensures)) in
    omega arith

pub returns-then-not-in_marks : goal.returns-then-not-in_marks
returns-then-not-in_marks c =
    let fits : FitsSigned w32 (get_or c.args.vectors.now c.loop-z.z-index (pos 0)) = search rules in
    let read = rw (to_z-of_z w32 (get_or c.args.vectors.now c.loop-z.z-index (pos 0)) fits) at c.in_marks.ensures in
    let decided = turn c.args.layout.d c.args.layout.b c.args.marks.now c.args.vectors.now c.requires c.loop-z.invariant.begins_at
    (counted (shaped_by c.args.layout) (rw (c.fewest-fewest.ensures, c.wider-more.ensures) at c.column_regions.ensures)) (omega arith) c.loop-z.invariant.rest_decides read in
    sym (decided ∙ rw c.if-not-in_marks.true)

pub loop-z-preserved : goal.loop-z-preserved
loop-z-preserved c =
    let fits : FitsSigned w32 (get_or c.args.vectors.now c.loop-z.z-index (pos 0)) = search rules in
    let read = rw (to_z-of_z w32 (get_or c.args.vectors.now c.loop-z.z-index (pos 0)) fits) at c.in_marks.ensures in
    let counts = counted (shaped_by c.args.layout) (rw (c.fewest-fewest.ensures, c.wider-more.ensures) at c.column_regions.ensures) in
    let decided = turn c.args.layout.d c.args.layout.b c.args.marks.now c.args.vectors.now c.requires c.loop-z.invariant.begins_at counts (omega arith)
    c.loop-z.invariant.rest_decides read in
    rw (c.next_offset-offset.ensures, c.column_behind-column.ensures)
    (record {
      begins_at = goes_on_lem c.args.marks.now c.requires c.loop-z.invariant.begins_at counts;
      rest_decides = decided ∙ rw c.if-not-in_marks.false;
    })

pub returns : goal.returns
unfolding inside_from
returns c =
    let past : length c.args.vectors.now ≤ c.loop-z.z-index = omega arith in
    sym (c.loop-z.invariant.rest_decides ∙ rw (drop_of_length-le c.args.vectors.now past))
