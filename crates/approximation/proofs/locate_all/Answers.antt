-- What is written so far, with the regions of the components that are left, is the whole.
use Rattle.std.proofs.Common.{◌≡◌, ◌∙◌, true, cond, eqb, List, ◌++◌, ℕ, suc, ◌+◌, ◌-◌, ◌≤◌, ◌<◌, ℤ, pos, length, get_or, take, drop, set, refl, arith, rules, w32, FitsSigned}
use Rattle.std.proofs.Common.{append-nil, length-take}
use Rattle.std.proofs.Math.Bool.{and-eq-true_iff}
use Rattle.std.proofs.Math.ListN.{drop_of_length-le}
use Rattle.limits.specs.Written.{written_one}
use Rattle.std.proofs.lemmas.Int.{to_z-of_z}
use Rattle.region.specs.Region.{region_of, in_marks}
use Rattle.region.specs.Halving.{halved, halvings_le, halved_is}
use Rattle.partition.specs.Marks.{dimension_marks, good_marks_each}
use Rattle.codes.specs.Codes.{next_column}
use Rattle.approximation.specs.Vectors.{vector_regions, regions_from, inside_from}
use Rattle.approximation.specs.VectorCauses.{Inside}
use Rattle.approximation.proofs.Stretches.{Counted, fewest_few, counted, Begins, begins, part_within, part_is, goes_on_lem}
use Rattle.approximation.proofs.Stretches.{inside_next, regions_next}
use Rattle.approximation.proofs.locate_all.Goals as goal

-- This holds while the region numbers are written.
record Locating (d b : ℕ) (vectors marks : List ℤ) (regions : List ℕ) (column offset i : ℕ) : Type 0 where
  begins_at : Begins d b column offset
  inside : inside_from d b marks column (drop i vectors) ≡ true
  so_far : take i regions ++ regions_from d b marks column (drop i vectors) ≡ vector_regions d b marks vectors

-- The region that is located in the column's marks is written.
turn : {d b : ℕ} {vectors marks : List ℤ} {regions : List ℕ} {column offset i count r : ℕ} → Inside d b marks vectors → i < length regions
    → Locating d b vectors marks regions column offset i → Counted d b column count → i < length vectors
    → r ≡ halved (take (offset + count + 1 - offset) (drop offset marks)) (get_or vectors i (pos 0))
    → let next = next_column d column in
    Locating d b vectors marks (set regions i r) next (cond (eqb next 0) 0 (offset + count + 1)) (i + 1)
turn {d} {b} {vectors} {marks} {regions} {column} {offset} {i} {count} {r} given room at counts more located =
    let exact = given.exact in
    let own = dimension_marks d b marks (suc column) in
    let z = get_or vectors i (pos 0) in
    let behind = inside_from d b marks (next_column d column) (drop (i + 1) vectors) in
    let tests = (and-eq-true_iff (in_marks own z) behind).0 (rw (inside_next d b marks column vectors i more) at at.inside) in
    let good = good_marks_each d b marks column at.begins_at.inside given.good in
    let found : r ≡ region_of own z = (rw (part_is marks exact at.begins_at counts) at located) ∙ halved_is own z good tests.0 in
    record {
      begins_at = goes_on_lem marks exact at.begins_at counts;
      inside = tests.1;
      so_far = written_one regions i r _ _ room (rw (found, ← regions_next d b marks column vectors i more) at.so_far);
    }

pub loop-i-init : goal.loop-i-init
loop-i-init c = record { begins_at = begins c.requires.0.shaped; inside = c.requires.0.inside; so_far = refl }

pub column_regions-requires : goal.column_regions-requires
column_regions-requires c = rw c.fewest-fewest.ensures (fewest_few c.requires.0.shaped)

pub overflow_add-end : goal.overflow_add-end
overflow_add-end c =
    let within = part_within c.args.marks.now c.requires.0.exact c.loop-i.invariant.begins_at (counted c.requires.0.shaped (rw (c.fewest-fewest.ensures, c.wider-more.ensures) at c.column_regions.ensures)) in
    omega (arith, c.well_formed)

pub overflow_add-end-in-loop-i : goal.overflow_add-end-in-loop-i
overflow_add-end-in-loop-i c =
    let within = part_within c.args.marks.now c.requires.0.exact c.loop-i.invariant.begins_at (counted c.requires.0.shaped (rw (c.fewest-fewest.ensures, c.wider-more.ensures) at c.column_regions.ensures)) in
    omega (arith, c.well_formed)

pub offset_bounds-marks-offset : goal.offset_bounds-marks-offset
offset_bounds-marks-offset c =
    let within = part_within c.args.marks.now c.requires.0.exact c.loop-i.invariant.begins_at (counted c.requires.0.shaped (rw (c.fewest-fewest.ensures, c.wider-more.ensures) at c.column_regions.ensures)) in
    omega (arith, c.well_formed)

pub slice_bounds-locate-end : goal.slice_bounds-locate-end
slice_bounds-locate-end c =
    let within = part_within c.args.marks.now c.requires.0.exact c.loop-i.invariant.begins_at (counted c.requires.0.shaped (rw (c.fewest-fewest.ensures, c.wider-more.ensures) at c.column_regions.ensures)) in
    omega arith

pub overflow_cast-regions : goal.overflow_cast-regions
overflow_cast-regions c =
    let fits : FitsSigned w32 (get_or c.args.vectors.now c.loop-i.i (pos 0)) = search rules in
    let found = rw (to_z-of_z w32 (get_or c.args.vectors.now c.loop-i.i (pos 0)) fits) at c.locate.ensures in
    let few = (counted c.requires.0.shaped (rw (c.fewest-fewest.ensures, c.wider-more.ensures) at c.column_regions.ensures)).few in
    let offset = c.loop-i.offset in
    let size = offset + c.column_regions.result + 1 - offset in
    let part = take size (drop offset c.args.marks.now) in
    let le = halvings_le part (get_or c.args.vectors.now c.loop-i.i (pos 0)) (length part) 0 (length part) in
    omega (arith, found, le, length-take size (drop offset c.args.marks.now), few)

pub loop-i-preserved : goal.loop-i-preserved
loop-i-preserved c =
    let fits : FitsSigned w32 (get_or c.args.vectors.now c.loop-i.i (pos 0)) = search rules in
    let found = rw (to_z-of_z w32 (get_or c.args.vectors.now c.loop-i.i (pos 0)) fits) at c.locate.ensures in
    let at = c.loop-i.invariant in
    let now : Locating c.args.layout.d c.args.layout.b c.args.vectors.now c.args.marks.now c.loop-i.regions c.loop-i.column c.loop-i.offset c.loop-i.i =
    record { begins_at = at.begins_at; inside = at.inside; so_far = at.so_far } in
    let next = turn c.requires.0 (omega (arith, c.requires.1)) now (counted c.requires.0.shaped (rw (c.fewest-fewest.ensures, c.wider-more.ensures) at c.column_regions.ensures)) (omega arith)
    found in
    rw (c.next_offset-offset.ensures, c.column_behind-column.ensures)
    (record { begins_at = next.begins_at; inside = next.inside; so_far = next.so_far })

pub returns : goal.returns
unfolding regions_from
returns c =
    let past : length c.args.vectors.now ≤ c.loop-i.i = omega arith in
    let all : c.loop-i.i ≡ length c.args.vectors.now = omega arith in
    rw (drop_of_length-le c.args.vectors.now past, append-nil, all) at c.loop-i.invariant.so_far
