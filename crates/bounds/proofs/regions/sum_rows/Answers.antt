use Rattle.std.proofs.Common.{◌≡◌, ℕ, ◌+◌, ◌-◌, ◌*◌, ◌/◌, ◌%◌, ◌^◌, ◌<◌, ◌≤◌, suc, length, sym, ap, ◌∙◌, refl, le_refl, mul-le-mul, suc-mul, arith}
use Rattle.layout.specs.Layout.{first_marks}
use Rattle.layout.specs.Runs.{two_marks}
use Rattle.layout.specs.declared.Layout.{Layout}
use Rattle.cells.proofs.Runs.{regions}
use Rattle.distance.specs.Values.{values_from, values_length, value_at}
use Rattle.distance.proofs.Filling.{filling_start, filling_next}
use Rattle.distance.proofs.Sum.{sum_more_mod}
use Rattle.bounds.specs.Regions.{region_sum}
use Rattle.bounds.specs.RegionRun.{two_region_runs}
use Rattle.bounds.proofs.Walk.{sizes_of}
use Rattle.bounds.proofs.regions.sum_rows.Goals as goal

pub overflow_shl-narrow : goal.overflow_shl-narrow
overflow_shl-narrow c = omega (arith, (sizes_of c.args.layout 0 (omega arith)).fewest)

pub overflow_add-narrow : goal.overflow_add-narrow
overflow_add-narrow c =
    let narrow = regions (c.args.layout.b / c.args.layout.d) (omega (arith, (sizes_of c.args.layout 0 (omega arith)).fewest)) in
    rw c.fewest-fewest.ensures (omega (arith, narrow.exact, narrow.most))

pub overflow_add-wide : goal.overflow_add-wide
overflow_add-wide c = omega (arith, (sizes_of c.args.layout 0 (omega arith)).fewest)

pub overflow_shl-wide : goal.overflow_shl-wide
overflow_shl-wide c = omega (arith, (sizes_of c.args.layout 0 (omega arith)).fewest)

pub overflow_mul-start : goal.overflow_mul-start
overflow_mul-start c =
    let size = sizes_of c.args.layout 0 (omega arith) in
    rw (c.fewest-fewest.ensures, c.wider-more.ensures, size.shift.exact) (omega (arith, size.wide_marks))

pub loop-i-init : goal.loop-i-init
loop-i-init c = filling_start _ _ (sym (values_length _ 0 _))

-- row i's numbers are there, and the entries of both runs
there : (l : Layout) (i n regions table : ℕ) → table ≡ first_marks l.d l.b l.d → regions ≡ n * l.d → i < n
    → (i * l.d + l.d ≤ regions)
    × (l.b % l.d < l.d)
    × (l.b % l.d * (2 ^ (l.b / l.d + 1) + 1) + (l.d - l.b % l.d) * (2 ^ (l.b / l.d) + 1) ≤ table)
there l i n regions table of_table of_regions below =
    let size = sizes_of l 0 (omega arith) in
    let row : suc i * l.d ≤ n * l.d = mul-le-mul below (le_refl l.d) in (
      omega (arith, suc-mul i l.d),
      size.more,
      omega (arith, two_marks l.d l.b size.fewest (omega (arith, size.more))),
    )

pub sum_run-sum-requires : goal.sum_run-sum-requires
sum_run-sum-requires c =
    let a = c.args in
    let row = there a.layout c.loop-i.i (length a.bounds.now) (length a.regions.now) (length a.table.now) c.requires.0 c.requires.1 c.loop-i-test.true in
    rw (c.fewest-fewest.ensures, c.wider-more.ensures, (sizes_of a.layout 0 (omega arith)).shift.exact) (omega (arith, row.0, row.1), omega (arith, row.2))

pub sum_run-rest-requires : goal.sum_run-rest-requires
sum_run-rest-requires c =
    let a = c.args in
    let row = there a.layout c.loop-i.i (length a.bounds.now) (length a.regions.now) (length a.table.now) c.requires.0 c.requires.1 c.loop-i-test.true in
    let size = sizes_of a.layout 0 (omega arith) in
    rw (c.fewest-fewest.ensures, c.wider-more.ensures, size.shift.exact, (regions (a.layout.b / a.layout.d) (omega (arith, size.fewest))).exact) (omega (arith, row.0, row.1), omega (arith, row.2))

pub loop-i-preserved : goal.loop-i-preserved
unfolding region_sum
loop-i-preserved c =
    let at = c.loop-i in
    let a = c.args in
    let size = sizes_of a.layout 0 (omega arith) in
    let n = length a.bounds.now in
    let f = region_sum a.layout.d a.layout.b a.table.now a.regions.now in
    let more : at.i < n = omega arith in
    let is : (c.sum_run-sum.result + c.sum_run-rest.result) % 2 ^ 64 ≡ f at.i =
    sum_more_mod _ _ refl (rw (c.fewest-fewest.ensures, c.wider-more.ensures, size.shift.exact) at c.sum_run-sum.ensures)
    (rw (c.fewest-fewest.ensures, c.wider-more.ensures, size.shift.exact, (regions (a.layout.b / a.layout.d) (omega (arith, size.fewest))).exact) at c.sum_run-rest.ensures)
    ∙ ap (λ (sum : ℕ). sum % 2 ^ 64)
    (sym (two_region_runs a.layout.d a.layout.b size.fewest (omega (arith, size.more)) a.table.now a.regions.now at.i)) in
    filling_next (values_from f 0 n) at.bounds at.i _ 0 (omega (arith, values_length f 0 n)) (is ∙ sym (value_at f n at.i more)) at.invariant
