use Rattle.std.proofs.Common.{◌≡◌, ◌+◌, ◌-◌, ◌<◌, get_or, drop, refl, ◌∙◌, add-one, add-mul, length-take, get_or-take, get_or-drop, arith, rules}
use Rattle.distance.proofs.Sum.{sum_more}
use Rattle.bounds.specs.RegionRun.{region_run}
use Rattle.bounds.proofs.regions.sum_run.Goals as goal

pub loop-region-init : goal.loop-region-init
unfolding region_run
loop-region-init c = record { start_is = omega arith; so_far = refl }

pub loop-region-preserved : goal.loop-region-preserved
unfolding region_run
loop-region-preserved c =
    let a = c.args in
    let t = c.loop-region.region-index in
    let at = c.loop-region.invariant in
    let size : a.from + a.count - a.from ≡ a.count = omega arith in
    let less : t < a.count = omega (arith, length-take a.count (drop a.from a.regions.now), rw size at c.loop-region-test.true) in
    let region : c.from.result ≡ get_or a.regions.now (a.from + t) 0 =
    rw size at c.from.ensures ∙ get_or-take a.count (drop a.from a.regions.now) t 0 less ∙ get_or-drop a.from a.regions.now t 0 in
    let entry : c.unwrap_or-entry.result ≡ get_or a.table.now (c.loop-region.start + c.from.result) 0 = search rules in
    record {
      start_is = omega (arith, at.start_is, add-mul t 1 a.stride);
      so_far = rw add-one
          (sum_more (region_run a.table.now a.regions.now a.from a.first_start a.stride t) _
          (rw (entry, region, at.start_is) refl) at.so_far);
    }
