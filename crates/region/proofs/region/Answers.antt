-- A number of regions that is not refused has room for one more. Assumes nothing.
use Rattle.std.proofs.Common.{sym, ◌^◌, ◌≤◌, arith}
use lib.Pow.{pow_mono}
use Rattle.limits.specs.Limits.{max_dimension_bits}
use Rattle.region.specs.RegionCount.{power_of}
use Rattle.region.proofs.region.Goals as goal

pub overflow_add-regions : goal.overflow_add-regions
overflow_add-regions c =
    let power = power_of max_dimension_bits c.args.regions (sym c.if-not-is_region_count.ensures) in
    let most : 2 ^ power.w ≤ 2 ^ max_dimension_bits = pow_mono power.within in
    omega (arith, power.is)
