-- the sum is that of the dimensions passed, modulo 2^64
use Rattle.std.proofs.Common.{◌≡◌, ◌+◌, ◌*◌, ◌%◌, ◌^◌}
use Rattle.bounds.specs.RegionRun.{region_run}
use Rattle.bounds.proofs.regions.sum_run.Given as goal

abbrev pub invariant-loop-region : goal.invariant-loop-region
invariant-loop-region l = record {
  start_is : l.start ≡ l.fn.first_start + l.region-index * l.stride;
  so_far : l.sum ≡ region_run l.table l.fn.regions l.fn.from l.fn.first_start l.stride l.region-index % 2 ^ 64;
}
