use Rattle.std.proofs.Common.{length, ◌∙◌}
use Rattle.least_reading.specs.Unpacked.{sums_by_regions}
use Rattle.least_reading.proofs.sum_lows.Goals as goal

pub returns-in-Some : goal.returns-in-Some
returns-in-Some c =
    let a = c.args in
    c.sum_regions.ensures.bounds_after
    ∙ sums_by_regions a.d a.b (length a.lows.now) a.table.now a.codes.now _ a.lows.now c.requires.0 (rw c.in-Some.is at c.requires.1)
