-- the rows before i fit, so those from i on decide
use Rattle.std.proofs.Common.{◌≡◌, ◌-◌, length, drop}
use Rattle.codes.specs.Codes.{regions_fit}
use Rattle.codes.specs.Rows.{Rows}
use Rattle.codes.proofs.rows_fit.Given as goal

abbrev pub invariant-loop-i : goal.invariant-loop-i
invariant-loop-i l = record {
  left : Rows l.layout.d (length l.regions - l.i);
  so_far : regions_fit l.layout.d l.layout.b 0 l.regions ≡ regions_fit l.layout.d l.layout.b 0 (drop l.i l.regions);
}

abbrev pub decreases-loop-i : goal.decreases-loop-i
decreases-loop-i l = length l.regions - l.i
