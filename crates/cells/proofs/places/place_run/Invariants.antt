use Rattle.std.proofs.Common.{◌≡◌, ◌++◌, ◌+◌, ◌-◌, ◌*◌, ◌≤◌, ◌^◌, take}
use Rattle.cells.specs.Places.{run_places}
use Rattle.cells.proofs.places.place_run.Given as goal

abbrev pub invariant-loop-place : goal.invariant-loop-place
invariant-loop-place l = record {
  bit_small : l.bit ≤ 2 ^ 32 + 7 * l.place-index;
  start_small : l.start ≤ 2 ^ 32 + 129 * l.place-index;
  so_far : take l.place-index l.place-items ++ run_places l.codes l.w l.bit l.start (l.end - l.fn.first - l.place-index)
      ≡ run_places l.codes l.w l.first_bit l.first_start (l.end - l.fn.first);
}
