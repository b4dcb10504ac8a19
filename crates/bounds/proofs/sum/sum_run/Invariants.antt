-- the walk through the dimensions passed, and their sum, modulo 2^64
use Rattle.std.proofs.Common.{◌≡◌, ◌%◌, ◌^◌}
use Rattle.bounds.specs.Run.{run_sum}
use Rattle.bounds.proofs.Walk.{Walk}
use Rattle.bounds.proofs.sum.sum_run.Given as goal

abbrev pub invariant-loop-t : goal.invariant-loop-t
invariant-loop-t l = record {
  walk : Walk l.codes l.w l.fn.first_bit l.fn.first_start l.fn.count l.buffer.bits l.buffer.count l.buffer.next l.start l._t;
  so_far : l.sum ≡ run_sum l.table l.codes l.w l.fn.first_bit l.fn.first_start l._t % 2 ^ 64;
}
