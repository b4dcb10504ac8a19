use Rattle.std.proofs.Common.{◌/◌, ◌^◌, refl, add-one, arith}
use Rattle.distance.proofs.Sum.{sum_more}
use Rattle.bounds.specs.Run.{run_sum}
use Rattle.bounds.proofs.Walk.{sets_out, index, region, goes_on_lem}
use Rattle.bounds.proofs.sum.sum_run.Goals as goal

pub returns-then-count-eq0 : goal.returns-then-count-eq0
unfolding run_sum
returns-then-count-eq0 c = rw c.if-count-eq0.true

pub loop-t-init : goal.loop-t-init
unfolding run_sum
loop-t-init c = record { walk = sets_out c.args.first_start c.args.count c.begin-buffer.ensures; so_far = refl }

pub bounds-table-start : goal.bounds-table-start
bounds-table-start c =
    omega (
      arith,
      index c.loop-t.invariant.walk c.requires.0 (omega arith) c.requires.2
          (c.take-buffer.result.bits / 2 ^ c.take-buffer.result.count),
    )

pub loop-t-preserved : goal.loop-t-preserved
unfolding run_sum
loop-t-preserved c =
    let a = c.args in
    let at = c.loop-t.invariant in
    let took = c.take-buffer.ensures in
    record {
      walk = goes_on_lem at.walk c.requires.0 (omega arith) took;
      so_far = rw add-one
          (sum_more (run_sum a.table.now a.codes.now a.w a.first_bit a.first_start c.loop-t._t) _
          (rw (region at.walk c.requires.0 (omega arith) took, at.walk.start_is) refl) at.so_far);
    }
