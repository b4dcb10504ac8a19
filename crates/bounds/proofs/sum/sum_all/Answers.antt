use Rattle.std.proofs.Common.{◌<◌, length, sym, ◌∙◌, arith}
use Rattle.distance.specs.Values.{values_from, values_length, value_at}
use Rattle.distance.proofs.Filling.{filling_start, filling_next}
use Rattle.table.specs.Table.{bound_sum}
use Rattle.bounds.proofs.sum.sum_all.Goals as goal

pub loop-i-init : goal.loop-i-init
loop-i-init c = filling_start _ _ (sym (values_length _ 0 _))

pub loop-i-preserved : goal.loop-i-preserved
loop-i-preserved c =
    let at = c.loop-i in
    let a = c.args in
    let n = length a.bounds.now in
    let f = bound_sum a.layout.d a.layout.b a.table.now a.codes.now in
    let more : at.i < n = omega arith in
    filling_next (values_from f 0 n) at.bounds at.i c.code_bound.result 0 (omega (arith, values_length f 0 n))
    (c.code_bound.ensures ∙ sym (value_at f n at.i more)) at.invariant
