use Rattle.std.proofs.Common.{◌≡◌, ℕ, ◌+◌, ◌-◌, ◌*◌, ◌<◌, ◌≤◌, length, take, drop, sym, ap, ◌∙◌, arith}
use Rattle.cells.specs.CellLaws.{vector_size}
use Rattle.distance.specs.Distance.{measured_of}
use Rattle.distance.specs.Values.{values_from, values_length, value_at}
use Rattle.scan.specs.Scanning.{distances_of}
use Rattle.scan.specs.Scanned.{scanned_exact}
use Rattle.distance.proofs.Filling.{filling_start, filling_next}
use Rattle.scan.proofs.measure_all.Goals as goal

pub loop-i-init : goal.loop-i-init
loop-i-init c = filling_start _ _ (sym (values_length _ 0 _))

pub loop-i-preserved : goal.loop-i-preserved
loop-i-preserved c =
    let at = c.loop-i in
    let a = c.args in
    let n = length a.keys.now in
    let f = distances_of a.d a.factors.now a.query.now a.vectors.now in
    let more : at.i < n = omega arith in
    let within : at.i * a.d + a.d ≤ length a.vectors.now = grind arith in
    let size : at.i * a.d + a.d - at.i * a.d ≡ a.d = omega arith in
    let key =
    c.weighed_distance.ensures
    ∙ ap (λ (m : ℕ). measured_of a.factors.now a.query.now (take m (drop (at.i * a.d) a.vectors.now))) size
    ∙ scanned_exact a.factors.now c.requires.1 c.requires.0 at.i (vector_size a.d a.vectors.now at.i within) ∙ sym (value_at f n at.i more) in
    filling_next (values_from f 0 n) at.keys at.i c.weighed_distance.result 0 (omega (arith, values_length f 0 n)) key at.invariant
