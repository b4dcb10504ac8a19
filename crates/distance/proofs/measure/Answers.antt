-- Where no test refuses, the distance is exact, and that of vectors whose dimensions are all present. Assumes nothing.
use Rattle.std.specs.Prelude.{Ok}
use Rattle.std.proofs.Common.{length, sym, refl, ap, ◌∙◌, eq-eqb}
use Rattle.refusal.specs.First.{first}
use Rattle.limits.specs.Limits.{max_dimensions}
use Rattle.limits.specs.Tests.{between}
use Rattle.distance.specs.Full.{all_present, all_full, full_distance}
use Rattle.distance.specs.Small.{all_small, measured_exact}
use Rattle.distance.proofs.measure.Goals as goal

pub returns : goal.returns
unfolding first all_present
returns c =
    let query = c.args.query.now in
    let vector = c.args.vector.now in
    let d = length query in
    let counted = sym c.if-not-is_dimension_count.ensures in
    let few = (between 1 d max_dimensions counted).below in
    let queried = sym c.if-not-are_components.ensures in
    let stored = sym c.if-not-are_components-2.ensures in
    rw (counted, eq-eqb (length vector) d c.if-vector-d.false, queried, stored)
    (ap Ok
    (c.weighed_distance.ensures
    ∙ measured_exact all_present all_small query queried vector stored d few refl c.if-vector-d.false
    ∙ full_distance all_present query vector d (all_full d few)))
