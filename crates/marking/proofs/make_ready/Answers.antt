-- `make_ready` meets its contract: the front of the array of keys holds one for each vector. Assumes nothing.
use Rattle.std.specs.Prelude.{Ok}
use Rattle.std.proofs.Common.{◌≡◌, ℕ, sym, ap, ◌∙◌, length}
use Rattle.std.proofs.Math.Path.{subst⁻¹}
use Rattle.std.proofs.Math.Seq.{length-take-le}
use Rattle.refusal.specs.First.{first}
use Rattle.marking.specs.Made.{made_marks}
use Rattle.marking.specs.Making.{make_causes, given}
use Rattle.marking.proofs.make_ready.Goals as goal

pub slice_bounds-keys-end : goal.slice_bounds-keys-end
slice_bounds-keys-end c = (given c.args.layout.d c.args.layout.b c.args.n c.args.vectors.now (length c.args.marks.now) c.requires).count.below

pub slice_bounds-make_dimensions-end : goal.slice_bounds-make_dimensions-end
slice_bounds-make_dimensions-end c =
    sym (length-take-le _ _ (given c.args.layout.d c.args.layout.b c.args.n c.args.vectors.now (length c.args.marks.now) c.requires).count.below)

pub make_dimensions-requires-clause-marks_value : goal.make_dimensions-requires-clause-marks_value
make_dimensions-requires-clause-marks_value c =
    let a = c.args in
    let all = length-take-le _ _ (given a.layout.d a.layout.b a.n a.vectors.now (length a.marks.now) c.requires).count.below in
    subst⁻¹ (λ (n : ℕ). first (make_causes a.layout.d a.layout.b n a.vectors.now (length a.marks.now)) ≡ Ok tt) all c.requires

pub returns : goal.returns
returns c =
    let a = c.args in
    let all = length-take-le _ _ (given a.layout.d a.layout.b a.n a.vectors.now (length a.marks.now) c.requires).count.below in
    c.make_dimensions.ensures ∙ ap (λ (n : ℕ). made_marks a.layout.d a.layout.b n a.vectors.now) all
