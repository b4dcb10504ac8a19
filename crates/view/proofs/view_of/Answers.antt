-- `view_of` meets its contract: the part's number of regions is one less than its marks. Assumes nothing.
use Rattle.std.proofs.Common.{◌∙◌, ap, List, ◌-◌, ℤ, length}
use Rattle.view.specs.View.{regions_between}
use Rattle.view.proofs.view_of.Goals as goal

pub returns : goal.returns
returns c =
    let a = c.args in (
      c.checked_part-part.ensures,
      c.regions_between.ensures ∙ ap (λ (l : List ℤ). length l - 1) c.checked_part-part.ensures ∙ regions_between a.d a.b a.marks.now a.j,
    )
