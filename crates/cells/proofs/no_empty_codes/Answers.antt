-- Rising marks leave no region empty.
use Rattle.std.proofs.Common.{◌∙◌, sym}
use Rattle.cells.specs.Rising.{rising_no_empty}
use Rattle.cells.proofs.no_empty_codes.Goals as goal

pub returns-then-all_rise : goal.returns-then-all_rise
returns-then-all_rise c =
    let a = c.args in
    let rise = sym c.all_rise.ensures ∙ c.if-all_rise.true in
    c.if-all_rise.true ∙ sym (rising_no_empty a.layout.d a.layout.b a.marks.now a.codes.now rise a.n)
