use Rattle.std.specs.Prelude.{Ok}
use Rattle.std.proofs.Common.{◌≡◌, ◌≤◌, ℕ, List, length, ap, sym, ◌∙◌, arith, length-take-le}
use Rattle.refusal.specs.First.{first}
use Rattle.limits.specs.Limits.{max_vectors}
use Rattle.limits.specs.Tests.{between}
use Rattle.layout.specs.Layout.{first_marks}
use Rattle.layout.specs.Stretch.{shape_causes}
use Rattle.order.proofs.Prefix.{back_within, shared_is}
use Rattle.distance.specs.Values.{values_from}
use Rattle.table.specs.Table.{bound_sum}
use Rattle.table.specs.TableLaws.{is_filled, bounds_sum, table_le}
use Rattle.bounds.proofs.cell.fill_bounds.Goals as goal

-- the table has room for the entries of all marks
held : (d b marks : ℕ) → first (shape_causes d b) ≡ Ok tt → marks ≡ first_marks d b d → marks ≤ 2080
held d b marks shaped are = omega (arith, table_le d b shaped)

pub slice_bounds-table-end : goal.slice_bounds-table-end
slice_bounds-table-end c = held c.args.layout.d c.args.layout.b _ c.requires.0.shaped c.requires.0.of_marks

pub slice_bounds-fill_table-end : goal.slice_bounds-fill_table-end
slice_bounds-fill_table-end c = sym (length-take-le _ _ (held c.args.layout.d c.args.layout.b _ c.requires.0.shaped c.requires.0.of_marks))

pub slice_bounds-table-end-2 : goal.slice_bounds-table-end-2
slice_bounds-table-end-2 c =
    back_within _ _ c.fill_table.new.table (held c.args.layout.d c.args.layout.b _ c.requires.0.shaped c.requires.0.of_marks) c.fill_table.auto.table

pub slice_bounds-sum_all-end : goal.slice_bounds-sum_all-end
slice_bounds-sum_all-end c =
    sym (length-take-le _ _
    (back_within _ _ c.fill_table.new.table (held c.args.layout.d c.args.layout.b _ c.requires.0.shaped c.requires.0.of_marks) c.fill_table.auto.table))

pub sum_all-requires : goal.sum_all-requires
sum_all-requires c =
    let is = c.requires.0 in
    let n = length c.args.bounds.now in
    let few : n ≤ max_vectors = (between 1 n max_vectors is.count).below in
    let within = back_within _ _ c.fill_table.new.table (held c.args.layout.d c.args.layout.b _ is.shaped is.of_marks) c.fill_table.auto.table in
    (length-take-le _ _ within ∙ is.of_marks, few, omega (arith, is.of_codes))

pub returns : goal.returns
returns c =
    let a = c.args in
    let is = c.requires.0 in
    let n = length a.bounds.now in
    let room = held a.layout.d a.layout.b _ is.shaped is.of_marks in
    let back = shared_is _ _ c.fill_table.new.table room c.fill_table.auto.table in
    let full = c.fill_table.ensures ∙ is_filled a.layout.d a.layout.b _ _ _ _ is.shaped is.of_marks (length-take-le _ _ room) in
    c.sum_all.ensures
    ∙ ap (λ (table : List ℕ). values_from (bound_sum a.layout.d a.layout.b table a.codes.now) 0 n) (back ∙ full)
    ∙ bounds_sum a.bound a.layout.d a.layout.b a.marks.now a.factors a.query.now a.codes.now n c.requires.1 is.shaped is.components is.good
