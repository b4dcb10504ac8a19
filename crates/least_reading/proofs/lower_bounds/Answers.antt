use Rattle.std.specs.Prelude.{Ok}
use Rattle.std.proofs.Common.{◌≡◌, ◌≤◌, ℕ, List, length, ap, sym, ◌∙◌, arith, length-take-le}
use Rattle.refusal.specs.First.{first}
use Rattle.layout.specs.Layout.{first_marks}
use Rattle.layout.specs.Stretch.{shape_causes}
use Rattle.order.proofs.Prefix.{back_within, shared_is}
use Rattle.step.specs.declared.Bound.TheVariants.{Lower}
use Rattle.distance.specs.Bounds.{weighed_lower}
use Rattle.distance.specs.Small.{Factors, word_small}
use Rattle.distance.specs.Values.{values_from}
use Rattle.table.specs.Table.{bound_sum}
use Rattle.table.specs.TableLaws.{is_filled, bounds_sum, table_le}
use Rattle.bounds.specs.Sums.{sums_accepted}
use Rattle.search.specs.Search.{low_in}
use Rattle.least_reading.specs.Bounding.{bounding}
use Rattle.least_reading.specs.Prepared.{library_of, asked_of}
use Rattle.least_reading.proofs.lower_bounds.Goals as goal

-- the table has room for the entries of all marks
held : (d b marks : ℕ) → first (shape_causes d b) ≡ Ok tt → marks ≡ first_marks d b d → marks ≤ 2080
held d b marks shaped are = omega (arith, table_le d b shaped)

pub slice_bounds-table-end : goal.slice_bounds-table-end
slice_bounds-table-end c =
    let t = c.args.task.now.terms in
    held t.d t.b _ c.requires.0.ready.shaped c.requires.0.ready.of_marks

pub slice_bounds-fill_table-end : goal.slice_bounds-fill_table-end
slice_bounds-fill_table-end c =
    let t = c.args.task.now.terms in
    sym (length-take-le _ _ (held t.d t.b _ c.requires.0.ready.shaped c.requires.0.ready.of_marks))

pub slice_bounds-table-end-2 : goal.slice_bounds-table-end-2
slice_bounds-table-end-2 c =
    let t = c.args.task.now.terms in
    back_within _ _ c.fill_table.new.table (held t.d t.b _ c.requires.0.ready.shaped c.requires.0.ready.of_marks) c.fill_table.auto.table

pub slice_bounds-sum_lows-end : goal.slice_bounds-sum_lows-end
slice_bounds-sum_lows-end c =
    let t = c.args.task.now.terms in
    sym (length-take-le _ _
    (back_within _ _ c.fill_table.new.table (held t.d t.b _ c.requires.0.ready.shaped c.requires.0.ready.of_marks) c.fill_table.auto.table))

pub sum_lows-requires : goal.sum_lows-requires
sum_lows-requires c =
    let t = c.args.task.now.terms in
    let within =
    back_within _ _ c.fill_table.new.table (held t.d t.b _ c.requires.0.ready.shaped c.requires.0.ready.of_marks) c.fill_table.auto.table in
    (sums_accepted (bounding c.requires.0.ready _ c.requires.1) _ (length-take-le _ _ within), rw c.requires.1 c.requires.2)

pub returns : goal.returns
returns c =
    let task = c.args.task.now in
    let d = task.terms.d in
    let b = task.terms.b in
    let n = length c.args.lows.now in
    let is = bounding c.requires.0.ready n c.requires.1 in
    let room = held d b _ is.shaped is.of_marks in
    let small : Factors task.factors = rw c.requires.0.weighed (word_small task.terms.word) in
    let back = shared_is _ _ c.fill_table.new.table room c.fill_table.auto.table in
    let full = c.fill_table.ensures ∙ is_filled d b _ _ _ _ is.shaped is.of_marks (length-take-le _ _ room) in
    c.sum_lows.ensures
    ∙ ap (λ (table : List ℕ). values_from (bound_sum d b table task.codes.now) 0 n) (back ∙ full)
    ∙ bounds_sum Lower d b task.marks.now task.factors task.query.now task.codes.now n small is.shaped is.components is.good
    ∙ ap (λ (factors : List ℕ). values_from (weighed_lower d b task.marks.now task.codes.now factors task.query.now) 0 n) c.requires.0.weighed
    ∙ ap (values_from (low_in (library_of task) (asked_of task)) 0) c.requires.1
