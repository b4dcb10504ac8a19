-- The table is filled exactly where the lengths are its own.
use Rattle.std.proofs.Common.{◌≡◌, ◌&&◌, ◌==◌, ℕ, length, sym, ◌∙◌}
use Rattle.std.specs.Prelude.{Ok, Err, false}
use Rattle.refusal.specs.declared.Refusal.{Refusal}
use Rattle.refusal.specs.First.{first, outcome_accepted, outcome_refused}
use Rattle.layout.specs.Layout.{first_marks}
use Rattle.layout.specs.Stretch.{shape_causes}
use Rattle.table.specs.Table.{has_table}
use Rattle.table.proofs.fill_table.Goals as goal

-- where the numbers are within their limits, the lengths alone decide
lengths : (d b marks table : ℕ) → first (shape_causes d b) ≡ Ok tt
    → has_table d b marks table ≡ (marks == first_marks d b d) && (table == first_marks d b d)
unfolding has_table
lengths d b marks table shaped = outcome_accepted _ _ shaped

-- else there is no table
nowhere : (d b marks table : ℕ) {cause : Refusal} → first (shape_causes d b) ≡ Err cause → has_table d b marks table ≡ false
unfolding has_table
nowhere d b marks table refused = outcome_refused _ _ refused

pub returns-in_default : goal.returns-in_default
returns-in_default c =
    let a = c.args in
    rw (nowhere a.d a.b (length a.marks.now) (length a.table.now) c.in_default.ensures.err)

pub returns-then-has_table : goal.returns-then-has_table
returns-then-has_table c =
    let a = c.args in
    let told = c.in-Ok.ensures.ok in
    let holds = rw (told.0, told.1) at (sym c.has_table.ensures ∙ c.if-has_table.true) in
    rw (lengths a.d a.b (length a.marks.now) (length a.table.now) told.2, holds) (rw (told.0, told.1) at c.fill_dimensions.ensures)

pub returns-else-has_table : goal.returns-else-has_table
returns-else-has_table c =
    let a = c.args in
    let told = c.in-Ok.ensures.ok in
    let fails = rw (told.0, told.1) at (sym c.has_table.ensures ∙ c.if-has_table.false) in
    rw (lengths a.d a.b (length a.marks.now) (length a.table.now) told.2, fails)
