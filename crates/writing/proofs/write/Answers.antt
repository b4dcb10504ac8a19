-- `write` meets its contract: the buffer is written where nothing refuses. Assumes nothing.
use Rattle.std.specs.Prelude.{Ok, Err}
use Rattle.std.proofs.Common.{◌≡◌, sym, ◌∙◌, List, ℕ, ℤ}
use Rattle.refusal.specs.declared.Refusal.{Refusal}
use Rattle.refusal.specs.First.{first, outcome_accepted, outcome_refused, handed_on}
use Rattle.layout.specs.Stretch.{shape_causes}
use Rattle.records.specs.RowLaws.{go_on, stop, handed_stop}
use Rattle.library.specs.Library.{library_with}
use Rattle.writing.specs.Write.{shaped_causes, write_causes}
use Rattle.writing.proofs.write.Goals as goal

-- behind a shape that passes, by the layout that was made of it
module _ {d b d' b' : ℕ} (n room : ℕ) (marks : List ℤ) (settings : List ℕ) (components : List ℤ)
    (d_is : d' ≡ d) (b_is : b' ≡ b) (passes : first (shape_causes d b) ≡ Ok tt) where
  refused : {cause : Refusal} → Err cause ≡ first (shaped_causes (library_with d' b' n marks settings components) room)
      → first (write_causes (library_with d b n marks settings components) room) ≡ Err cause
  refused is = go_on (shape_causes d b) _ passes ∙ rw (d_is, b_is) at (sym is)

  accepted : Ok tt ≡ first (shaped_causes (library_with d' b' n marks settings components) room)
      → first (write_causes (library_with d b n marks settings components) room) ≡ Ok tt
  accepted is = go_on (shape_causes d b) _ passes ∙ rw (d_is, b_is) at (sym is)

pub returns-in_err-layout-clause-value : goal.returns-in_err-layout-clause-value
returns-in_err-layout-clause-value c =
    handed_stop (shape_causes c.args.d c.args.b) _ c.from_residual.ensures.1 (sym c.in_err-layout.ensures.err)

pub returns-in_err-layout-clause-bytes_after : goal.returns-in_err-layout-clause-bytes_after
returns-in_err-layout-clause-bytes_after c =
    sym (outcome_refused _ _ (stop (shape_causes c.args.d c.args.b) _ c.in_err-layout.ensures.err))

pub returns-in_err-check_library-clause-value : goal.returns-in_err-check_library-clause-value
returns-in_err-check_library-clause-value c =
    let a = c.args in
    let made = c.in_ok-layout.ensures.ok in
    handed_on c.from_residual-in_err-check_library.ensures.1
    ∙ sym (refused a.n _ a.marks.now a.settings.now a.components.now made.0 made.1 made.2 c.in_err-check_library.ensures)

pub returns-in_err-check_library-clause-bytes_after : goal.returns-in_err-check_library-clause-bytes_after
returns-in_err-check_library-clause-bytes_after c =
    let a = c.args in
    let made = c.in_ok-layout.ensures.ok in
    sym (outcome_refused _ _
    (refused a.n _ a.marks.now a.settings.now a.components.now made.0 made.1 made.2 c.in_err-check_library.ensures))

pub write_all-requires : goal.write_all-requires
write_all-requires c =
    let made = c.in_ok-layout.ensures.ok in
    go_on (shape_causes c.in_ok-layout.layout.d c.in_ok-layout.layout.b) _ (rw (made.0, made.1) made.2)
    ∙ sym c.in_ok-check_library.ensures

pub returns-clause-value : goal.returns-clause-value
returns-clause-value c =
    let a = c.args in
    let made = c.in_ok-layout.ensures.ok in
    sym (accepted a.n _ a.marks.now a.settings.now a.components.now made.0 made.1 made.2 c.in_ok-check_library.ensures)

pub returns-clause-bytes_after : goal.returns-clause-bytes_after
returns-clause-bytes_after c =
    let a = c.args in
    let made = c.in_ok-layout.ensures.ok in
    rw (made.0, made.1) at c.write_all.ensures
    ∙ sym (outcome_accepted _ _
    (accepted a.n _ a.marks.now a.settings.now a.components.now made.0 made.1 made.2 c.in_ok-check_library.ensures))
