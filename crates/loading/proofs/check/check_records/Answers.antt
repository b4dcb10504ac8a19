use Rattle.std.specs.Prelude.{Ok}
use Rattle.std.proofs.Common.{◌≡◌, sym, ◌∙◌, List, ◌++◌, ℕ}
use Rattle.refusal.specs.First.{Row, first, handed_on}
use Rattle.records.specs.RowLaws.{go_on, stop}
use Rattle.library.specs.Library.{read_library}
use Rattle.loading.specs.Load.{head_causes, marks_causes, vectors_causes, end_causes}
use Rattle.loading.proofs.check.check_records.Goals as goal

module _ (bytes : List ℕ) where
  abbrev head : List Row
  head = head_causes (read_library bytes) bytes

  abbrev marks : List Row
  marks = marks_causes (read_library bytes) bytes

  abbrev vectors : List Row
  vectors = vectors_causes (read_library bytes) bytes

  abbrev end : List Row
  end = end_causes (read_library bytes) bytes

pub returns-in_err-head-clause-err : goal.returns-in_err-head-clause-err
returns-in_err-head-clause-err c =
    let bytes = c.args.bytes.now in
    rw (handed_on c.from_residual.ensures.1)
    (stop (head bytes ++ marks bytes ++ vectors bytes) (end bytes)
    (stop (head bytes ++ marks bytes) (vectors bytes) (stop (head bytes) (marks bytes) c.in_err-head.ensures.err)))

pub returns-in_err-check_marks-clause-err : goal.returns-in_err-check_marks-clause-err
returns-in_err-check_marks-clause-err c =
    let bytes = c.args.bytes.now in
    rw (handed_on c.from_residual-in_err-check_marks.ensures.1)
    (stop (head bytes ++ marks bytes ++ vectors bytes) (end bytes)
    (stop (head bytes ++ marks bytes) (vectors bytes)
    (go_on (head bytes) (marks bytes) c.in_ok-head.ensures.ok.1 ∙ sym c.in_err-check_marks.ensures)))

-- the marks behind a head that passes
module _ (bytes : List ℕ) (head_passes : first (head bytes) ≡ Ok tt) (marks_pass : Ok tt ≡ first (marks bytes)) where
  to_marks : first (head bytes ++ marks bytes) ≡ Ok tt
  to_marks = go_on (head bytes) (marks bytes) head_passes ∙ sym marks_pass

  -- and the vectors behind them
  to_vectors : Ok tt ≡ first (vectors bytes) → first (head bytes ++ marks bytes ++ vectors bytes) ≡ Ok tt
  to_vectors vectors_pass = go_on (head bytes ++ marks bytes) (vectors bytes) to_marks ∙ sym vectors_pass

pub returns-in_err-check_vectors-clause-err : goal.returns-in_err-check_vectors-clause-err
returns-in_err-check_vectors-clause-err c =
    let bytes = c.args.bytes.now in
    rw (handed_on c.from_residual-in_err-check_vectors.ensures.1)
    (stop (head bytes ++ marks bytes ++ vectors bytes) (end bytes)
    (go_on (head bytes ++ marks bytes) (vectors bytes) (to_marks bytes c.in_ok-head.ensures.ok.1 c.in_ok-check_marks.ensures)
    ∙ sym c.in_err-check_vectors.ensures))

pub returns-in_err-check_end-clause-err : goal.returns-in_err-check_end-clause-err
returns-in_err-check_end-clause-err c =
    let bytes = c.args.bytes.now in
    rw (handed_on c.from_residual-in_err-check_end.ensures.1)
    (go_on (head bytes ++ marks bytes ++ vectors bytes) (end bytes)
    (to_vectors bytes c.in_ok-head.ensures.ok.1 c.in_ok-check_marks.ensures c.in_ok-check_vectors.ensures)
    ∙ sym c.in_err-check_end.ensures)

pub returns-clause-ok : goal.returns-clause-ok
returns-clause-ok c =
    let bytes = c.args.bytes.now in (
      c.in_ok-head.ensures.ok.0,
      go_on (head bytes ++ marks bytes ++ vectors bytes) (end bytes)
          (to_vectors bytes c.in_ok-head.ensures.ok.1 c.in_ok-check_marks.ensures c.in_ok-check_vectors.ensures)
          ∙ sym c.in_ok-check_end.ensures,
    )
