use Rattle.std.proofs.Common.{sym, ◌∙◌, drop}
use Rattle.refusal.specs.First.{first}
use Rattle.records.specs.Records.{mark_kind}
use Rattle.records.specs.RowLaws.{go_on, handed_stop}
use Rattle.loading.specs.Checks.{kind_causes}
use Rattle.loading.proofs.check.check_mark.Goals as goal

pub returns-in_err-check_kind : goal.returns-in_err-check_kind
returns-in_err-check_kind c =
    rw (← c.mark_place-at.ensures)
    (handed_stop (kind_causes mark_kind (drop c.mark_place-at.result c.args.bytes.now)) _ c.from_residual.ensures.1
    c.in_err-check_kind.ensures)

pub returns-then-is_mark_wrong : goal.returns-then-is_mark_wrong
unfolding first
returns-then-is_mark_wrong c =
    rw (← c.mark_place-at.ensures)
    (sym (go_on (kind_causes mark_kind (drop c.mark_place-at.result c.args.bytes.now)) _ (sym c.in_ok-check_kind.ensures)
    ∙ rw (← c.is_mark_wrong.ensures, c.if-is_mark_wrong.true)))

pub returns : goal.returns
unfolding first
returns c =
    rw (← c.mark_place-at.ensures)
    (sym (go_on (kind_causes mark_kind (drop c.mark_place-at.result c.args.bytes.now)) _ (sym c.in_ok-check_kind.ensures)
    ∙ rw (← c.is_mark_wrong.ensures, c.if-is_mark_wrong.false)))
