use Rattle.std.specs.Prelude.{Ok}
use Rattle.std.proofs.Common.{◌≡◌, sym, ap, ◌∙◌, not, [], ◌∷◌}
use Rattle.refusal.specs.declared.Refusal.TheVariants.{Count}
use Rattle.refusal.specs.First.{◌⇒◌, first, handed_on}
use Rattle.limits.specs.Limits.{is_vector_count}
use Rattle.layout.specs.Stretch.{shape_causes}
use Rattle.records.specs.Records.{head_kind}
use Rattle.records.specs.RowLaws.{go_on, stop}
use Rattle.library.specs.Library.{read_library}
use Rattle.loading.specs.Load.{head_causes}
use Rattle.loading.specs.Heads.{head_rows, head_of}
use Rattle.loading.specs.ReadLaws.{head_d, head_b, head_n}
use Rattle.loading.specs.Checks.{kind_causes}
use Rattle.loading.proofs.check.check_head.Goals as goal

pub returns-in_err-check_kind-clause-err : goal.returns-in_err-check_kind-clause-err
returns-in_err-check_kind-clause-err c =
    rw (handed_on c.from_residual.ensures.1) (stop (kind_causes head_kind c.args.bytes.now) _ (sym c.in_err-check_kind.ensures))

pub returns-in_err-layout-clause-err : goal.returns-in_err-layout-clause-err
returns-in_err-layout-clause-err c =
    let bytes = c.args.bytes.now in
    rw (handed_on c.from_residual-in_err-layout.ensures.1)
    (ap first (head_rows bytes c.byte_at-d.ensures c.byte_at-b.ensures c.u16_at-n.ensures)
    ∙ go_on (kind_causes head_kind bytes) _ (sym c.in_ok-check_kind.ensures)
    ∙ stop (shape_causes c.byte_at-d.result c.byte_at-b.result) _ c.in_err-layout.ensures.err)

pub returns-then-not-is_vector_count-clause-err : goal.returns-then-not-is_vector_count-clause-err
unfolding first
returns-then-not-is_vector_count-clause-err c =
    let bytes = c.args.bytes.now in
    ap first (head_rows bytes c.byte_at-d.ensures c.byte_at-b.ensures c.u16_at-n.ensures)
    ∙ go_on (kind_causes head_kind bytes) _ (sym c.in_ok-check_kind.ensures)
    ∙ go_on (shape_causes c.byte_at-d.result c.byte_at-b.result) ((not (is_vector_count c.u16_at-n.result) ⇒ Count) ∷ []) c.in_ok-layout.ensures.ok.2
    ∙ rw (← c.is_vector_count.ensures, c.if-not-is_vector_count.true)

pub returns-clause-ok : goal.returns-clause-ok
unfolding first
returns-clause-ok c =
    let bytes = c.args.bytes.now in
    let made = c.in_ok-layout.ensures.ok in
    let passes : first (head_causes (read_library bytes) bytes) ≡ Ok tt =
    ap first (head_rows bytes c.byte_at-d.ensures c.byte_at-b.ensures c.u16_at-n.ensures)
    ∙ go_on (kind_causes head_kind bytes) _ (sym c.in_ok-check_kind.ensures)
    ∙ go_on (shape_causes c.byte_at-d.result c.byte_at-b.result) ((not (is_vector_count c.u16_at-n.result) ⇒ Count) ∷ []) made.2
    ∙ rw (← c.is_vector_count.ensures, c.if-not-is_vector_count.false) in (
      head_of bytes passes (made.0 ∙ c.byte_at-d.ensures ∙ sym (head_d bytes)) (made.1 ∙ c.byte_at-b.ensures ∙ sym (head_b bytes))
          (c.u16_at-n.ensures ∙ sym (head_n bytes)),
      passes,
    )
