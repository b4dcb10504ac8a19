use Rattle.std.proofs.Common.{sym, ◌∙◌, eqb, eqb-true, drop, length-drop, arith}
use Rattle.records.specs.Records.{vector_kind, kind_of}
use Rattle.records.specs.Frame.{framed}
use Rattle.records.specs.RowLaws.{go_on, handed_stop}
use Rattle.library.specs.Sizes.{vector_length}
use Rattle.loading.specs.Checks.{kind_causes, own_causes}
use Rattle.loading.proofs.check.check_vector.Goals as goal

pub returns-in_err-check_kind : goal.returns-in_err-check_kind
returns-in_err-check_kind c =
    let args = c.args in
    let rest = drop args.at args.bytes.now in
    handed_stop (kind_causes vector_kind rest) (own_causes args.d args.lows.now args.highs.now rest) c.from_residual.ensures.1
    c.in_err-check_kind.ensures

-- a record that passes is whole
pub check_components-requires : goal.check_components-requires
check_components-requires c =
    let args = c.args in
    let rest = drop args.at args.bytes.now in
    let is = framed (eqb (kind_of rest) vector_kind) rest (sym c.in_ok-check_kind.ensures) in
    let kind = eqb-true (kind_of rest) vector_kind is.there in
    let long = rw (kind, length-drop args.at args.bytes.now, vector_length) at is.whole in
    (c.requires, rw vector_length (omega arith))

pub returns : goal.returns
returns c =
    let rest = drop c.args.at c.args.bytes.now in
    c.check_components.ensures ∙ sym (go_on (kind_causes vector_kind rest) _ (sym c.in_ok-check_kind.ensures))
