-- What the component is, as present. Assumes nothing.
use Rattle.std.specs.Prelude.{Ok, Some}
use Rattle.std.proofs.Common.{sym, ap, ◌∙◌, w32, arith}
use Rattle.std.proofs.lemmas.Int.{to_z-of_z}
use Rattle.std.proofs.lemmas.Result.{err_from_is_err_and}
use Rattle.reading.specs.IntakeLaws.{as_presence, fresh_presence}
use Rattle.reading.proofs.value.presence.Goals as goal

pub returns-in_err-component : goal.returns-in_err-component
returns-in_err-component c =
    let p = err_from_is_err_and c.from_residual.result c.from_residual.ensures.1 in
    rw (p.1, p.2) (sym (fresh_presence c.args.x ∙ ap as_presence (sym c.in_err-component.ensures)))

pub returns : goal.returns
returns c =
    ap (λ z. Ok (Some z)) (to_z-of_z w32 _ (record { sfits = omega arith }))
    ∙ sym (fresh_presence c.args.x ∙ ap as_presence (sym c.in_ok-component.ensures))
