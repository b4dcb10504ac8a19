-- What the second intake gives, and 13 where it finds the reading absent. Assumes nothing.
use Rattle.std.specs.Prelude.{◌≡◌, refl, Option, Some, None, Ok, ℤ, ok_or}
use Rattle.std.proofs.Common.{sym, ap, ◌∙◌}
use Rattle.std.proofs.lemmas.Result.{err_from_is_err_and}
use Rattle.refusal.specs.declared.Refusal.TheVariants.{Stale}
use Rattle.reading.specs.IntakeLaws.{as_intake, intake_by_presence}
use Rattle.reading.proofs.Reading.intake.Goals as goal

pub returns-in_err-presence : goal.returns-in_err-presence
returns-in_err-presence c =
    let p = err_from_is_err_and c.from_residual.result c.from_residual.ensures.1 in
    rw (p.1, p.2) (sym (intake_by_presence c.args.self ∙ ap as_intake (sym c.in_err-presence.ensures)))

-- what is absent is refused
by_absence : (o : Option ℤ) → ok_or o Stale ≡ as_intake (Ok o)
by_absence (Some z) = refl
by_absence None = refl

pub returns : goal.returns
returns c =
    c.ok_or.ensures.value ∙ by_absence c.in_ok-presence.field-0
    ∙ sym (intake_by_presence c.args.self ∙ ap as_intake (sym c.in_ok-presence.ensures))
