use Rattle.std.proofs.Common.{length, ap, sym, ◌∙◌, List}
use Rattle.refusal.specs.First.{handed_on, outcome_accepted, outcome_refused}
use Rattle.entries.specs.declared.Entry.{Entry}
use Rattle.entries.specs.Filled.{filled, fitting}
use Rattle.nearest.specs.Filled.{fits_filled, scan_fits}
use Rattle.nearest.proofs.scan.Goals as goal

pub returns : goal.returns
returns c =
    let t = c.args.terms in
    let entries = c.args.entries.now in
    let told = c.in_ok-found.ensures.ok in
    let fits = scan_fits t c.args.query.now c.args.vectors.now (length entries) told.0 in (
      sym told.0,
      c.fill.ensures
          ∙ ap (λ (array : List Entry). filled array entries 0 (fitting (length entries) 0 t.k)) told.1
          ∙ fits_filled entries fits
          ∙ sym (outcome_accepted _ _ told.0),
    )

pub returns-in_err-found : goal.returns-in_err-found
returns-in_err-found c =
    let refused = c.in_err-found.ensures.err in
    (handed_on c.from_residual.ensures.1 ∙ sym refused, sym (outcome_refused _ _ refused))
