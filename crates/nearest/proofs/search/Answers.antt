use Rattle.std.proofs.Common.{length, ap, sym, ◌∙◌, Ok}
use Rattle.refusal.specs.First.{handed_on, outcome_accepted, outcome_refused}
use Rattle.entries.specs.Filled.{filled, fitting}
use Rattle.search.specs.declared.Found.{Found}
use Rattle.search.specs.Ready.{index_of, query_of}
use Rattle.least_reading.specs.Searching.{tells_found, tells_cause}
use Rattle.nearest.specs.Filled.{fits_filled, search_fits}
use Rattle.nearest.proofs.search.Goals as goal

pub returns : goal.returns
returns c =
    let a = c.args in
    let t = a.terms in
    let entries = a.entries.now in
    let searches = c.in_ok-found.ensures in
    let told = tells_found searches in
    let l = index_of t a.marks.now a.codes.now a.vectors.now in
    let fits = search_fits l (query_of t a.query.now) t.k (length entries) (length a.reads.now) told.accepted in (
      ap (λ (found : Found). Ok found.count) told.is ∙ sym (outcome_accepted _ _ told.accepted),
      c.fill.ensures
          ∙ ap (λ (found : Found). filled found.entries entries 0 (fitting (length entries) 0 t.k)) told.is
          ∙ fits_filled entries fits
          ∙ sym (outcome_accepted _ _ told.accepted),
      searches.reads_are,
    )

pub returns-in_err-found : goal.returns-in_err-found
returns-in_err-found c =
    let searches = c.in_err-found.ensures in
    let refused = tells_cause searches in (
      handed_on c.from_residual.ensures.1 ∙ sym (outcome_refused _ _ refused),
      sym (outcome_refused _ _ refused),
      searches.reads_are,
    )
