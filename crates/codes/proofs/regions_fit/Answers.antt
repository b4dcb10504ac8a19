-- Where all dimensions have as many bits, the rows are one run of numbers.
use Rattle.std.proofs.Common.{sym, ◌∙◌}
use Rattle.codes.specs.Rows.{fit_uniform}
use Rattle.codes.proofs.regions_fit.Goals as goal

pub returns-then-wider-eq0 : goal.returns-then-wider-eq0
returns-then-wider-eq0 c =
    let l = c.args.layout in
    let even = sym c.wider.ensures ∙ c.if-wider-eq0.true in
    (rw c.fewest.ensures at c.fit.ensures) ∙ sym (fit_uniform l.d l.b even 0 c.args.regions.now)
