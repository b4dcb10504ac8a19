-- Where all dimensions have as many bits, the rows are one run of numbers.
use Rattle.std.proofs.Common.{◌/◌, sym, ap, ◌∙◌, length, arith}
use Rattle.codes.specs.FieldLaws.{length_fields}
use Rattle.codes.specs.WriterLaws.{begins}
use Rattle.codes.specs.Rows.{joined_uniform, fit_uniform}
use Rattle.codes.proofs.Columns.{shape_of, fewest}
use Rattle.codes.proofs.put_numbers.Goals as goal

pub put-requires : goal.put-requires
put-requires c =
    let l = c.args.layout in
    let regions = c.args.regions.now in
    let none = begins c.args.codes.now c.begin.ensures in
    let even = sym c.wider.ensures ∙ c.if-wider-eq0.true in
    let bits = ap length (joined_uniform l.d l.b even 0 regions) ∙ length_fields (l.b / l.d) regions in
    rw c.fewest.ensures (
      none.0,
      omega (arith, fewest (shape_of l)),
      sym (fit_uniform l.d l.b even 0 regions) ∙ c.requires.1,
      rw none.1 (omega (arith, c.requires.2, bits)),
    )

pub returns-then-wider-eq0 : goal.returns-then-wider-eq0
returns-then-wider-eq0 c =
    let l = c.args.layout in
    let none = begins c.args.codes.now c.begin.ensures in
    let even = sym c.wider.ensures ∙ c.if-wider-eq0.true in (
      c.put.ensures.writes,
      rw (none.1, c.fewest.ensures) at c.put.ensures.result_after ∙ sym (joined_uniform l.d l.b even 0 c.args.regions.now),
    )
