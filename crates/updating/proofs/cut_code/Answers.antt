-- The bits of the code are taken out.
use Rattle.std.proofs.Common.{arith, suc-mul, mul-le-mul_right}
use Rattle.layout.specs.Stretch.{shape, codes_bits_le}
use Rattle.updating.specs.CodeMoves.{cut_out}
use Rattle.updating.proofs.cut_code.Goals as goal

pub overflow_mul-start : goal.overflow_mul-start
overflow_mul-start c =
    let terms = c.args.terms in
    let next = mul-le-mul_right terms.b c.requires.stored in
    let all = codes_bits_le {d = terms.d} {b = terms.b} terms.n (shape terms.d terms.b c.requires.shaped) c.requires.few in
    omega (arith, suc-mul terms.number terms.b)

pub overflow_add-start : goal.overflow_add-start
overflow_add-start c =
    let terms = c.args.terms in
    let next = mul-le-mul_right terms.b c.requires.stored in
    let all = codes_bits_le {d = terms.d} {b = terms.b} terms.n (shape terms.d terms.b c.requires.shaped) c.requires.few in
    omega (arith, suc-mul terms.number terms.b, (shape terms.d terms.b c.requires.shaped).few)

pub returns : goal.returns
returns c =
    let terms = c.args.terms in
    cut_out c.requires (rw (← suc-mul terms.number terms.b) at c.splice.ensures)
