use Rattle.std.proofs.Common.{arith}
use Rattle.bounds.specs.BitBuffer.{one_more, seven_more}
use Rattle.bounds.proofs.bit_buffer.fill.Goals as goal

pub returns-then-codes-next-ge7 : goal.returns-then-codes-next-ge7
returns-then-codes-next-ge7 c = (
  rw (c.four_bytes-front.ensures.0, c.four_bytes-back.ensures.0)
      (seven_more c.requires.0 c.args.w c.requires.1 (λ i. omega (arith, c.type_inv.codes i)) c.if-w-count.false),
  omega (arith, c.requires.1),
)

pub returns : goal.returns
returns c = (
  rw c.from.ensures (one_more c.requires.0 c.args.w c.requires.1 (λ i. omega (arith, c.type_inv.codes i)) c.if-w-count.false),
  omega (arith, c.requires.1),
)
