use Rattle.bounds.specs.BitBuffer.{takes}
use Rattle.bounds.proofs.bit_buffer.take.Goals as goal

pub returns : goal.returns
returns c = takes c.fill-enough.ensures.0 c.args.w c.requires.1 c.fill-enough.ensures.1
