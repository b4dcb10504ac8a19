-- What is written so far, with what is left to be read off the bits, is the whole. Assumes nothing.
use Rattle.std.proofs.Common.{refl, arith}
use Rattle.codes.specs.BitLaws.{bits_at_lt}
use Rattle.codes.proofs.Taking.{takes, done}
use Rattle.codes.proofs.take.Goals as goal

pub loop-i-init : goal.loop-i-init
loop-i-init c = let pre = c.requires in record { within = pre.1; long = refl; near = pre.3; so_far = refl }

pub overflow_cast-numbers : goal.overflow_cast-numbers
overflow_cast-numbers c = rw c.bits_at.ensures (record { fits = bits_at_lt c.args.codes.now c.loop-i.at c.args.w c.requires.0 })

pub bounds-numbers-i : goal.bounds-numbers-i
bounds-numbers-i c = omega (arith, c.loop-i.invariant.long, c.requires.2)

pub overflow_add-at : goal.overflow_add-at
overflow_add-at c = omega (arith, c.loop-i.invariant.near, c.requires.0)

pub loop-i-preserved : goal.loop-i-preserved
loop-i-preserved c = rw c.bits_at.ensures (takes c.loop-i.invariant c.requires.0 c.requires.2 (omega arith))

pub returns : goal.returns
returns c = done c.loop-i.invariant (omega arith)
