-- `of_bits` meets its contract: a zero divided by a zero is the NaN that a NaN's pattern stands for. Assumes nothing.
use Rattle.std.proofs.Common.{sym, ◌∙◌}
use lib.Ieee.{div, of_bits}
use Rattle.reading.proofs.Patterns.{nan_pattern}
use Rattle.reading.proofs.value.of_bits.Goals as goal

pub returns-then-is_nan : goal.returns-then-is_nan
unfolding div of_bits
returns-then-is_nan c = sym (nan_pattern c.args.bits (sym c.is_nan.ensures ∙ c.if-is_nan.true))
