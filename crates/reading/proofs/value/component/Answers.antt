-- A value's bits stand for the value, and a value that is not ordered with zero is a NaN. Assumes nothing.
use Rattle.std.proofs.Common.{sym, ap, ◌∙◌, subst}
use lib.Dec.{T}
use lib.Ieee.{binary32}
use lib.Ieee.Bits.{of_bits-to_bits}
use Rattle.reading.specs.Intake.{value_intake}
use Rattle.reading.proofs.Patterns.{nan_intake}
use Rattle.reading.proofs.Ordered.{at_most_zero, at_least_zero, unordered}
use Rattle.reading.proofs.value.component.Goals as goal

pub float_to_bits-x : goal.float_to_bits-x
float_to_bits-x c = at_most_zero c.args.x c.if-x.true

pub returns-then-x : goal.returns-then-x
returns-then-x c = c.component_of_bits.ensures ∙ ap value_intake (of_bits-to_bits binary32 c.args.x (subst T (sym c.well_formed.0.1) tt))

pub float_to_bits-x-then-x-2 : goal.float_to_bits-x-then-x-2
float_to_bits-x-then-x-2 c = at_least_zero c.args.x c.if-x-2.true

pub returns-then-x-2 : goal.returns-then-x-2
returns-then-x-2 c =
    c.component_of_bits-then-x-2.ensures ∙ ap value_intake (of_bits-to_bits binary32 c.args.x (subst T (sym c.well_formed.0.1) tt))

pub returns : goal.returns
returns c = sym (ap value_intake (unordered c.args.x c.if-x.false c.if-x-2.false) ∙ nan_intake)
