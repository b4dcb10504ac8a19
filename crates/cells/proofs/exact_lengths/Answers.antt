-- The second length is tested where the first is right.
use Rattle.std.proofs.Common.{◌∙◌}
use Rattle.std.proofs.lemmas.Bool.{eq-eqb, ne_eqb}
use Rattle.cells.proofs.exact_lengths.Goals as goal

pub returns-then-marks-marks_length : goal.returns-then-marks-marks_length
returns-then-marks-marks_length c = rw (eq-eqb _ _ (c.if-marks-marks_length.true ∙ c.marks_length.ensures), c.codes_length.ensures)

pub returns-else-marks-marks_length : goal.returns-else-marks-marks_length
returns-else-marks-marks_length c = rw (← c.marks_length.ensures, ne_eqb _ _ c.if-marks-marks_length.false)
