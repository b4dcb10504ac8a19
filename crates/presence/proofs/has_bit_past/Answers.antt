-- A word has no bit past its last. Assumes nothing.
use Rattle.std.proofs.Common.{sym, ap, not, eq-eqb}
use Rattle.limits.specs.Limits.{max_dimensions}
use Rattle.presence.specs.PresenceLaws.{none_past}
use Rattle.presence.proofs.has_bit_past.Goals as goal

pub returns-then-d-ge-MAX_DIMENSIONS : goal.returns-then-d-ge-MAX_DIMENSIONS
returns-then-d-ge-MAX_DIMENSIONS c =
    sym (ap not (eq-eqb _ _ (none_past c.args.word max_dimensions c.args.d c.ranges.word.fits c.if-d-ge-MAX_DIMENSIONS.true)))
