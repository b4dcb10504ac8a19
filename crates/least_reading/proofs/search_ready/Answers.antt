use Rattle.std.proofs.Common.{length-take-le}
use Rattle.least_reading.proofs.search_ready.Goals as goal

pub lower_bounds-requires : goal.lower_bounds-requires
lower_bounds-requires c =
    (record { ready = c.requires.0; weighed = c.factors_of.ensures }, length-take-le _ _ c.requires.0.count, c.requires.2)
