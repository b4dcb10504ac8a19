-- How many of the first are selected. Assumes nothing.
use Rattle.std.specs.Prelude.{ℕ}

-- the code's SELECTED
abbrev pub most_selected : ℕ
most_selected = 16
