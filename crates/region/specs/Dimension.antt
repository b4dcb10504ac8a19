-- The test of one dimension's marks (document 01, "Marks, regions, codes"). Assumes nothing.
use Rattle.std.specs.Prelude.{Bool, true, ◌&&◌, List, [], ◌∷◌, ℤ}
use Rattle.std.specs.Int.Signed.{le_z}
use Rattle.limits.specs.Limits.{is_mark}

-- A mark m is not above the mark behind it.
unfoldable pub not_above : ℤ → List ℤ → Bool
not_above m [] = true
not_above m (next ∷ ms) = le_z m next

-- Each of one dimension's marks is in range, and none is below the one before it; equal neighbours are allowed.
unfoldable pub good_dimension : List ℤ → Bool
good_dimension [] = true
good_dimension (m ∷ ms) = is_mark m && (not_above m ms && good_dimension ms)
