-- The lookup of a value's region: the causes for which it is refused, and what its answers stand for. Assumes nothing.
use Rattle.std.specs.Prelude.{not, List, [], ◌∷◌, ℕ, ◌+◌, eqb, ℤ, length, Ok, Err, Result}
use Rattle.refusal.specs.declared.Refusal.{Refusal}
use Rattle.refusal.specs.declared.Refusal.TheVariants.{Bits, Length, Mark, Outside}
use Rattle.refusal.specs.Refusal.{number_of}
use Rattle.refusal.specs.First.{Row, ◌⇒◌, first, outcome}
use Rattle.region.specs.Dimension.{good_dimension}
use Rattle.region.specs.Region.{region_of, in_marks}
use Rattle.region.specs.RegionCount.{is_region_count}

-- The causes are 2, 5, 7 and 8, in the order in which they are tested.
abbrev pub region_causes : List ℤ → ℕ → ℤ → List Row
region_causes marks regions v =
    (not (is_region_count regions) ⇒ Bits)
    ∷ (not (eqb (length marks) (regions + 1)) ⇒ Length)
    ∷ (not (good_dimension marks) ⇒ Mark)
    ∷ (not (in_marks marks v) ⇒ Outside)
    ∷ []

-- The answer is the region of v in these marks, or the first cause.
abbrev pub looked_up : List ℤ → ℕ → ℤ → Result ℕ Refusal
looked_up marks regions v = outcome (first (region_causes marks regions v)) (Ok (region_of marks v)) Err

-- Document 01 gives an answer its number, 0 where there is a region.
abbrev pub lookup_number : Result ℕ Refusal → ℕ
lookup_number (Ok r) = 0
lookup_number (Err cause) = number_of cause
