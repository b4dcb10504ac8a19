-- The numbers of document 01's table "When a call says no", and of document 02's causes: one for each, 0 where there is none. Assumes
-- nothing.
use Rattle.std.specs.Prelude.{ℕ, Result, Ok, Err}
use Rattle.refusal.specs.declared.Refusal.{Refusal}
use Rattle.refusal.specs.declared.Refusal.TheVariants.{Dimension, Bits, Count, Neighbours, Length, Component, Mark, Outside, Code, Cell, Kind, Truncated, Stale, NotANumber, OutOfRange, Trailing, Misplaced, TooFewPresent, PresenceBit, Full, NotRemovable, TooManyQueries}

abbrev pub number_of : Refusal → ℕ
-- d not 1 to 32, or a dimension number not 1 to d
number_of Dimension = 1
-- b above 6·d, or a number of regions other than 2^w with w 0 to 6
number_of Bits = 2
-- n not 1 to 512
number_of Count = 3
-- k is 0 or above n
number_of Neighbours = 4
-- a lent buffer's length is not the exact one
number_of Length = 5
-- component out of range, or non-zero beyond d
number_of Component = 6
-- a mark out of range or below the one before it in its dimension
number_of Mark = 7
-- a vector, or a value whose region is sought, outside the marks
number_of Outside = 8
-- a code naming an empty region, a region number past the last, or a spare bit set
number_of Code = 9
-- the search reads a vector that is not in its code's cell
number_of Cell = 10
-- kind byte not 1 to 7
number_of Kind = 11
-- input ends inside a record or before the next
number_of Truncated = 12
-- reading lost, or age above 20
number_of Stale = 13
-- value NaN
number_of NotANumber = 14
-- value infinite, or its component out of range
number_of OutOfRange = 15
-- bytes after a query
number_of Trailing = 16
-- known kind in a wrong place
number_of Misplaced = 17
-- too few dimensions present: fewer than four, or fewer than d where d is below four (document 02, Slip 1)
number_of TooFewPresent = 18
-- a bit of the presence word at or above d (Slip 1)
number_of PresenceBit = 19
-- adding a vector to a library of 512, the limit (Slip 3)
number_of Full = 20
-- removing a number that is not stored, or the only vector (Slip 3)
number_of NotRemovable = 21
-- more than 64 queries (Slip 5)
number_of TooManyQueries = 22

-- what a call's tests come to: nothing speaks against it, or the first cause that does
abbrev pub Verdict : Type 0
Verdict = Result (Unit {0}) Refusal

-- the number that an answer has for C: 0, or that of its cause
abbrev pub status_of : {A : Type 0} → Result A Refusal → ℕ
status_of (Ok answer) = 0
status_of (Err cause) = number_of cause
