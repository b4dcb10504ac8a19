-- No two causes have one number, and no cause has 0: so what is proved of a call's verdict is proved of the number that it returns. Assumes
-- nothing.
use Rattle.std.specs.Prelude.{◌≡◌, refl, List, [], ◌∷◌, ℕ, get_or, Ok, Err}
use Rattle.std.proofs.Common.{sym, ap, ◌∙◌}
use Rattle.refusal.specs.declared.Refusal.{Refusal}
use Rattle.refusal.specs.declared.Refusal.TheVariants.{Dimension, Bits, Count, Neighbours, Length, Component, Mark, Outside, Code, Cell, Kind, Truncated, Stale, NotANumber, OutOfRange, Trailing, Misplaced, TooFewPresent, PresenceBit, Full, NotRemovable, TooManyQueries}
use Rattle.refusal.specs.Refusal.{Verdict}
use Rattle.refusal.specs.Refusal.{number_of, status_of}

-- the verdicts, each at its number
abbrev verdicts : List Verdict
verdicts =
    (Ok tt)
    ∷ Err Dimension
    ∷ Err Bits
    ∷ Err Count
    ∷ Err Neighbours
    ∷ Err Length
    ∷ Err Component
    ∷ Err Mark
    ∷ Err Outside
    ∷ Err Code
    ∷ Err Cell
    ∷ Err Kind
    ∷ Err Truncated
    ∷ Err Stale
    ∷ Err NotANumber
    ∷ Err OutOfRange
    ∷ Err Trailing
    ∷ Err Misplaced
    ∷ Err TooFewPresent
    ∷ Err PresenceBit
    ∷ Err Full
    ∷ Err NotRemovable
    ∷ Err TooManyQueries
    ∷ []

-- the verdict of a number
abbrev verdict_at : ℕ → Verdict
verdict_at n = get_or verdicts n (Ok tt)

told_by_number : (v : Verdict) → verdict_at (status_of v) ≡ v
told_by_number (Ok _) = refl
told_by_number (Err Dimension) = refl
told_by_number (Err Bits) = refl
told_by_number (Err Count) = refl
told_by_number (Err Neighbours) = refl
told_by_number (Err Length) = refl
told_by_number (Err Component) = refl
told_by_number (Err Mark) = refl
told_by_number (Err Outside) = refl
told_by_number (Err Code) = refl
told_by_number (Err Cell) = refl
told_by_number (Err Kind) = refl
told_by_number (Err Truncated) = refl
told_by_number (Err Stale) = refl
told_by_number (Err NotANumber) = refl
told_by_number (Err OutOfRange) = refl
told_by_number (Err Trailing) = refl
told_by_number (Err Misplaced) = refl
told_by_number (Err TooFewPresent) = refl
told_by_number (Err PresenceBit) = refl
told_by_number (Err Full) = refl
told_by_number (Err NotRemovable) = refl
told_by_number (Err TooManyQueries) = refl

-- a number tells its verdict
pub one_verdict : (v w : Verdict) → status_of v ≡ status_of w → v ≡ w
one_verdict v w same = sym (told_by_number v) ∙ ap verdict_at same ∙ told_by_number w

-- and its cause, where there is one
pub one_cause : (a b : Refusal) → number_of a ≡ number_of b → a ≡ b
one_cause a b same = ap cause (one_verdict (Err a) (Err b) same)
  where
    cause : Verdict → Refusal
    cause (Ok _) = a
    cause (Err c) = c
