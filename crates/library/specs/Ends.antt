-- A vector against the ends of its dimensions' marks: the first and the last mark of each, kept in two lists. Assumes nothing.
use Rattle.std.specs.Prelude.{◌≡◌, Bool, ◌&&◌, List, ◌++◌, ℕ, suc, ◌+◌, ◌^◌, ◌≤◌, ◌<◌, ℤ, pos, length, get_or}
use Rattle.std.proofs.Common.{◌∙◌, arith}
use Rattle.std.specs.Int.Signed.{le_z, lt_z}
use Rattle.std.proofs.Math.ListN.{get_or-append}
use Rattle.limits.specs.Limits.{max_dimensions}
use Rattle.layout.specs.Layout.{bits_of, first_marks}
use Rattle.layout.specs.Laws.{marks_within}
use Rattle.library.specs.Each.{every, tabulate}
use Rattle.library.specs.EachLaws.{every_same, tabulate_length, tabulate_at}
use Rattle.library.specs.Library.{mark_total}
use Rattle.library.specs.Tests.{inside}
use Rattle.library.specs.MarkLaws.{in_marks_at}

-- a number is at least the one, and below the other
abbrev pub lies : ℤ → ℤ → ℤ → Bool
lies low z high = le_z low z && lt_z z high

-- the first d numbers lie, each, between those of two lists
unfoldable pub between : ℕ → List ℤ → List ℤ → (ℕ → ℤ) → Bool
between d lows highs component = every d (λ t. lies (get_or lows t (pos 0)) (component t) (get_or highs t (pos 0)))

-- the ends of d dimensions' marks are there
pub record Table (d : ℕ) (lows highs : List ℤ) : Type 0 where
  pub few : d ≤ max_dimensions
  pub low : d ≤ length lows
  pub high : d ≤ length highs

-- the first and the last mark of the dimension with t dimensions before it, from the marks by their numbers
abbrev pub first_mark : ℕ → ℕ → (ℕ → ℤ) → ℕ → ℤ
first_mark d b mark t = mark (first_marks d b t)

abbrev pub last_mark : ℕ → ℕ → (ℕ → ℤ) → ℕ → ℤ
last_mark d b mark t = mark (first_marks d b t + 2 ^ bits_of d b (suc t))

-- the lists begin with them
pub record EndMarks (d b : ℕ) (mark : ℕ → ℤ) (lows highs : List ℤ) : Type 0 where
  pub rest : List ℤ
  pub rest' : List ℤ
  pub lows_are : lows ≡ tabulate d (first_mark d b mark) ++ rest
  pub highs_are : highs ≡ tabulate d (last_mark d b mark) ++ rest'

-- ---- laws

front_at : {list : List ℤ} (n : ℕ) (f : ℕ → ℤ) (rest : List ℤ) (i : ℕ) → i < n → list ≡ tabulate n f ++ rest → get_or list i (pos 0) ≡ f i
front_at {list} n f rest i h is =
    rw (is, get_or-append (tabulate n f) rest (pos 0) i (rw (tabulate_length n f) h)) (tabulate_at n f (pos 0) i h)

-- a vector lies inside the marks where it lies between their ends
pub inside_between : {lows highs : List ℤ} (d b : ℕ) (marks : List ℤ) (mark : ℕ → ℤ) → length marks ≡ mark_total d b
    → ((i : ℕ) → i < mark_total d b → get_or marks i (pos 0) ≡ mark i) → EndMarks d b mark lows highs → (component : ℕ → ℤ)
    → inside d b marks component ≡ between d lows highs component
unfolding inside between first_marks
inside_between {lows} {highs} d b marks mark whole same ends component =
    every_same d _ _ (λ t h.
    let room = marks_within d b d t h in
    let low = same (first_marks d b t) (omega (arith, room)) in
    let high = same (first_marks d b t + 2 ^ bits_of d b (suc t)) (omega (arith, room)) in
    in_marks_at d b marks whole t h (component t)
    ∙ rw (
      low,
      high,
      front_at d (first_mark d b mark) ends.rest t h ends.lows_are,
      front_at d (last_mark d b mark) ends.rest' t h ends.highs_are,
    ))
