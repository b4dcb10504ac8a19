-- What settles an answer (document 01, "Distance, bounds, reading order"), over numbers alone: which distances are possible at a number
-- stands for the vectors of its cell. Assumes nothing.
use Rattle.std.specs.Prelude.{◌≡◌, cond, List, [], ◌∷◌, ◌≢◌, ℕ, suc, ◌≤◌, eqb}
use Rattle.order.specs.Members.{◌∈◌}
use Rattle.selection.specs.Reading.{scan}

-- no low is above its number's distance
abbrev pub LowerBound : (ℕ → ℕ) → (ℕ → ℕ) → List ℕ → Type 0
LowerBound low distance numbers = (i : ℕ) → i ∈ numbers → low i ≤ distance i

-- "A cell's least and greatest distance, L and U, [..] both reached inside the cell": low is the least that is possible at a number, and
-- high is possible too. (That high is the greatest is not needed.)
pub record Bounds (possible : ℕ → ℕ → Type 0) (low high : ℕ → ℕ) (numbers : List ℕ) : Type 0 where
  pub least : (i v : ℕ) → i ∈ numbers → possible i v → low i ≤ v
  pub low_possible : (i : ℕ) → i ∈ numbers → possible i (low i)
  pub high_possible : (i : ℕ) → i ∈ numbers → possible i (high i)

-- every number's distance is one that is possible there ("each pattern lies in its code's cell")
abbrev pub Within : (ℕ → ℕ → Type 0) → (ℕ → ℕ) → List ℕ → Type 0
Within possible distance numbers = (i : ℕ) → i ∈ numbers → possible i (distance i)

-- the two give the same distance to each number of the set
abbrev pub Agree : List ℕ → (ℕ → ℕ) → (ℕ → ℕ) → Type 0
Agree set other distance = (i : ℕ) → i ∈ set → other i ≡ distance i

-- "A set of pattern numbers settles the answer if, whatever vectors of their own cells stand at all the other numbers, with all else that
-- the search is given kept, a full scan gives the answer's k numbers and distances."
abbrev pub Settles : ℕ → (ℕ → ℕ → Type 0) → (ℕ → ℕ) → List ℕ → List ℕ → Type 0
Settles k possible distance numbers set =
    (other : ℕ → ℕ) → Within possible other numbers → Agree set other distance → scan k other numbers ≡ scan k distance numbers

-- the distance v at number i, and no other changed
unfoldable pub changed : (ℕ → ℕ) → ℕ → ℕ → ℕ → ℕ
changed distance i v j = cond (eqb j i) v (distance j)

-- another distance at i alone, possible there, gives another answer
pub record Needed (k : ℕ) (possible : ℕ → ℕ → Type 0) (distance : ℕ → ℕ) (numbers : List ℕ) (i : ℕ) : Type 0 where
  pub value : ℕ
  pub is_possible : possible i value
  pub changes : scan k (changed distance i value) numbers ≢ scan k distance numbers

-- how many of the numbers have a low that is their high
unfoldable pub fixed : (ℕ → ℕ) → (ℕ → ℕ) → List ℕ → ℕ
fixed low high [] = 0
fixed low high (i ∷ is) =
    let rest = fixed low high is in
    cond (eqb (low i) (high i)) (suc rest) rest
