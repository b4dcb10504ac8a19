-- After the first k have been read, only numbers whose pair is below the k-th best can still be read: so only those need a ranking.
-- Ranked, they stand in the reading order right behind the first k, and where they end, the reading ends. Assumes nothing.
use Rattle.std.specs.Prelude.{Bool, ◌&&◌, drop}
use Rattle.std.proofs.Math.Bool.{cond}
use mathlib.Core.List.{List, [], ◌∷◌}
use Prim.Native.Nat.{ℕ}
use Rattle.order.specs.Pair.{Pair, below, pair_of}

-- the pairs of a list that pass a test
unfoldable pub passing : (Pair → Bool) → List Pair → List Pair
passing test [] = []
passing test (p ∷ ps) =
    let rest = passing test ps in
    cond (test p) (p ∷ rest) rest

-- the numbers whose pairs pass
unfoldable pub numbers_passing : (Pair → Bool) → (ℕ → ℕ) → List ℕ → List ℕ
numbers_passing test key [] = []
numbers_passing test key (i ∷ is) =
    let rest = numbers_passing test key is in
    cond (test (pair_of key i)) (i ∷ rest) rest

-- the pairs of a ranking behind the first k that are below a bound
unfoldable pub candidates : ℕ → List Pair → Pair → List Pair
candidates k ranking bound = passing (λ q. below q bound) (drop k ranking)

-- the test that finds them among all: below the bound, and behind the last of the first k
abbrev pub is_candidate : Pair → Pair → Pair → Bool
is_candidate last bound q = below q bound && below last q
