use Rattle.std.proofs.Common.{◌≡◌, ℕ, List, length, length-take-le, arith}
use Rattle.refusal.specs.First.{first, outcome}
use Rattle.order.specs.Pair.{Pair, sort, numbers_of}
use Rattle.order.specs.Pairs.{pairs_of, keys_of}
use Rattle.order.specs.Rank.{pair_causes, sort_leaves}
use Rattle.least_reading.proofs.candidates.sort_few.Goals as goal

-- with as many words as keys
sorts : (of : List Pair → List ℕ) (keys numbers old : List ℕ) (words : ℕ) {new : List ℕ} → length numbers ≡ length keys
    → words ≡ length keys → new ≡ outcome (first (pair_causes (length keys) (length numbers) words)) (of (sort (pairs_of keys numbers)))
    (λ _. old)
    → new ≡ of (sort (pairs_of keys numbers))
sorts of keys numbers old words same room = sort_leaves of keys numbers old words same (omega arith)

pub returns-clause-keys_after : goal.returns-clause-keys_after
returns-clause-keys_after c =
    sorts keys_of c.args.keys.now c.args.numbers.now _ _ c.requires.2 (length-take-le _ _ c.requires.1) c.sort.ensures.keys_after

pub returns-clause-numbers_after : goal.returns-clause-numbers_after
returns-clause-numbers_after c =
    sorts numbers_of c.args.keys.now c.args.numbers.now _ _ c.requires.2 (length-take-le _ _ c.requires.1) c.sort.ensures.numbers_after
