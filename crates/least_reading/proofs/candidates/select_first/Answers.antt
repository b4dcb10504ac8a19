use Rattle.std.specs.Prelude.{Ok}
use Rattle.std.proofs.Common.{◌≡◌, refl, ap, ◌∙◌, ℕ, zero, suc, ◌-◌, ◌≤◌, ◌<◌, List, [], ◌∷◌, map, length, take, get_or, get_or-take, length-take-le, arith}
use Rattle.refusal.specs.First.{first, outcome_accepted}
use Rattle.limits.specs.Limits.{max_vectors}
use Rattle.order.specs.Counted.{counted_length}
use Rattle.order.specs.Rank.{key_at, ranking}
use Rattle.order.specs.Ranking.{ranked_count}
use Rattle.least.specs.Selected.{least_causes, none_refuses}
use Rattle.least_reading.proofs.candidates.select_first.Goals as goal

map_at : (f : ℕ → ℕ) (is : List ℕ) (i : ℕ) → i < length is → get_or (map f is) i 0 ≡ f (get_or is i 0)
map_at f [] i below = absurd (omega arith)
map_at f (j ∷ is) zero below = refl
map_at f (j ∷ is) (suc i) below = map_at f is i (omega arith)

-- the last of the first k
last_key : (keys : List ℕ) (k : ℕ) → 1 ≤ k → k ≤ length keys
    → get_or (map (key_at keys) (take k (ranking keys))) (k - 1) 0 ≡ key_at keys (get_or (ranking keys) (k - 1) 0)
unfolding ranking
last_key keys k some enough =
    let long : length (ranking keys) ≡ length keys = ranked_count (key_at keys) _ ∙ counted_length 0 (length keys) in
    map_at (key_at keys) (take k (ranking keys)) (k - 1) (omega (arith, length-take-le k (ranking keys) (omega arith)))
    ∙ ap (key_at keys) (get_or-take k (ranking keys) (k - 1) 0 (omega arith))

accepted : (keys numbers least : List ℕ) (words : ℕ) → length keys ≤ max_vectors → 1 ≤ length numbers → length numbers ≤ length keys
    → length least ≡ length numbers → words ≡ length numbers
    → first (least_causes (length keys) (length numbers) (length least) words) ≡ Ok tt
accepted keys numbers least words few some enough same room =
    none_refuses (length keys) (length numbers) (length least) words few some enough same (omega arith)

pub returns-clause-value : goal.returns-clause-value
returns-clause-value c =
    let a = c.args in
    let k = length a.first.now in
    let none = accepted a.lows.now a.first.now a.least.now _ c.requires.3 c.requires.0 c.requires.2 c.requires.4 (length-take-le _ _ c.requires.1) in
    ap (λ (l : List ℕ). get_or l (k - 1) 0) (c.select.ensures.least_after ∙ outcome_accepted _ _ none)
    ∙ last_key a.lows.now k c.requires.0 c.requires.2

pub returns-clause-first_after : goal.returns-clause-first_after
returns-clause-first_after c =
    let a = c.args in
    let none = accepted a.lows.now a.first.now a.least.now _ c.requires.3 c.requires.0 c.requires.2 c.requires.4 (length-take-le _ _ c.requires.1) in
    c.select.ensures.numbers_after ∙ outcome_accepted _ _ none
