-- What is gathered and what the numbers from i on still give are all that pass.
use Rattle.std.proofs.Common.{◌≡◌, ℕ, ◌-◌, ◌≤◌, Bool, List, ◌++◌, map, length, take, drop}
use Rattle.order.specs.Pair.{Pair, count_from}
use Rattle.order.specs.Pairs.{pair}
use Rattle.order.specs.Rank.{key_at}
use Rattle.selection.specs.Candidates.{is_candidate, numbers_passing}
use Rattle.least_reading.proofs.candidates.gather.Given as goal

-- all that pass
abbrev pub all : (Pair → Bool) → List ℕ → List ℕ
all test lows = numbers_passing test (key_at lows) (count_from 0 (length lows))

pub record State (test : Pair → Bool) (lows₀ : List ℕ) (room : ℕ) (lows numbers : List ℕ) (count i : ℕ) : Type 0 where
  pub few : count ≤ i
  pub within : i ≤ length lows₀
  pub same : length lows ≡ length lows₀
  pub rooms : length numbers ≡ room
  pub held : count ≤ room
  pub ahead : drop i lows ≡ drop i lows₀
  pub keys : take count lows ≡ map (key_at lows₀) (take count numbers)
  pub rest : take count numbers ++ numbers_passing test (key_at lows₀) (count_from i (length lows₀ - i)) ≡ all test lows₀

abbrev pub invariant-loop-i : goal.invariant-loop-i
invariant-loop-i l =
    State (is_candidate (pair l.last l.last_number) (pair l.bound l.bound_number)) l.initial.lows (length l.initial.numbers) l.lows l.numbers
    l.count l.i
