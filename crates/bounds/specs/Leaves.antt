-- All that a call of the bounds leaves. Assumes nothing.
use Rattle.std.specs.Prelude.{ℕ, List, length, ℤ}
use Rattle.refusal.specs.Refusal.{Verdict}
use Rattle.refusal.specs.First.{first, outcome}
use Rattle.presence.specs.Presence.{factors_of}
use Rattle.distance.specs.Bounds.{weighed_lower, weighed_upper}
use Rattle.distance.specs.Values.{values_from}
use Rattle.bounds.specs.Bounded.{bounds_causes}

-- its verdict, and the bounds in their buffers: L in one, U in the other
pub record BoundsLeft : Type 0 where
  pub verdict : Verdict
  pub lowers : List ℕ
  pub uppers : List ℕ

abbrev pub bounds_leave : ℕ → ℕ → ℕ → ℕ → List ℤ → List ℤ → List ℕ → List ℕ → List ℕ → BoundsLeft
bounds_leave d b n word query marks codes lowers uppers =
    let v = first (bounds_causes d b n word query marks codes (length lowers) (length uppers)) in
    record {
      verdict = v;
      lowers = outcome v (values_from (weighed_lower d b marks codes (factors_of word) query) 0 n) (λ _. lowers);
      uppers = outcome v (values_from (weighed_upper d b marks codes (factors_of word) query) 0 n) (λ _. uppers);
    }
