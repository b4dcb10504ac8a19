-- Bounds go over present dimensions only (document 02, Slip 1): calls with queries that agree in these leave the same, where both queries
-- pass 6 or neither does; 6 is tested on absent components too. Assumes nothing.
use Rattle.std.specs.Prelude.{◌≡◌, ℕ, List, length, ℤ, refl}
use Rattle.refusal.specs.First.{first}
use Rattle.presence.specs.Presence.{factors_of}
use Rattle.signed.specs.Components.{are_components}
use Rattle.step.specs.Step.{shortest, longest}
use Rattle.distance.specs.Bounds.{weighed_bound}
use Rattle.distance.specs.Present.{SamePresent, same_bound}
use Rattle.distance.specs.Values.{values_from}
use Rattle.table.specs.TableLaws.{values_agree}
use Rattle.bounds.specs.Bounded.{bounds_causes}
use Rattle.bounds.specs.Leaves.{bounds_leave}

module _ (d b n word : ℕ) (query other marks : List ℤ) (codes : List ℕ) (same : SamePresent d word query other) where
  same_values : (step : ℤ → ℤ → ℤ → ℕ)
      → values_from (weighed_bound step d b marks codes (factors_of word) other) 0 n
      ≡ values_from (weighed_bound step d b marks codes (factors_of word) query) 0 n
  same_values step = values_agree _ _ (same_bound same step b marks codes) 0 n

  pub same_bounds : are_components other ≡ are_components query → (lowers uppers : List ℕ)
      → bounds_leave d b n word other marks codes lowers uppers ≡ bounds_leave d b n word query marks codes lowers uppers
  same_bounds components lowers uppers =
      let verdict : first (bounds_causes d b n word other marks codes (length lowers) (length uppers))
      ≡ first (bounds_causes d b n word query marks codes (length lowers) (length uppers)) =
      rw (same.size, components) refl in
      rw (verdict, same_values shortest, same_values longest) refl
