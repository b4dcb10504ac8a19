-- Document 01's own bounds, from a query without a presence word, and the theorems that the full word gives them: "With every dimension
-- present it gives the old search's result" (document 02, Slip 1). Assumes nothing.
use Rattle.std.specs.Prelude.{◌≡◌, ℕ, ◌≤◌, Bool, true, false, not, List, [], ◌∷◌, ◌++◌, length, ℤ, refl}
use Rattle.std.proofs.Common.{sym, ap, ◌∙◌}
use Rattle.refusal.specs.declared.Refusal.TheVariants.{Dimension, Count}
use Rattle.refusal.specs.First.{Row, ◌⇒◌, first, outcome, first_here}
use Rattle.limits.specs.Limits.{max_dimensions, is_dimension_count, is_vector_count}
use Rattle.limits.specs.Tests.{between}
use Rattle.presence.specs.Presence.{factors_of, full_word}
use Rattle.layout.specs.Stretch.{shape_causes}
use Rattle.step.specs.Step.{shortest, longest}
use Rattle.distance.specs.Bounds.{first_bound, lower_of, upper_of, weighed_bound}
use Rattle.distance.specs.Full.{full_bound}
use Rattle.distance.specs.FullWord.{word_full, full_word_left}
use Rattle.distance.specs.Values.{values_from}
use Rattle.table.specs.TableLaws.{values_agree}
use Rattle.bounds.specs.Bounded.{measured_bounds_causes, bounds_causes}
use Rattle.bounds.specs.Leaves.{BoundsLeft, bounds_leave}

-- ---- without a word

-- 1, 2, 3
abbrev count_causes : ℕ → ℕ → ℕ → List Row
count_causes d b n = shape_causes d b ++ ((not (is_vector_count n) ⇒ Count) ∷ [])

-- document 01's causes of the bounds: these, then 5, 6, 7, 9
abbrev pub plain_bounds_causes : ℕ → ℕ → ℕ → List ℤ → List ℤ → List ℕ → ℕ → ℕ → List Row
plain_bounds_causes d b n query marks codes lowers uppers = count_causes d b n ++ measured_bounds_causes d b n query marks codes lowers uppers

-- what a call leaves: document 01's L and U
abbrev pub plain_bounds_leave : ℕ → ℕ → ℕ → List ℤ → List ℤ → List ℕ → List ℕ → List ℕ → BoundsLeft
plain_bounds_leave d b n query marks codes lowers uppers =
    let v = first (plain_bounds_causes d b n query marks codes (length lowers) (length uppers)) in
    record {
      verdict = v;
      lowers = outcome v (values_from (lower_of d b marks codes query) 0 n) (λ _. lowers);
      uppers = outcome v (values_from (upper_of d b marks codes query) 0 n) (λ _. uppers);
    }

-- ---- with every dimension present

module _ (d b n : ℕ) (query marks : List ℤ) (codes : List ℕ) where
  full_values : (step : ℤ → ℤ → ℤ → ℕ) → d ≤ max_dimensions
      → values_from (weighed_bound step d b marks codes (factors_of (full_word d)) query) 0 n
      ≡ values_from (λ i. first_bound step d b marks codes query i d) 0 n
  full_values step few =
      values_agree _ _ (λ i. full_bound step d b marks codes (factors_of (full_word d)) query i d (word_full d few)) 0 n

  -- 19 and 18 never hold: bounds are refused for document 01's causes alone, in their order
  pub full_word_bounds_verdict : (lowers uppers : ℕ)
      → first (bounds_causes d b n (full_word d) query marks codes lowers uppers)
      ≡ first (plain_bounds_causes d b n query marks codes lowers uppers)
  full_word_bounds_verdict lowers uppers = go (is_dimension_count d) refl
    where
      go : (counts : Bool) → is_dimension_count d ≡ counts
          → first (bounds_causes d b n (full_word d) query marks codes lowers uppers)
          ≡ first (plain_bounds_causes d b n query marks codes lowers uppers)
      go true is =
          full_word_left d (between 1 d max_dimensions is).below (count_causes d b n)
          (measured_bounds_causes d b n query marks codes lowers uppers)
      go false none = first_here Dimension _ (ap not none) ∙ sym (first_here Dimension _ (ap not none))

  -- the call leaves what document 01's leaves, also where it refuses
  pub full_word_bounds : (lowers uppers : List ℕ)
      → bounds_leave d b n (full_word d) query marks codes lowers uppers ≡ plain_bounds_leave d b n query marks codes lowers uppers
  full_word_bounds lowers uppers = go (is_dimension_count d) refl
    where
      go : (counts : Bool) → is_dimension_count d ≡ counts
          → bounds_leave d b n (full_word d) query marks codes lowers uppers ≡ plain_bounds_leave d b n query marks codes lowers uppers
      go true is =
          let few = (between 1 d max_dimensions is).below in
          rw (full_word_bounds_verdict (length lowers) (length uppers), full_values shortest few, full_values longest few) refl
      go false none =
          rw (
            full_word_bounds_verdict (length lowers) (length uppers),
            first_here {test = not (is_dimension_count d)} Dimension _ (ap not none),
          )
          refl
