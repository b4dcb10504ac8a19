-- A search "sums distance, L and U over present dimensions only" (document 02, Slip 1), those whose bit is set in the word, so
-- queries that agree in these have the same distances and bounds. Assumes nothing.
use Rattle.std.specs.Prelude.{◌≡◌, refl, ℕ, zero, suc, ◌+◌, ◌<◌, ◌≤◌, Bool, cond, List, length, ℤ, pos, eqb, slice_index, slice_index_or}
use Rattle.std.proofs.Common.{sym, ap, ◌∙◌, zero-mul, arith}
use Rattle.std.proofs.Math.Decide.{dec_le}
use Rattle.std.proofs.Math.ListN.{get_or-eq_default}
use Rattle.limits.specs.Limits.{max_dimensions}
use Rattle.presence.specs.Presence.{factor_at, factors_of}
use Rattle.presence.specs.PresenceLaws.{factor_le, factor_at_lem, factors_size, factors_le}
use Rattle.partition.specs.Marks.{dimension_marks}
use Rattle.codes.specs.Codes.{code_region}
use Rattle.step.specs.Step.{gap, squared, weighed, shortest, longest, weighed_present}
use Rattle.distance.specs.Distance.{gap_at, first_weighed, weighed_distance}
use Rattle.distance.specs.Bounds.{step_to, step_at, first_weighed_bound, weighed_bound, weighed_lower, weighed_upper}

-- ---- present and absent dimensions

-- whether dimension t + 1 is present
abbrev pub is_present : ℕ → ℕ → Bool
is_present word t = eqb (factor_at word t) 1

-- a dimension whose factor is 1 is one whose bit is set
factor_set : (word t : ℕ) → slice_index (factors_of word) t ≡ 1 → factor_at word t ≡ 1
factor_set word t one = go (dec_le max_dimensions t)
  where
    go : Dec (max_dimensions ≤ t) → factor_at word t ≡ 1
    go (yes past) =
        let end : length (factors_of word) ≤ t = omega (arith, factors_size word) in
        absurd (omega (arith, get_or-eq_default (factors_of word) 0 end))
    go (no below) = sym (factor_at_lem word t (omega arith)) ∙ one

-- one that is absent adds 0, whatever its step is
weighed_absent : {factor : ℕ} (step : ℕ) → factor ≡ 0 → weighed factor step ≡ 0
weighed_absent step absent = rw (absent, zero-mul step)

-- ---- sums over present dimensions

-- the sum of the squared steps of those of the first d dimensions that are present; `step t` is that of dimension t + 1
unfoldable pub sum_present : ℕ → (ℕ → ℕ) → ℕ → ℕ
sum_present word step zero = 0
sum_present word step (suc t) =
    let before = sum_present word step t in
    cond (is_present word t) (before + squared (step t)) before

-- with its factor a dimension adds its step's square where it is present, and nothing where it is absent
one_more : (before word t step : ℕ) → t < max_dimensions
    → before + weighed (slice_index (factors_of word) t) step ≡ cond (is_present word t) (before + squared step) before
one_more before word t step below = rw (factor_at_lem word t below) (go (factor_at word t) (factor_le word t))
  where
    go : (factor : ℕ) → factor ≤ 1 → before + weighed factor step ≡ cond (eqb factor 1) (before + squared step) before
    go zero few = omega (arith, weighed_absent {factor = 0} step refl)
    go (suc zero) few = ap (λ (part : ℕ). before + part) (weighed_present {factor = 1} step refl)
    go (suc (suc factor)) few = absurd (omega arith)

pub distance_over_present : (word : ℕ) (query vector : List ℤ) (d : ℕ) → d ≤ max_dimensions
    → weighed_distance d (factors_of word) query vector ≡ sum_present word (gap_at query vector) d
unfolding first_weighed sum_present
distance_over_present word query vector zero few = refl
distance_over_present word query vector (suc t) few =
    rw (distance_over_present word query vector t (omega arith))
    (one_more (sum_present word (gap_at query vector) t) word t (gap_at query vector t) few)

module _ (d b : ℕ) (marks : List ℤ) (codes : List ℕ) (word : ℕ) (query : List ℤ) (i : ℕ) where
  bound_over_present : (step : ℤ → ℤ → ℤ → ℕ) (t : ℕ) → t ≤ max_dimensions
      → first_weighed_bound step d b marks codes (factors_of word) query i t ≡ sum_present word (step_at step d b marks codes query i) t
  unfolding first_weighed_bound sum_present
  bound_over_present step zero few = refl
  bound_over_present step (suc t) few =
      let at = step_at step d b marks codes query i in
      rw (bound_over_present step t (omega arith)) (one_more (sum_present word at t) word t (at t) few)

  pub lower_over_present : d ≤ max_dimensions
      → weighed_lower d b marks codes (factors_of word) query i ≡ sum_present word (step_at shortest d b marks codes query i) d
  lower_over_present = bound_over_present shortest d

  pub upper_over_present : d ≤ max_dimensions
      → weighed_upper d b marks codes (factors_of word) query i ≡ sum_present word (step_at longest d b marks codes query i) d
  upper_over_present = bound_over_present longest d

-- ---- queries that agree in what is present

-- as many components, and the same one in each of the d dimensions that is present
pub record SamePresent (d word : ℕ) (query other : List ℤ) : Type 0 where
  pub size : length other ≡ length query
  pub each : (t : ℕ) → t < d → factor_at word t ≡ 1 → slice_index_or other t (pos 0) ≡ slice_index_or query t (pos 0)

-- a dimension adds the same where what it has is the same if it is present
same_part : (word t : ℕ) (step : ℤ → ℕ) (q r : ℤ) → (factor_at word t ≡ 1 → r ≡ q)
    → weighed (slice_index (factors_of word) t) (step r) ≡ weighed (slice_index (factors_of word) t) (step q)
same_part word t step q r same = go (slice_index (factors_of word) t) refl (factors_le word t)
  where
    go : (factor : ℕ) → slice_index (factors_of word) t ≡ factor → factor ≤ 1 → weighed factor (step r) ≡ weighed factor (step q)
    go zero is few = weighed_absent (step r) refl ∙ sym (weighed_absent (step q) refl)
    go (suc zero) is few = ap (λ (z : ℤ). weighed 1 (step z)) (same (factor_set word t is))
    go (suc (suc factor)) is few = absurd (omega arith)

module _ (word : ℕ) (query other : List ℤ) where
  same_first : (vector : List ℤ) (t : ℕ)
      → ((i : ℕ) → i < t → factor_at word i ≡ 1 → slice_index_or other i (pos 0) ≡ slice_index_or query i (pos 0))
      → first_weighed (factors_of word) other vector t ≡ first_weighed (factors_of word) query vector t
  unfolding first_weighed
  same_first vector zero same = refl
  same_first vector (suc t) same =
      rw (
        same_first vector t (λ i h. same i (omega arith)),
        same_part word t (λ q. gap q (slice_index_or vector t (pos 0))) (slice_index_or query t (pos 0)) (slice_index_or other t (pos 0)) (same t (omega arith)),
      )

  module _ (step : ℤ → ℤ → ℤ → ℕ) (d b : ℕ) (marks : List ℤ) (codes : List ℕ) (i : ℕ) where
    same_first_bound : (t : ℕ) → ((j : ℕ) → j < t → factor_at word j ≡ 1 → slice_index_or other j (pos 0) ≡ slice_index_or query j (pos 0))
        → first_weighed_bound step d b marks codes (factors_of word) other i t
        ≡ first_weighed_bound step d b marks codes (factors_of word) query i t
    unfolding first_weighed_bound
    same_first_bound zero same = refl
    same_first_bound (suc t) same =
        rw (
          same_first_bound t (λ j h. same j (omega arith)),
          same_part word t (λ q. step_to step q (dimension_marks d b marks (suc t)) (code_region d b codes i t)) (slice_index_or query t (pos 0))
              (slice_index_or other t (pos 0)) (same t (omega arith)),
        )

-- their distances to any vector are equal, and their bounds of every cell
module _ {d word : ℕ} {query other : List ℤ} (same : SamePresent d word query other) where
  pub same_distance : (vector : List ℤ) → weighed_distance d (factors_of word) other vector ≡ weighed_distance d (factors_of word) query vector
  same_distance vector = same_first word query other vector d same.each

  pub same_bound : (step : ℤ → ℤ → ℤ → ℕ) (b : ℕ) (marks : List ℤ) (codes : List ℕ) (i : ℕ)
      → weighed_bound step d b marks codes (factors_of word) other i ≡ weighed_bound step d b marks codes (factors_of word) query i
  same_bound step b marks codes i = same_first_bound word query other step d b marks codes i d same.each
