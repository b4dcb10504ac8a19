-- Where each dimension's factor is 1, distances and bounds are document 01's: "With every dimension present it gives the old search's
-- result" (document 02, Slip 1). Assumes nothing.
use Rattle.std.specs.Prelude.{◌≡◌, ℕ, zero, suc, ◌<◌, ◌≤◌, List, replicate, ℤ, slice_index, refl}
use Rattle.std.proofs.Common.{arith}
use Rattle.std.proofs.lemmas.List.{get_or-replicate}
use Rattle.limits.specs.Limits.{max_dimensions}
use Rattle.step.specs.Step.{weighed_present}
use Rattle.distance.specs.Distance.{gap_at, first_distance, first_weighed}
use Rattle.distance.specs.Bounds.{step_at, first_bound, first_weighed_bound}

-- the first d dimensions are present
pub record Full (factors : List ℕ) (d : ℕ) : Type 0 where
  pub each : (t : ℕ) → t < d → slice_index factors t ≡ 1

-- the factors of dimensions that are all present
unfoldable pub all_present : List ℕ
all_present = replicate max_dimensions 1

pub all_full : (d : ℕ) → d ≤ max_dimensions → Full all_present d
unfolding all_present
all_full d few = record { each = λ t h. get_or-replicate max_dimensions t 1 0 (omega arith) }

fewer : {factors : List ℕ} {d : ℕ} → Full factors (suc d) → Full factors d
fewer full = record { each = λ t h. full.each t (omega arith) }

pub full_distance : (factors : List ℕ) (query vector : List ℤ) (d : ℕ) → Full factors d
    → first_weighed factors query vector d ≡ first_distance query vector d
unfolding first_weighed first_distance
full_distance factors query vector zero full = refl
full_distance factors query vector (suc t) full =
    rw (full_distance factors query vector t (fewer full), weighed_present (gap_at query vector t) (full.each t (omega arith)))

pub full_bound : (step : ℤ → ℤ → ℤ → ℕ) (d b : ℕ) (marks : List ℤ) (codes factors : List ℕ) (query : List ℤ) (i t : ℕ) → Full factors t
    → first_weighed_bound step d b marks codes factors query i t ≡ first_bound step d b marks codes query i t
unfolding first_weighed_bound first_bound
full_bound step d b marks codes factors query i zero full = refl
full_bound step d b marks codes factors query i (suc t) full =
    rw (
      full_bound step d b marks codes factors query i t (fewer full),
      weighed_present (step_at step d b marks codes query i t) (full.each t (omega arith)),
    )
