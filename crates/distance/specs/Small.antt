-- Distances and bounds are far below 2^64, for components and marks in range and for small factors: sums of theirs are exact in 64 bits.
-- Assumes nothing.
use Rattle.std.specs.Prelude.{◌≡◌, ℕ, zero, suc, ◌+◌, ◌*◌, ◌^◌, ◌<◌, ◌≤◌, true, List, length, replicate, ℤ, pos, negsuc, int_le, slice_index, slice_index_or}
use Rattle.std.proofs.Math.Path.{refl}
use Rattle.std.proofs.Common.{◌∙◌, mul-le-mul, mod-eq_of_lt, arith, leb-true}
use Rattle.std.proofs.Math.Bool.{and-eq-true_iff}
use Rattle.std.proofs.Math.IntN.{pred_ℤ}
use Rattle.std.specs.Int.Signed.{mag}
use Rattle.limits.specs.Limits.{max_dimensions, least_component, greatest_component, is_component, least_mark, greatest_mark, is_mark}
use Rattle.presence.specs.Presence.{factors_of}
use Rattle.presence.specs.PresenceLaws.{factors_le}
use Rattle.signed.specs.Components.{are_components, component_at_lem}
use Rattle.partition.specs.Marks.{dimension_marks, good_marks}
use Rattle.codes.specs.Codes.{code_region}
use Rattle.step.specs.declared.Bound.{Bound}
use Rattle.step.specs.declared.Bound.TheVariants.{Lower, Upper}
use Rattle.step.specs.Step.{weighed, weighed_word, shortest, longest, step_of, squared_le, weighed_exact}
use Rattle.step.specs.Places.{gap_size, pred_size}
use Rattle.step.specs.Steps.{shortest_le_longest}
use Rattle.distance.specs.Distance.{gap_at, first_weighed, weighed_distance, first_measured, measured_of, measured_is}
use Rattle.distance.specs.Bounds.{step_to, step_at, first_weighed_bound, weighed_bound}
use Rattle.distance.specs.Full.{all_present}
use Rattle.distance.specs.CellComponents.{good_mark}

-- ---- sizes

within_size : (top : ℕ) (z : ℤ) → int_le (negsuc 32767) z ≡ true → int_le z (pos top) ≡ true → 32767 ≤ top → mag z ≤ top
within_size top (pos n) low high h = leb-true n top high
within_size top (negsuc n) low high h = omega (arith, leb-true n 32767 low)

mark_size : (z : ℤ) → is_mark z ≡ true → mag z ≤ 32768
mark_size z h =
    let both = (and-eq-true_iff (int_le least_mark z) (int_le z greatest_mark)).0 h in
    within_size 32768 z both.0 both.1 (omega arith)

component_size : (z : ℤ) → is_component z ≡ true → mag z ≤ 32768
component_size z h =
    let both = (and-eq-true_iff (int_le least_component z) (int_le z greatest_component)).0 h in
    let within = within_size 32767 z both.0 both.1 (omega arith) in
    omega arith

longest_size : (q low high : ℤ) → mag q ≤ 32768 → mag low ≤ 32768 → mag high ≤ 32768 → longest q low high ≤ 2 ^ 17
unfolding longest
longest_size q low high hq hl hh = omega (arith, gap_size q low, gap_size q (pred_ℤ high), pred_size high)

shortest_size : (q low high : ℤ) → mag q ≤ 32768 → mag low ≤ 32768 → mag high ≤ 32768 → shortest q low high ≤ 2 ^ 17
shortest_size q low high hq hl hh = omega (arith, shortest_le_longest q low high, longest_size q low high hq hl hh)

step_size : (bound : Bound) (q low high : ℤ) → mag q ≤ 32768 → mag low ≤ 32768 → mag high ≤ 32768 → step_of bound q low high ≤ 2 ^ 17
step_size Lower = shortest_size
step_size Upper = longest_size

-- ---- factors

-- factors for which sums are exact; those of a presence word are 0 and 1
abbrev pub greatest_factor : ℕ
greatest_factor = 255

pub record Factors (factors : List ℕ) : Type 0 where
  pub small : (t : ℕ) → slice_index factors t ≤ greatest_factor

ones-le : (n t : ℕ) → slice_index (replicate n 1) t ≤ 1
ones-le zero t = omega arith
ones-le (suc n) zero = omega arith
ones-le (suc n) (suc t) = ones-le n t

pub all_small : Factors all_present
unfolding all_present
all_small = record { small = λ t. omega (arith, ones-le max_dimensions t) }

-- those of a presence word
pub word_small : (word : ℕ) → Factors (factors_of word)
word_small word = record { small = λ t. omega (arith, factors_le word t) }

product_small : (factor step : ℕ) → factor ≤ greatest_factor → step ≤ 2 ^ 17 → factor * step ≤ 2 ^ 25
product_small factor step small near =
    let product : factor * step ≤ greatest_factor * 2 ^ 17 = mul-le-mul small near in
    omega arith

-- such a dimension's part is exact
pub part_exact : (factor step : ℕ) → factor ≤ greatest_factor → step ≤ 2 ^ 17 → weighed_word factor step ≡ weighed factor step
part_exact factor step small near = weighed_exact factor step (omega (arith, product_small factor step small near))

-- ---- sums of such parts

parts_small : (sum factor step : ℕ → ℕ) → sum 0 ≡ 0 → ((t : ℕ) → sum (suc t) ≡ sum t + weighed (factor t) (step t))
    → ((t : ℕ) → factor t ≤ greatest_factor) → (n : ℕ)
    → ((t : ℕ) → t < n → step t ≤ 2 ^ 17) → sum n ≤ n * 2 ^ 50
parts_small sum factor step none more small zero near = omega (arith, none)
parts_small sum factor step none more small (suc n) near =
    let before = parts_small sum factor step none more small n (λ t h. near t (omega arith)) in
    let here : weighed (factor n) (step n) ≤ 2 ^ 25 * 2 ^ 25 =
    squared_le (product_small (factor n) (step n) (small n) (near n (omega arith))) in
    omega (arith, more n)

-- ---- distances and bounds

module _ (factors : List ℕ) (moderate : Factors factors) (query : List ℤ) (known : are_components query ≡ true) where
  query_size : (t : ℕ) → mag (slice_index_or query t (pos 0)) ≤ 32768
  query_size t = component_size (slice_index_or query t (pos 0)) (component_at_lem query known t)

  module _ (vector : List ℤ) (vectors : are_components vector ≡ true) where
    gap_small : (t : ℕ) → gap_at query vector t ≤ 2 ^ 17
    gap_small t =
        omega (
          arith,
          gap_size (slice_index_or query t (pos 0)) (slice_index_or vector t (pos 0)),
          query_size t,
          component_size (slice_index_or vector t (pos 0)) (component_at_lem vector vectors t),
        )

    pub distance_small : (d : ℕ) → d ≤ max_dimensions → weighed_distance d factors query vector < 2 ^ 64
    distance_small d few =
        omega (
          arith,
          parts_small (first_weighed factors query vector) (λ t. slice_index factors t) (gap_at query vector)
              (unfold first_weighed in refl) (λ t. unfold first_weighed in refl) moderate.small d (λ t h. gap_small t),
        )

    measured_first : (d : ℕ) → first_measured factors query vector d ≡ first_weighed factors query vector d
    unfolding first_measured first_weighed
    measured_first zero = refl
    measured_first (suc t) =
        rw (measured_first t, part_exact (slice_index factors t) (gap_at query vector t) (moderate.small t) (gap_small t))

    -- what is worked out in 64 bits is the distance
    pub measured_exact : (d : ℕ) → d ≤ max_dimensions → length query ≡ d → length vector ≡ d
        → measured_of factors query vector ≡ weighed_distance d factors query vector
    measured_exact d few of_query of-vector =
        measured_is d factors query vector few of_query of-vector ∙ rw (measured_first d) (mod-eq_of_lt (distance_small d few))

  module _ (bound : Bound) (d b : ℕ) (marks : List ℤ) (good : good_marks d b marks ≡ true) where
    mark : (t r : ℕ) → t < d → mag (slice_index_or (dimension_marks d b marks (suc t)) r (pos 0)) ≤ 32768
    mark t r h = mark_size (slice_index_or (dimension_marks d b marks (suc t)) r (pos 0)) (good_mark d b marks good t r h)

    -- a step to any region of a dimension
    pub region_step_small : (t r : ℕ) → t < d → step_to (step_of bound) (slice_index_or query t (pos 0)) (dimension_marks d b marks (suc t)) r ≤ 2 ^ 17
    region_step_small t r h = step_size bound _ _ _ (query_size t) (mark t r h) (mark t (suc r) h)

    pub bound_small : (codes : List ℕ) (i : ℕ) → d ≤ max_dimensions → weighed_bound (step_of bound) d b marks codes factors query i < 2 ^ 64
    bound_small codes i few =
        omega (
          arith,
          parts_small (first_weighed_bound (step_of bound) d b marks codes factors query i) (λ t. slice_index factors t)
              (step_at (step_of bound) d b marks codes query i)
              (unfold first_weighed_bound in refl) (λ t. unfold first_weighed_bound in refl) moderate.small d
              (λ t h. region_step_small t (code_region d b codes i t) h),
        )
