-- Where a dimension's marks stand in the marks buffer, and how many bits it has; 0 where the numbers are refused. Assumes nothing.
use Rattle.std.specs.Prelude.{◌≡◌, false, not, ◌&&◌, cond, List, [], ◌∷◌, ℕ, zero, suc, ◌+◌, ◌-◌, ◌*◌, ◌^◌, ◌≤◌, ◌<◌, leb, Ok}
use Rattle.std.proofs.Common.{ap, ◌∙◌, le_trans, mul-le-mul, mul-le-mul_left, zero-mul, arith, leb-true, le-leb}
use Rattle.std.proofs.Math.Path.{subst⁻¹}
use Rattle.std.proofs.lemmas.Bool.{not-false}
use Rattle.refusal.specs.declared.Refusal.TheVariants.{Dimension, Bits}
use Rattle.refusal.specs.First.{Row, ◌⇒◌, first, outcome, outcome_accepted, first_next, passed}
use Rattle.limits.specs.Limits.{max_dimensions, max_dimension_bits, max_vectors, is_dimension_count, is_bits, is_vector_count}
use Rattle.limits.specs.Tests.{between}
use Rattle.layout.specs.declared.Stretch.{Stretch}
use Rattle.layout.specs.Layout.{bits_of, first_marks, code_length}
use Rattle.layout.specs.Laws.{bits_le, marks_le, marks_within, first_next_marks}

-- 1 for the number of dimensions, 2 for the number of bits
abbrev pub shape_causes : ℕ → ℕ → List Row
shape_causes d b = (not (is_dimension_count d) ⇒ Dimension) ∷ (not (is_bits d b) ⇒ Bits) ∷ []

-- "d not 1 to 32, or a dimension number not 1 to d", then the number of bits
abbrev pub dimension_causes : ℕ → ℕ → ℕ → List Row
dimension_causes d b j = (not (leb 1 j && leb j d) ⇒ Dimension) ∷ shape_causes d b

-- dimension j, from 1
unfoldable pub stretch_of : ℕ → ℕ → ℕ → Stretch
stretch_of d b j =
    outcome (first (dimension_causes d b j)) (record { offset = first_marks d b (j - 1); bits = bits_of d b j })
    (λ _. record { offset = 0; bits = 0 })

-- the length of the whole marks buffer
unfoldable pub marks_length : ℕ → ℕ → ℕ
marks_length d b = outcome (first (shape_causes d b)) (first_marks d b d) (λ _. 0)

-- the length of n codes
unfoldable pub codes_length : ℕ → ℕ → ℕ → ℕ
codes_length d b n = outcome (first (shape_causes d b)) (cond (is_vector_count n) (code_length b n) 0) (λ _. 0)

-- ---- what holds where nothing is refused

pub record Shape (d b : ℕ) : Type 0 where
  pub some : 1 ≤ d
  pub few : d ≤ max_dimensions
  pub bits : b ≤ max_dimension_bits * d

pub shape : (d b : ℕ) → first (shape_causes d b) ≡ Ok tt → Shape d b
shape d b accepted =
    let count = passed (not (is_dimension_count d)) Dimension ((not (is_bits d b) ⇒ Bits) ∷ []) accepted in
    let within = passed (not (is_bits d b)) Bits [] count.rest in
    let dimensions = between 1 d max_dimensions (not-false (is_dimension_count d) count.fails) in
    record {
      some = dimensions.above;
      few = dimensions.below;
      bits = leb-true b (max_dimension_bits * d) (not-false (is_bits d b) within.fails);
    }

-- so the bits of n codes are few
pub codes_bits_le : {d b : ℕ} (n : ℕ) → Shape d b → n ≤ max_vectors → n * b ≤ max_vectors * (max_dimension_bits * max_dimensions)
codes_bits_le {d} {b} n shaped few =
    let bits : b ≤ max_dimension_bits * max_dimensions = omega (arith, shaped.bits, shaped.few) in
    mul-le-mul few bits

-- a dimension's number as one more than the number of those before it
pub record Numbered (d b j : ℕ) : Type 0 where
  pub before : ℕ
  pub is : j ≡ suc before
  pub within : before < d
  pub shaped : Shape d b

pub numbered : (d b j : ℕ) → first (dimension_causes d b j) ≡ Ok tt → Numbered d b j
numbered d b j accepted =
    let number = passed (not (leb 1 j && leb j d)) Dimension (shape_causes d b) accepted in
    let range = between 1 j d (not-false (leb 1 j && leb j d) number.fails) in
    record {
      before = j - 1;
      is = omega (arith, range.above);
      within = omega (arith, range.above, range.below);
      shaped = shape d b number.rest;
    }

-- a stretch that is handed back: where it stands in the buffer
pub record Stretches (d b j : ℕ) (s : Stretch) : Type 0 where
  pub offset_is : s.offset ≡ first_marks d b (j - 1)
  pub bits_are : s.bits ≡ bits_of d b j
  pub few_bits : s.bits ≤ max_dimension_bits
  pub end : s.offset + (2 ^ s.bits + 1) ≡ first_marks d b j
  pub within : first_marks d b j ≤ first_marks d b d
  pub small : first_marks d b d ≤ (2 ^ max_dimension_bits + 1) * max_dimensions

pub stretches : {d b j : ℕ} {s : Stretch} → first (dimension_causes d b j) ≡ Ok tt → s ≡ stretch_of d b j → Stretches d b j s
unfolding stretch_of
stretches {d} {b} {j} {s} accepted is =
    let told = numbered d b j accepted in
    let shape = told.shaped in
    let before = told.before in
    let made = is ∙ outcome_accepted _ _ accepted in
    let offset : s.offset ≡ first_marks d b (j - 1) = ap (λ (x : Stretch). x.offset) made in
    let bits : s.bits ≡ bits_of d b j = ap (λ (x : Stretch). x.bits) made in
    let number : j - 1 ≡ before = omega (arith, told.is) in
    let next : first_marks d b before + (2 ^ bits_of d b j + 1) ≡ first_marks d b j =
    subst⁻¹ (λ (x : ℕ). first_marks d b before + (2 ^ bits_of d b x + 1) ≡ first_marks d b x) told.is (first_next_marks d b before) in
    let few : bits_of d b j ≤ max_dimension_bits =
    subst⁻¹ (λ (x : ℕ). bits_of d b x ≤ max_dimension_bits) told.is (bits_le max_dimension_bits d b before shape.some shape.bits) in
    let inside : first_marks d b j ≤ first_marks d b d =
    subst⁻¹ (λ (x : ℕ). first_marks d b x ≤ first_marks d b d) told.is (marks_within d b d before told.within) in
    record {
      offset_is = offset;
      bits_are = bits;
      few_bits = rw bits few;
      end = rw (offset, bits, number) next;
      within = inside;
      small = le_trans (marks_le max_dimension_bits d b d shape.some shape.bits)
          (mul-le-mul_left (2 ^ max_dimension_bits + 1) shape.few);
    }

pub marks_length_is : (d b : ℕ) → first (shape_causes d b) ≡ Ok tt → marks_length d b ≡ first_marks d b d
unfolding marks_length
marks_length_is d b accepted = outcome_accepted _ _ accepted

-- no codes have the length 0 too
pub codes_length_is : (d b n : ℕ) → first (shape_causes d b) ≡ Ok tt → n ≤ max_vectors → codes_length d b n ≡ code_length b n
unfolding codes_length
codes_length_is d b n accepted few = outcome_accepted _ _ accepted ∙ go n few
  where
    go : (n : ℕ) → n ≤ max_vectors → cond (is_vector_count n) (code_length b n) 0 ≡ code_length b n
    go zero few = rw (zero-mul b)
    go (suc n) few = rw (le-leb 1 (suc n) (omega arith), le-leb (suc n) max_vectors few)

-- dimension t + 1 of those that are taken
pub dimension_accepted : (d b t : ℕ) → first (shape_causes d b) ≡ Ok tt → t < d → first (dimension_causes d b (t + 1)) ≡ Ok tt
dimension_accepted d b t accepted below =
    let in_range : not (leb 1 (t + 1) && leb (t + 1) d) ≡ false =
    rw (le-leb 1 (t + 1) (omega arith), le-leb (t + 1) d (omega arith)) in
    first_next Dimension (shape_causes d b) in_range ∙ accepted
