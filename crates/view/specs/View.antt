-- One dimension's marks as they are looked at, with their number of regions as one thing (document 01, "Marks, regions, codes"). Assumes
-- nothing.
use Rattle.std.specs.Prelude.{◌≡◌, refl, true, not, List, [], ◌∷◌, ◌++◌, ℕ, ◌+◌, ◌-◌, ◌≤◌, ℤ, length, drop, Ok, Err}
use Rattle.std.proofs.Common.{arith, length-drop, length-take-le}
use Rattle.std.proofs.lemmas.Bool.{not-false}
use Rattle.refusal.specs.declared.Refusal.TheVariants.{Outside}
use Rattle.refusal.specs.Refusal.{Verdict}
use Rattle.refusal.specs.First.{Row, ◌⇒◌, first, outcome, passed, accepted_behind}
use Rattle.limits.specs.Limits.{max_dimension_bits}
use Rattle.layout.specs.Layout.{bits_of, region_count, first_marks}
use Rattle.layout.specs.Stretch.{dimension_causes, stretch_of, numbered, stretches}
use Rattle.region.specs.Dimension.{good_dimension}
use Rattle.region.specs.Region.{in_marks}
use Rattle.region.specs.RegionCount.{is_region_count, is_power_lem}
use Rattle.partition.specs.Marks.{dimension_marks, good_marks, good_marks_each}
use Rattle.partition.specs.MarksCauses.{shaped_causes, part_causes}
use Rattle.partition.specs.Parts.{seen_marks, part_accepted}

-- A dimension's part has this number of regions, none if refused.
abbrev pub seen_regions : ℕ → ℕ → List ℤ → ℕ → ℕ
seen_regions d b marks j = outcome (first (part_causes d b marks j)) (region_count d b j) (λ _. 0)

-- The region of a value in dimension j is refused for the causes of the part, then with 8.
abbrev pub value_causes : ℕ → ℕ → List ℤ → ℕ → ℤ → List Row
value_causes d b marks j v = part_causes d b marks j ++ ((not (in_marks (dimension_marks d b marks j) v) ⇒ Outside) ∷ [])

-- ---- A part that is handed back

-- The part is good, with one mark more than regions, and its number of regions is one that a dimension can have.
pub record Part (d b : ℕ) (marks : List ℤ) (j : ℕ) : Type 0 where
  pub counted : is_region_count (region_count d b j) ≡ true
  pub exact : length (dimension_marks d b marks j) ≡ region_count d b j + 1
  pub good : good_dimension (dimension_marks d b marks j) ≡ true

good_part : (d b : ℕ) (marks : List ℤ) (j : ℕ) → first (part_causes d b marks j) ≡ Ok tt
    → good_dimension (dimension_marks d b marks j) ≡ true
good_part d b marks j accepted =
    let number = numbered d b j (part_accepted d b j marks accepted).0 in
    let size = passed _ _ _ (accepted_behind (dimension_causes d b j) (shaped_causes d b marks) accepted) in
    let good = not-false (good_marks d b marks) (passed _ _ _ size.rest).fails in
    rw number.is (good_marks_each d b marks number.before number.within good)

pub part_is : (d b : ℕ) (marks : List ℤ) (j : ℕ) → first (part_causes d b marks j) ≡ Ok tt → Part d b marks j
unfolding dimension_marks
part_is d b marks j accepted =
    let told = part_accepted d b j marks accepted in
    let s = stretches {d = d} {b = b} {j = j} {s = stretch_of d b j} told.0 refl in
    let few : bits_of d b j ≤ max_dimension_bits = rw (← s.bits_are) s.few_bits in
    let ends : first_marks d b (j - 1) + (region_count d b j + 1) ≡ first_marks d b j = rw (← s.offset_is, ← s.bits_are) s.end in
    let inside : region_count d b j + 1 ≤ length (drop (first_marks d b (j - 1)) marks) =
    rw (length-drop (first_marks d b (j - 1)) marks, told.1) (omega (arith, ends, s.within)) in
    record {
      counted = is_power_lem max_dimension_bits (bits_of d b j) few;
      exact = length-take-le (region_count d b j + 1) (drop (first_marks d b (j - 1)) marks) inside;
      good = good_part d b marks j accepted;
    }

-- The number of regions is one less than the part's marks, and none where it is empty.
pub regions_between : (d b : ℕ) (marks : List ℤ) (j : ℕ) → length (seen_marks d b marks j) - 1 ≡ seen_regions d b marks j
regions_between d b marks j = go (first (part_causes d b marks j)) refl
  where
    go : (verdict : Verdict) → first (part_causes d b marks j) ≡ verdict → length (seen_marks d b marks j) - 1 ≡ seen_regions d b marks j
    go (Ok _) e = rw e (omega (arith, (part_is d b marks j e).exact))
    go (Err cause) e = rw e
