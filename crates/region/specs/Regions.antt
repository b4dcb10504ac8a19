-- Laws of regions: marks that never fall have at most one region that holds a value, and have one exactly where the value lies inside the
-- marks; it is regionOf's, and is never empty. Assumes nothing.
use Rattle.std.specs.Prelude.{◌≡◌, refl, Bool, true, false, not, ◌&&◌, cond, List, [], ◌∷◌, ℕ, zero, suc, ◌-◌, ◌≤◌, ◌<◌, ℤ, pos, length, get_or}
use Rattle.std.proofs.Common.{sym, ap, ◌∙◌, true≢false, arith}
use Rattle.std.specs.Int.Signed.{le_z, lt_z}
use Rattle.limits.specs.Limits.{is_mark}
use Rattle.limits.specs.Tests.{le_z_not}
use Rattle.region.specs.Dimension.{not_above, good_dimension}
use Rattle.region.specs.Region.{in_region, region_of, first_mark, last_mark, in_marks}
use Rattle.region.specs.Within.{le_z_trans, le_z_refl, lt_z_clash, lt_z_le_z, Within, within, within_test, within_apart}

-- Region r is one of the marks' regions and holds v.
pub record RegionHolds (marks : List ℤ) (r : ℕ) (v : ℤ) : Type 0 where
  pub exists : suc r < length marks
  pub inside : in_region marks r v ≡ true

pub holds_within : {marks : List ℤ} {r : ℕ} {v : ℤ} → RegionHolds marks r v → Within (get_or marks r (pos 0)) v (get_or marks (suc r) (pos 0))
unfolding in_region
holds_within {marks} {r} {v} h = within (get_or marks r (pos 0)) v (get_or marks (suc r) (pos 0)) h.inside

pub within_holds : {marks : List ℤ} {r : ℕ} {v : ℤ} → suc r < length marks → Within (get_or marks r (pos 0)) v (get_or marks (suc r) (pos 0))
    → RegionHolds marks r v
unfolding in_region
within_holds exists is = record { exists = exists; inside = within_test is }

pub marks_within : (marks : List ℤ) (v : ℤ) → in_marks marks v ≡ true → Within (first_mark marks) v (last_mark marks)
unfolding in_marks
marks_within marks v = within (first_mark marks) v (last_mark marks)

pub within_marks : (marks : List ℤ) (v : ℤ) → Within (first_mark marks) v (last_mark marks) → in_marks marks v ≡ true
unfolding in_marks
within_marks marks v is = within_test is

-- A region that holds a value is not empty.
pub holds_not_empty : {marks : List ℤ} {r : ℕ} {v : ℤ} → RegionHolds marks r v → lt_z (get_or marks r (pos 0)) (get_or marks (suc r) (pos 0)) ≡ true
holds_not_empty h = within_apart (holds_within h)

-- The last mark is the mark at the last place.
pub last_mark_lem : (marks : List ℤ) (last : ℕ) → suc last ≡ length marks → last_mark marks ≡ get_or marks last (pos 0)
last_mark_lem [] last e = absurd (omega arith)
last_mark_lem (m ∷ ms) last e =
    let same : last ≡ length ms = omega arith in
    rw same

-- A value that lies inside the marks is in regionOf's region, whether the marks fall or not.
pub region_of_holds : (marks : List ℤ) (v : ℤ) → in_marks marks v ≡ true → RegionHolds marks (region_of marks v) v
unfolding in_region region_of
region_of_holds [] v h =
    let is = marks_within [] v h in
    absurd (lt_z_clash v (pos 0) is.upper is.lower)
region_of_holds (m ∷ []) v h =
    let is = marks_within (m ∷ []) v h in
    absurd (lt_z_clash v m is.upper is.lower)
region_of_holds (m ∷ next ∷ ms) v h = go (le_z m v && lt_z v next) refl (region_of_holds (next ∷ ms) v)
  where
    go : (t : Bool) → le_z m v && lt_z v next ≡ t → (in_marks (next ∷ ms) v ≡ true → RegionHolds (next ∷ ms) (region_of (next ∷ ms) v) v)
        → RegionHolds (m ∷ next ∷ ms) (cond t 0 (suc (region_of (next ∷ ms) v))) v
    go true e later = record { exists = omega arith; inside = e }
    go false e later =
        let is = marks_within (m ∷ next ∷ ms) v h in
        let not_below : lt_z v next ≡ false = rw is.lower at e in
        let rest = later (within_marks (next ∷ ms) v (record { lower = le_z_not v next ∙ ap not not_below; upper = is.upper })) in
        record { exists = omega (arith, rest.exists); inside = rest.inside }

-- ---- Marks that never fall

-- The first of good marks is in range and not above the next, and the rest is good.
pub record GoodFirst (m : ℤ) (ms : List ℤ) : Type 0 where
  pub in_range : is_mark m ≡ true
  pub not_above : not_above m ms ≡ true
  pub rest : good_dimension ms ≡ true

pub good_first_lem : (m : ℤ) (ms : List ℤ) → good_dimension (m ∷ ms) ≡ true → GoodFirst m ms
unfolding good_dimension
good_first_lem m ms good = go (is_mark m) (not_above m ms) refl refl good
  where
    go : (s t : Bool) → is_mark m ≡ s → not_above m ms ≡ t → s && (t && good_dimension ms) ≡ true → GoodFirst m ms
    go true true e f good = record { in_range = e; not_above = f; rest = good }
    go true false e f good = absurd (true≢false (sym good))
    go false t e f good = absurd (true≢false (sym good))

-- Each of good marks is in range, and what is read past the last, 0, is too.
pub mark_in_range : (marks : List ℤ) (i : ℕ) → good_dimension marks ≡ true → is_mark (get_or marks i (pos 0)) ≡ true
mark_in_range [] i good = refl
mark_in_range (m ∷ ms) zero good = (good_first_lem m ms good).in_range
mark_in_range (m ∷ ms) (suc i) good = mark_in_range ms i (good_first_lem m ms good).rest

-- No mark is below an earlier one.
pub marks_rise : (marks : List ℤ) → good_dimension marks ≡ true → (i j : ℕ) → i ≤ j → j < length marks
    → le_z (get_or marks i (pos 0)) (get_or marks j (pos 0)) ≡ true
unfolding not_above
marks_rise [] good i j le lt = absurd (omega arith)
marks_rise (m ∷ ms) good zero zero le lt = le_z_refl m
marks_rise (m ∷ []) good zero (suc j) le lt = absurd (omega arith)
marks_rise (m ∷ next ∷ ms) good zero (suc j) le lt =
    let first = good_first_lem m (next ∷ ms) good in
    le_z_trans m next (get_or (next ∷ ms) j (pos 0)) first.not_above
    (marks_rise (next ∷ ms) first.rest zero j (omega arith) (omega arith))
marks_rise (m ∷ ms) good (suc i) zero le lt = absurd (omega arith)
marks_rise (m ∷ ms) good (suc i) (suc j) le lt = marks_rise ms (good_first_lem m ms good).rest i j (omega arith) (omega arith)

module _ {marks : List ℤ} (good : good_dimension marks ≡ true) {v : ℤ} where
  later_clash : {r s : ℕ} → RegionHolds marks r v → RegionHolds marks s v → r < s → ⊥
  later_clash {r} {s} hr hs lt =
      let above = marks_rise marks good (suc r) s lt (omega (arith, hs.exists)) in
      lt_z_clash v (get_or marks (suc r) (pos 0)) (holds_within hr).upper
      (le_z_trans (get_or marks (suc r) (pos 0)) (get_or marks s (pos 0)) v above (holds_within hs).lower)

  -- At most one region holds a value.
  pub holds_one : {r s : ℕ} → RegionHolds marks r v → RegionHolds marks s v → r ≡ s
  holds_one {r} {s} hr hs =
      let not-later : ¬ (r < s) = later_clash hr hs in
      let not_earlier : ¬ (s < r) = later_clash hs hr in
      omega arith

  -- A value that a region holds lies inside the marks.
  pub holds_in_marks : {r : ℕ} → RegionHolds marks r v → in_marks marks v ≡ true
  holds_in_marks {r} h =
      let is = holds_within h in
      let last = length marks - 1 in
      let first-rise = marks_rise marks good 0 r (omega arith) (omega (arith, h.exists)) in
      let last-rise = marks_rise marks good (suc r) last (omega (arith, h.exists)) (omega (arith, h.exists)) in
      let lower = le_z_trans (first_mark marks) (get_or marks r (pos 0)) v first-rise is.lower in
      let upper = lt_z_le_z v (get_or marks (suc r) (pos 0)) (get_or marks last (pos 0)) is.upper last-rise in
      within_marks marks v (record { lower = lower; upper = rw (last_mark_lem marks last (omega (arith, h.exists))) upper })

  -- The one region that holds a value is regionOf's.
  pub region_of_is : {r : ℕ} → RegionHolds marks r v → r ≡ region_of marks v
  region_of_is h = holds_one h (region_of_holds marks v (holds_in_marks h))
