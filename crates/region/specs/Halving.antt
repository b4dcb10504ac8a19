-- The lookup of a region by halving the stretch of marks (document 01, "Marks, regions, codes"), for any marks and any value, and the law
-- that in marks that never fall it finds the region of each value inside them. Assumes nothing.
use Rattle.std.specs.Prelude.{◌≡◌, Bool, not, List, ℤ, pos, take, drop, get_or}
use Rattle.std.proofs.Math.Path.{refl, sym, ap}
use Rattle.std.proofs.Common.{◌∙◌, add_assoc, get_or-take, get_or-drop}
use Rattle.std.proofs.Math.Bool.{true, false, cond}
use Prim.Native.Nat.{ℕ, zero, suc, ◌+◌, ◌-◌, ◌/◌, ◌≤◌, ◌<◌}
use Rattle.std.proofs.Math.Nat.{add-zero}
use native.Mathlib.Omega.{arith}
use Rattle.std.specs.Int.Signed.{lt_z}
use Rattle.std.proofs.Math.ListN.{length}
use Rattle.limits.specs.Tests.{le_z_not}
use Rattle.region.specs.Dimension.{good_dimension}
use Rattle.region.specs.Region.{region_of, in_marks}
use Rattle.region.specs.Within.{Within, lt_z_le_z}
use Rattle.region.specs.Regions.{RegionHolds, within_holds, marks_within, last_mark_lem, marks_rise, region_of_holds, region_of_is}

-- A halving takes this many marks off a stretch of count marks, and none where at most two are left.
abbrev pub half_of : ℕ → ℕ
half_of count = (count - 1) / 2

-- The half that is left begins at the mark in the middle, or where the stretch began if v is below that mark.
abbrev pub half_start : List ℤ → ℤ → ℕ → ℕ → ℕ
half_start marks v start half = cond (lt_z v (get_or marks (start + half) (pos 0))) start (start + half)

-- After so many halvings, what is left of count marks from start on begins here.
unfoldable pub halvings : ℕ → List ℤ → ℤ → ℕ → ℕ → ℕ
halvings zero marks v start count = start
halvings (suc more) marks v start count =
    let half = half_of count in
    halvings more marks v (half_start marks v start half) (count - half)

-- Halving finds this region: as many halvings as there are marks leave at most two marks.
abbrev pub halved : List ℤ → ℤ → ℕ
halved marks v = halvings (length marks) marks v 0 (length marks)

-- ---- laws

pub half_start_le : (marks : List ℤ) (v : ℤ) (start half : ℕ) → half_start marks v start half ≤ start + half
half_start_le marks v start half = go (lt_z v (get_or marks (start + half) (pos 0)))
  where
    go : (t : Bool) → cond t start (start + half) ≤ start + half
    go true = omega arith
    go false = omega arith

module _ (marks : List ℤ) (v : ℤ) where
  -- The start stays among the marks of the stretch.
  pub halvings_le : (more start count : ℕ) → halvings more marks v start count ≤ start + (count - 1)
  unfolding halvings
  halvings_le zero start count = omega arith
  halvings_le (suc more) start count =
      let half = half_of count in
      omega (arith, half_start_le marks v start half, halvings_le more (half_start marks v start half) (count - half))

  -- At most two marks are halved no further.
  pub settled : (more start count : ℕ) → count ≤ 2 → halvings more marks v start count ≡ start
  unfolding halvings
  settled zero start count few = refl
  settled (suc more) start count few =
      let none : half_of count ≡ 0 = omega arith in
      settled more (half_start marks v start (half_of count)) (count - half_of count) (omega arith)
      ∙ rw none (go (lt_z v (get_or marks (start + 0) (pos 0))))
    where
      go : (t : Bool) → cond t start (start + 0) ≡ start
      go true = refl
      go false = add-zero start

  -- Any two numbers of halvings that are enough for a stretch find the same.
  pub halvings_enough : (m n start count : ℕ) → count ≤ m + 2 → count ≤ n + 2
      → halvings m marks v start count ≡ halvings n marks v start count
  unfolding halvings
  halvings_enough zero n start count few enough = sym (settled n start count (omega arith))
  halvings_enough (suc m) zero start count enough few = settled (suc m) start count (omega arith)
  halvings_enough (suc m) (suc n) start count one other =
      let half = half_of count in
      halvings_enough m n (half_start marks v start half) (count - half) (omega arith) (omega arith)

  -- Halving a part of the marks is halving the marks from where the part begins.
  module _ (o size : ℕ) where
    abbrev part : List ℤ
    part = take size (drop o marks)

    part_start : (start half : ℕ) → start + half < size → half_start marks v (o + start) half ≡ o + half_start part v start half
    part_start start half inside =
        let same = get_or-take size (drop o marks) (start + half) (pos 0) inside ∙ get_or-drop o marks (start + half) (pos 0) in
        rw (same, add_assoc) (go (lt_z v (get_or marks (o + (start + half)) (pos 0))))
      where
        go : (t : Bool) → cond t (o + start) (o + (start + half)) ≡ o + cond t start (start + half)
        go true = refl
        go false = refl

    pub halvings_part : (more start count : ℕ) → 1 ≤ count → start + count ≤ size
        → halvings more marks v (o + start) count ≡ o + halvings more part v start count
    unfolding halvings
    halvings_part zero start count some fits = refl
    halvings_part (suc more) start count some fits =
        let half = half_of count in
        let next = half_start part v start half in
        ap (λ (s : ℕ). halvings more marks v s (count - half)) (part_start start half (omega arith))
        ∙ halvings_part more next (count - half) (omega arith) (omega (arith, half_start_le part v start half))

-- ---- marks that never fall

-- The value lies from the first of count marks from start on up to the last of them.
abbrev Between : List ℤ → ℤ → ℕ → ℕ → Type 0
Between marks v start count = Within (get_or marks start (pos 0)) v (get_or marks (start + (count - 1)) (pos 0))

module _ (marks : List ℤ) (v : ℤ) (good : good_dimension marks ≡ true) where
  -- A value between the ends of a stretch is between the ends of the half that is left.
  half_between : (start count : ℕ) → 1 ≤ count → start + count ≤ length marks → Between marks v start count
      → Between marks v (half_start marks v start (half_of count)) (count - half_of count)
  half_between start count some fits is = go (lt_z v (get_or marks (start + half_of count) (pos 0))) refl
    where
      go : (t : Bool) → lt_z v (get_or marks (start + half_of count) (pos 0)) ≡ t
          → Between marks v (cond t start (start + half_of count)) (count - half_of count)
      go true below =
          let middle = start + half_of count in
          let last = start + (count - half_of count - 1) in
          let rises = marks_rise marks good middle last (omega arith) (omega arith) in
          record { lower = is.lower; upper = lt_z_le_z v (get_or marks middle (pos 0)) (get_or marks last (pos 0)) below rises }
      go false above =
          let middle = start + half_of count in
          let same : middle + (count - half_of count - 1) ≡ start + (count - 1) = omega arith in
          record { lower = le_z_not v (get_or marks middle (pos 0)) ∙ ap not above; upper = rw same is.upper }

  halvings_hold : (more start count : ℕ) → 2 ≤ count → count ≤ more + 2 → start + count ≤ length marks → Between marks v start count
      → RegionHolds marks (halvings more marks v start count) v
  unfolding halvings
  halvings_hold zero start count some few fits is =
      let next : start + (count - 1) ≡ suc start = omega arith in
      within_holds (omega arith) (rw next at is)
  halvings_hold (suc more) start count some few fits is =
      let half = half_of count in
      let left-fits : half_start marks v start half + (count - half) ≤ length marks = omega (arith, half_start_le marks v start half) in
      halvings_hold more (half_start marks v start half) (count - half) (omega arith) (omega arith) left-fits
      (half_between start count (omega arith) fits is)

  -- Halving finds the region of a value inside the marks.
  pub halved_is : in_marks marks v ≡ true → halved marks v ≡ region_of marks v
  halved_is inside =
      let count = length marks in
      let some : 2 ≤ count = omega (arith, (region_of_holds marks v inside).exists) in
      let ends = marks_within marks v inside in
      let last = last_mark_lem marks (0 + (count - 1)) (omega arith) in
      region_of_is good (halvings_hold count 0 count some (omega arith) (omega arith)
      (record { lower = ends.lower; upper = rw (← last) ends.upper }))
