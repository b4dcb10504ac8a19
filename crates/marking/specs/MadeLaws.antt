-- The theorems of marks made from vectors: they are as many as the layout says, each dimension's part of them is its own marks, they pass
-- the marks test, and every component lies inside them. d is any number of dimensions and b any number of bits. Assumes nothing.
use Rattle.std.specs.Prelude.{◌≡◌, List, ◌++◌, ℤ, length, take, drop}
use Rattle.std.proofs.Math.Path.{refl, ap₂}
use Rattle.std.proofs.Common.{◌∙◌, inl, inr, eq-or-lt_of_le, le_of_suc-le-suc, length-drop, take_all, drop_at}
use Rattle.std.proofs.Math.Bool.{true}
use Prim.Native.Nat.{ℕ, zero, suc, ◌+◌, ◌-◌, ◌≤◌, ◌<◌}
use native.Mathlib.Omega.{arith}
use Rattle.std.proofs.Math.ListN.{length-append}
use Rattle.std.proofs.lemmas.List.{take-append-le, drop-append-le}
use Rattle.limits.specs.Limits.{is_component}
use Rattle.signed.specs.Components.{are_components}
use Rattle.layout.specs.Layout.{bits_of, first_marks, mark_count}
use Rattle.layout.specs.Laws.{marks_within}
use Rattle.region.specs.Dimension.{good_dimension}
use Rattle.region.specs.Region.{in_marks}
use Rattle.partition.specs.Marks.{dimension_marks, good_first, good_marks}
use Rattle.marking.specs.Made.{Outer, column, in_order, marks_between, first_between, scale_ends, made_marks}
use Rattle.marking.specs.InOrder.{column_ordered}
use Rattle.marking.specs.MadeDimension.{between_length, made_good, made_in}

-- a part of a list that ends in X: one that lies before X, and X itself
before : (o c : ℕ) (marks X : List ℤ) → o + c ≤ length marks → take c (drop o (marks ++ X)) ≡ take c (drop o marks)
before o c marks X within =
    rw (drop-append-le o marks X (omega arith)) (take-append-le c (drop o marks) X (rw length-drop (omega arith)))

at_end : (o c : ℕ) (marks X : List ℤ) → length marks ≡ o → length X ≡ c → take c (drop o (marks ++ X)) ≡ X
at_end o c marks X start count = rw (drop_at marks X o start) (take_all c X (omega arith))

-- ---- between any outer marks

module _ (outer : ℕ → Outer) (d b n : ℕ) (vectors : List ℤ) where
  -- dimension t + 1's marks, and those of the first t dimensions
  abbrev part : ℕ → List ℤ
  part t = marks_between (outer t) n (bits_of d b (suc t)) (in_order (column d n vectors t))

  abbrev marks : ℕ → List ℤ
  marks t = first_between outer d b n vectors t

  first_length : (t : ℕ) → length (marks t) ≡ first_marks d b t
  unfolding first_between first_marks
  first_length zero = refl
  first_length (suc t) =
      length-append (marks t) (part t)
      ∙ ap₂ ◌+◌ (first_length t) (between_length (outer t) n (bits_of d b (suc t)) (in_order (column d n vectors t)))

  pub between_count : length (marks d) ≡ first_marks d b d
  between_count = first_length d

  -- the last dimension's part of the first, and an earlier one's
  last_part : (m : ℕ) → dimension_marks d b (marks (suc m)) (suc m) ≡ part m
  unfolding first_between dimension_marks
  last_part m =
      let offset : suc m - 1 ≡ m = omega arith in
      rw offset
      (at_end (first_marks d b m) (mark_count d b (suc m)) (marks m) (part m) (first_length m)
      (between_length (outer m) n (bits_of d b (suc m)) (in_order (column d n vectors m))))

  earlier_part : (m t : ℕ) → t < m → dimension_marks d b (marks (suc m)) (suc t) ≡ dimension_marks d b (marks m) (suc t)
  unfolding first_between dimension_marks first_marks
  earlier_part m t below =
      let offset : suc t - 1 ≡ t = omega arith in
      rw offset
      (before (first_marks d b t) (mark_count d b (suc t)) (marks m) (part m) (rw (first_length m) (marks_within d b m t below)))

  part_of_first : (m t : ℕ) → t < m → dimension_marks d b (marks m) (suc t) ≡ part t
  part_of_first zero t below = absurd (omega arith)
  part_of_first (suc m) t below =
      elim (eq-or-lt_of_le (le_of_suc-le-suc below)) [
        | inl e ↦ rw e (last_part m)
        | inr earlier ↦ earlier_part m t earlier ∙ part_of_first m t earlier
      ]

  -- a dimension's part of the marks is its own marks
  pub between_part : (t : ℕ) → t < d → dimension_marks d b (marks d) (suc t) ≡ part t
  between_part = part_of_first d

  -- the marks pass the marks test if each dimension's do
  pub between_passes : ((t : ℕ) → good_dimension (part t) ≡ true) → good_marks d b (marks d) ≡ true
  unfolding good_first
  between_passes good = go d (omega arith)
    where
      go : (m : ℕ) → m ≤ d → good_first d b (marks d) m ≡ true
      go zero within = refl
      go (suc m) within = rw (go m (omega arith), between_part m within) (good m)

-- ---- between the ends of the scale

module _ (d b n : ℕ) (vectors : List ℤ) where
  -- the marks pass the marks test
  pub made_passes : 0 < n → are_components vectors ≡ true → good_marks d b (made_marks d b n vectors) ≡ true
  made_passes some are =
      between_passes (λ _. scale_ends) d b n vectors (λ t. made_good (bits_of d b (suc t)) some (column_ordered d n vectors t are))

  -- every component, not only those that they were made from, lies inside each dimension's marks
  pub made_inside : (t : ℕ) → t < d → (z : ℤ) → is_component z ≡ true
      → in_marks (dimension_marks d b (made_marks d b n vectors) (suc t)) z ≡ true
  made_inside t dimension z is =
      rw (between_part (λ _. scale_ends) d b n vectors t dimension)
      (made_in n (bits_of d b (suc t)) (in_order (column d n vectors t)) z is)
