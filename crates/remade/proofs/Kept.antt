-- A library remade has the codes that it had. Assumes nothing.
use Rattle.std.specs.Prelude.{◌≡◌, true, not, List, ℤ, pos, length, get_or, Ok}
use Rattle.std.proofs.Math.Path.{refl}
use Rattle.std.proofs.Common.{inl, inr, eq-or-lt_of_le, mod-lt}
use Rattle.std.proofs.Math.Bool.{and-eq-true_iff}
use Prim.Native.Nat.{ℕ, zero, suc, ◌+◌, ◌*◌, ◌%◌, ◌^◌, ◌≤◌, ◌<◌}
use Rattle.std.proofs.Math.Nat.{zero-mod}
use native.Mathlib.Omega.{arith}
use borrow.Author.Tests.{eq-eqb}
use Rattle.std.specs.Int.Signed.{le_z, lt_z}
use Rattle.refusal.specs.declared.Refusal.TheVariants.{Dimension, Bits, Count}
use Rattle.refusal.specs.First.{first, any, passed, accepted_if_none}
use Rattle.limits.specs.Limits.{is_component, is_dimension_count, is_bits, is_vector_count}
use Rattle.signed.specs.Components.{component_at_lem}
use Rattle.layout.specs.Layout.{bits_of, first_marks}
use Rattle.layout.specs.Stretch.{shape}
use Rattle.region.specs.Region.{in_region}
use Rattle.region.specs.Within.{within}
use Rattle.partition.specs.Marks.{dimension_marks, good_marks}
use Rattle.codes.specs.Codes.{code_length, code_region}
use Rattle.codes.specs.PackLaws.{code_region_fits}
use Rattle.cells.specs.Cells.{vector_at, in_first, Own}
use Rattle.cells.specs.CellLaws.{vector_component}
use Rattle.approximation.specs.Vectors.{vectors_inside}
use Rattle.approximation.specs.VectorCauses.{pack_vectors_causes}
use Rattle.approximation.specs.OwnCodes.{inside_from_lem, own_packed}
use Rattle.search.specs.Search.{Index}
use Rattle.search.specs.Settled.{OwnCodes}
use Rattle.marking.specs.Made.{Outer, column, in_order, mark_at, marks_between, scale_ends}
use Rattle.marking.specs.Making.{Given, given}
use Rattle.marking.specs.MadeDimension.{between_at, mark_first, mark_inner, mark_last, on_scale}
use Rattle.marking.specs.MadeLaws.{between_count, between_part, made_passes, made_inside}
use Rattle.remade.specs.Former.{former_outers}
use Rattle.remade.specs.Remade.{FormerLibrary, new_marks, remade}

-- ---- a component of a region between any outer marks is in the same region between the ends of the scale

module _ (outer : Outer) (n w : ℕ) (ordered : List ℤ) (r : ℕ) (below : r < 2 ^ w) (v : ℤ) (is : is_component v ≡ true) where
  lower_kept : le_z (mark_at outer n w ordered r) v ≡ true → le_z (mark_at scale_ends n w ordered r) v ≡ true
  lower_kept h =
      let least : 0 ≤ r = omega arith in
      elim (eq-or-lt_of_le least) [
        | inl e ↦ rw (← e, mark_first scale_ends n w ordered) (on_scale v is).lower
        | inr some ↦ rw (mark_inner scale_ends n w ordered r some below) (rw (mark_inner outer n w ordered r some below) at h)
      ]

  upper_kept : lt_z v (mark_at outer n w ordered (suc r)) ≡ true → lt_z v (mark_at scale_ends n w ordered (suc r)) ≡ true
  upper_kept h =
      elim (eq-or-lt_of_le below) [
        | inl e ↦ rw (mark_last scale_ends n w ordered (suc r) (omega arith)) (on_scale v is).upper
        | inr more ↦
            rw (mark_inner scale_ends n w ordered (suc r) (omega arith) more)
            (rw (mark_inner outer n w ordered (suc r) (omega arith) more) at h)
      ]

  region_kept : in_region (marks_between outer n w ordered) r v ≡ true → in_region (marks_between scale_ends n w ordered) r v ≡ true
  unfolding in_region
  region_kept holds =
      let lower : r ≤ 2 ^ w = omega arith in
      let old = within (mark_at outer n w ordered r) v (mark_at outer n w ordered (suc r))
      (rw (between_at outer n w ordered r lower, between_at outer n w ordered (suc r) below) at holds) in
      rw (
        between_at scale_ends n w ordered r lower,
        between_at scale_ends n w ordered (suc r) below,
        lower_kept old.lower,
        upper_kept old.upper,
      )

-- ---- the theorems

module _ {l : Index} (old : FormerLibrary l) where
  pub facts : Given l.d l.b l.n l.vectors (length l.marks)
  facts = given l.d l.b l.n l.vectors (length l.marks) old.makeable

  some : 0 < l.d
  some = (shape l.d l.b facts.shaped).some

  -- each vector lies in its old code's cell under the new marks too
  component_kept : (i t : ℕ) → t < l.d → let v = get_or (vector_at l.d l.vectors i) t (pos 0) in
      let r = code_region l.d l.b l.codes i t in
      in_region (dimension_marks l.d l.b l.marks (suc t)) r v ≡ true
      → in_region (dimension_marks l.d l.b (new_marks l) (suc t)) r v ≡ true
  component_kept i t among holds =
      let ordered = in_order (column l.d l.n l.vectors t) in
      let is : is_component (get_or (vector_at l.d l.vectors i) t (pos 0)) ≡ true =
      rw (vector_component l.d l.vectors i t among) (component_at_lem l.vectors facts.components (i * l.d + t)) in
      rw (between_part (λ _. scale_ends) l.d l.b l.n l.vectors t among)
      (region_kept (former_outers l.d l.n l.vectors t) l.n (bits_of l.d l.b (suc t)) ordered
      (code_region l.d l.b l.codes i t) (code_region_fits l.d l.b l.codes i t) _ is
      (rw (old.marks, between_part (former_outers l.d l.n l.vectors) l.d l.b l.n l.vectors t among) at holds))

  cell_kept : (i t : ℕ) → t ≤ l.d → in_first l.d l.b l.marks l.codes i (vector_at l.d l.vectors i) t ≡ true
      → in_first l.d l.b (new_marks l) l.codes i (vector_at l.d l.vectors i) t ≡ true
  unfolding in_first
  cell_kept i zero among inside = refl
  cell_kept i (suc t) among inside =
      let both = (and-eq-true_iff _ _).0 inside in
      (and-eq-true_iff _ _).1 (cell_kept i t (omega arith) both.0, component_kept i t among both.1)

  pub own_kept : Own l.d l.b l.n (new_marks l) l.codes l.vectors
  own_kept = record {
    cells = λ i row.
        let cell = old.own.cells i row in
        record { components = cell.components; inside = cell_kept i l.d (omega arith) cell.inside };
    spare = old.own.spare;
  }

  pub new_passes : good_marks l.d l.b (new_marks l) ≡ true
  new_passes = made_passes l.d l.b l.n l.vectors facts.count.above facts.components

  new_inside : vectors_inside l.d l.b (new_marks l) l.vectors ≡ true
  new_inside =
      rw zero-mod at
      (inside_from_lem l.d l.b some (new_marks l) 0 l.vectors
      (λ q h.
      made_inside l.d l.b l.n l.vectors ((0 + q) % l.d) (mod-lt (0 + q) some) (get_or l.vectors q (pos 0))
      (component_at_lem l.vectors facts.components q)))

  pub new_count : length (new_marks l) ≡ first_marks l.d l.b l.d
  new_count = between_count (λ _. scale_ends) l.d l.b l.n l.vectors

  -- 1. Packing its vectors is not refused, and gives the old codes, byte for byte.
  pub remade_packs : first (pack_vectors_causes l.d l.b l.n l.vectors (new_marks l) (code_length l.b l.n)) ≡ Ok tt
  unfolding any
  remade_packs =
      let dimensions = passed (not (is_dimension_count l.d)) Dimension _ old.makeable in
      let bits = passed (not (is_bits l.d l.b)) Bits _ dimensions.rest in
      let count = passed (not (is_vector_count l.n)) Count _ bits.rest in
      accepted_if_none (pack_vectors_causes l.d l.b l.n l.vectors (new_marks l) (code_length l.b l.n))
      (rw (
        dimensions.fails,
        bits.fails,
        count.fails,
        eq-eqb (length l.vectors) (l.n * l.d) facts.full,
        eq-eqb (code_length l.b l.n) (code_length l.b l.n) refl,
        eq-eqb (length (new_marks l)) (first_marks l.d l.b l.d) new_count,
        facts.components,
        new_passes,
        new_inside,
      ))

  pub remade_codes : (remade l).codes ≡ l.codes
  remade_codes = own_packed some new_count new_passes facts.full own_kept old.bytes old.size

  pub remade_own : OwnCodes (remade l)
  remade_own = rw remade_codes own_kept
