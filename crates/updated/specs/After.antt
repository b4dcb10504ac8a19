-- The library after an addition and after a removal passes the tests of a library. Assumes nothing.
use Rattle.std.specs.Prelude.{◌≡◌, Bool, true, false, not, List, [], ◌∷◌, ltb, ℤ, Ok}
use Rattle.std.proofs.Math.Path.{refl, sym}
use Rattle.std.proofs.Common.{◌∙◌, zero-mul, one-mul, mul-one, suc-mul, mul-le-mul_right, arith, eq-eqb, le-leb, lt-ltb, ltb-true, ltb-false, length-append}
use Rattle.std.proofs.Math.Bool.{and-eq-true_iff}
use Prim.Native.Nat.{ℕ, zero, suc, ◌-◌, ◌*◌, ◌≤◌, ◌<◌}
use Rattle.std.proofs.Math.ListN.{length}
use Rattle.refusal.specs.declared.Refusal.TheVariants.{Dimension, Bits}
use Rattle.refusal.specs.First.{first, any, passed, accepted_if_none}
use Rattle.limits.specs.Limits.{max_vectors, is_dimension_count, is_bits}
use Rattle.limits.specs.Tests.{between, All, all_each}
use Rattle.signed.specs.Components.{are_components}
use Rattle.layout.specs.Layout.{first_marks, code_length}
use Rattle.layout.specs.Stretch.{shape}
use Rattle.codes.specs.Codes.{code_region}
use Rattle.cells.specs.Cells.{none_empty, no_empty_codes}
use Rattle.approximation.specs.Vectors.{inside_from, vectors_inside, vector_codes}
use Rattle.approximation.specs.VectorCauses.{pack_vectors_causes}
use Rattle.approximation.specs.OwnCodes.{own_codes, own_not_empty}
use Rattle.updating.specs.declared.Lengths.{Lengths}
use Rattle.updating.specs.Updated.{CodedLibrary, vector_bits, added_codes, added, removed_codes, removed}
use Rattle.updating.specs.UpdateCauses.{add_causes, remove_causes}
use Rattle.updating.specs.Accepted.{Exact, Measured, Sound, Addable, addable, Removable, removable}
use Rattle.updated.specs.ListRows.{length_without, test_without}
use Rattle.updated.specs.CodeRows.{code_at, region_same, added_spare, added_length, earlier_code, last_code}
use Rattle.updated.specs.CodeRows.{removed_spare, removed_length, code_before, code_behind}
use Rattle.updated.specs.Fresh.{components_rowwise, inside_rowwise, fresh_bits}

-- ---- what is not refused of a library that passes

-- its vectors are packed afresh
pub packs : (l : CodedLibrary) → Measured l → Sound l []
    → first (pack_vectors_causes l.d l.b l.n l.vectors l.marks (length l.codes)) ≡ Ok tt
unfolding any
packs l library contents =
    let dimensions = passed (not (is_dimension_count l.d)) Dimension _ library.shaped in
    let bits = passed (not (is_bits l.d l.b)) Bits [] dimensions.rest in
    accepted_if_none (pack_vectors_causes l.d l.b l.n l.vectors l.marks (length l.codes))
    (rw (
      dimensions.fails,
      bits.fails,
      library.counted,
      eq-eqb (length l.vectors) (l.n * l.d) library.exact.of_vectors,
      eq-eqb (length l.codes) (code_length l.b l.n) library.exact.of_codes,
      eq-eqb (length l.marks) (first_marks l.d l.b l.d) library.of_marks,
      contents.components,
      contents.good,
      contents.inside,
    ))

-- and one of more is removed
pub removes : (l : CodedLibrary) (i : ℕ) (room : Lengths) → Measured l → Sound l []
    → Exact l.d l.b (l.n - 1) room
    → i < l.n
    → 1 < l.n
    → first (remove_causes l i room) ≡ Ok tt
unfolding any
removes l i room library contents exact stored others =
    let d = l.d in
    let b = l.b in
    let n = l.n in
    let dimensions = passed (not (is_dimension_count d)) Dimension _ library.shaped in
    let bits = passed (not (is_bits d b)) Bits [] dimensions.rest in
    accepted_if_none (remove_causes l i room)
    (rw (
      dimensions.fails,
      bits.fails,
      library.counted,
      eq-eqb (length l.marks) (first_marks d b d) library.of_marks,
      eq-eqb (length l.vectors) (n * d) library.exact.of_vectors,
      eq-eqb (length l.settings) n library.exact.of_settings,
      eq-eqb (length l.codes) (code_length b n) library.exact.of_codes,
      eq-eqb room.vectors ((n - 1) * d) exact.of_vectors,
      eq-eqb room.settings (n - 1) exact.of_settings,
      eq-eqb room.codes (code_length b (n - 1)) exact.of_codes,
      lt-ltb i n stored,
      lt-ltb 1 n others,
      contents.components,
      contents.more_components,
      contents.good,
      contents.inside,
      contents.more_inside,
      contents.named,
    ))

-- ---- the new code names no empty region

none_empty_same : (d b : ℕ) (marks : List ℤ) (one other : List ℕ) (i j : ℕ)
    → ((t : ℕ) → t < d → code_region d b one i t ≡ code_region d b other j t)
    → (t : ℕ) → t ≤ d → none_empty d b marks one i t ≡ none_empty d b marks other j t
unfolding none_empty
none_empty_same d b marks one other i j same zero among = refl
none_empty_same d b marks one other i j same (suc t) among =
    rw (none_empty_same d b marks one other i j same t (omega arith), same t among)

module _ (d b n : ℕ) (some : 0 < d) (marks : List ℤ) (codes : List ℕ) (vector : List ℤ) (full : length codes ≡ code_length b n)
    (size : length vector ≡ d) where
  abbrev new : List ℕ
  new = added_codes d b n marks codes vector

  earlier_not_empty : (i : ℕ) → i ≤ n → no_empty_codes d b marks new i ≡ no_empty_codes d b marks codes i
  unfolding no_empty_codes
  earlier_not_empty zero among = refl
  earlier_not_empty (suc i) among =
      rw (
        earlier_not_empty i (omega arith),
        none_empty_same d b marks new codes i i
            (region_same d b some new codes i i (earlier_code d b n some marks codes vector full size i among)) d (omega arith),
      )

  -- it is the code of the vector packed alone
  last_not_empty : vectors_inside d b marks vector ≡ true → none_empty d b marks new n d ≡ true
  unfolding no_empty_codes
  last_not_empty inside =
      let alone = vector_codes d b 1 marks vector in
      let row : length vector ≡ 1 * d = size ∙ sym (one-mul d) in
      let first_code : code_at b alone 0 ≡ vector_bits d b marks vector =
      rw (zero-mul b) (rw (one-mul b) at (fresh_bits d b some marks 1 vector row)) in
      let same : code_at b new n ≡ code_at b alone 0 = last_code d b n some marks codes vector full size ∙ sym first_code in
      none_empty_same d b marks new alone n 0 (region_same d b some new alone n 0 same) d (omega arith)
      ∙ own_not_empty (own_codes d b 1 some marks vector row inside) 1 (omega arith)

  added_not_empty : no_empty_codes d b marks codes n ≡ true → vectors_inside d b marks vector ≡ true
      → no_empty_codes d b marks new (suc n) ≡ true
  unfolding no_empty_codes
  added_not_empty named inside = (and-eq-true_iff _ _).1 (earlier_not_empty n (omega arith) ∙ named, last_not_empty inside)

-- nor do the codes that are left
module _ (d b n : ℕ) (some : 0 < d) (marks : List ℤ) (codes : List ℕ) (full : length codes ≡ code_length b n) (i : ℕ) (stored : i < n)
    (named : no_empty_codes d b marks codes n ≡ true) where
  abbrev fewer : List ℕ
  fewer = removed_codes b n codes i

  named_all : All (no_empty_codes d b marks codes) (λ j. none_empty d b marks codes j d)
  unfolding no_empty_codes
  named_all = record { next = λ j. refl }

  from_old : (j m : ℕ) → code_at b fewer j ≡ code_at b codes m → m < n → none_empty d b marks fewer j d ≡ true
  from_old j m same row =
      none_empty_same d b marks fewer codes j m (region_same d b some fewer codes j m same) d (omega arith)
      ∙ all_each named_all n m row named

  left_not_empty : (j : ℕ) → j < n - 1 → none_empty d b marks fewer j d ≡ true
  left_not_empty j row = go (ltb j i) refl
    where
      go : (t : Bool) → ltb j i ≡ t → none_empty d b marks fewer j d ≡ true
      go true e = from_old j j (code_before b n codes full i stored j (ltb-true j i e)) (omega arith)
      go false e = from_old j (suc j) (code_behind b n codes full i stored j (ltb-false j i e) row) (omega arith)

  removed_not_empty : (j : ℕ) → j ≤ n - 1 → no_empty_codes d b marks fewer j ≡ true
  unfolding no_empty_codes
  removed_not_empty zero among = refl
  removed_not_empty (suc j) among = (and-eq-true_iff _ _).1 (removed_not_empty j (omega arith), left_not_empty j among)

-- ---- the library after an addition

module _ (l : CodedLibrary) (vector : List ℤ) (room : Lengths) (accepted : first (add_causes l vector room) ≡ Ok tt) (setting : ℕ) where
  facts : Addable l vector room
  facts = addable l vector room accepted

  some : 0 < l.d
  some = (shape l.d l.b facts.library.shaped).some

  pub added_measured : Measured (added l vector setting)
  added_measured = record {
    shaped = facts.library.shaped;
    counted = rw (le-leb 1 (suc l.n) (omega arith)) (le-leb (suc l.n) max_vectors facts.not_full);
    of_marks = facts.library.of_marks;
    exact = record {
      of_vectors = length-append l.vectors vector
          ∙ rw (facts.library.exact.of_vectors, facts.size) (sym (suc-mul l.n l.d));
      of_settings = length-append l.settings (setting ∷ []) ∙ rw facts.library.exact.of_settings (omega arith);
      of_codes =
          added_length l.d l.b l.n some l.marks l.codes vector facts.library.exact.of_codes facts.size;
    };
  }

  pub added_sound : Sound (added l vector setting) []
  unfolding are_components inside_from
  added_sound =
      let full = facts.library.exact.of_codes in
      let rows = facts.library.exact.of_vectors in
      let named = ((and-eq-true_iff (no_empty_codes l.d l.b l.marks l.codes l.n) _).0 facts.contents.named).0 in
      record {
        components = (components_rowwise l.d).joins l.n l.vectors vector rows
            ∙ rw facts.contents.components facts.contents.more_components;
        more_components = refl;
        good = facts.contents.good;
        inside = (inside_rowwise l.d l.b some l.marks).joins l.n l.vectors vector rows
            ∙ rw facts.contents.inside facts.contents.more_inside;
        more_inside = refl;
        named = (and-eq-true_iff _ _).1 (
          added_not_empty l.d l.b l.n some l.marks l.codes vector full facts.size named facts.contents.more_inside,
          added_spare l.d l.b l.n some l.marks l.codes vector full facts.size,
        );
      }

-- ---- the library after a removal

module _ (l : CodedLibrary) (i : ℕ) (room : Lengths) (accepted : first (remove_causes l i room) ≡ Ok tt) where
  known : Removable l i room
  known = removable l i room accepted

  positive : 0 < l.d
  positive = (shape l.d l.b known.library.shaped).some

  pub removed_measured : Measured (removed l i)
  removed_measured =
      let counted = between 1 l.n max_vectors known.library.counted in
      record {
        shaped = known.library.shaped;
        counted =
            rw (le-leb 1 (l.n - 1) (omega (arith, known.others))) (le-leb (l.n - 1) max_vectors (omega (arith, counted.below)));
        of_marks = known.library.of_marks;
        exact = record {
          of_vectors = length_without l.d l.n l.vectors i known.library.exact.of_vectors known.stored;
          of_settings =
              length_without 1 l.n l.settings i (known.library.exact.of_settings ∙ sym (mul-one l.n)) known.stored
              ∙ mul-one (l.n - 1);
          of_codes = removed_length l.b l.n l.codes known.library.exact.of_codes i known.stored;
        };
      }

  pub removed_sound : Sound (removed l i) []
  removed_sound =
      let full = known.library.exact.of_codes in
      let whole : suc i * l.d ≤ length l.vectors =
      rw known.library.exact.of_vectors (mul-le-mul_right l.d known.stored) in
      let named = ((and-eq-true_iff (no_empty_codes l.d l.b l.marks l.codes l.n) _).0 known.contents.named).0 in
      record {
        components = test_without (components_rowwise l.d) l.vectors i whole known.contents.components;
        more_components = known.contents.more_components;
        good = known.contents.good;
        inside = test_without (inside_rowwise l.d l.b positive l.marks) l.vectors i whole known.contents.inside;
        more_inside = known.contents.more_inside;
        named = (and-eq-true_iff _ _).1 (
          removed_not_empty l.d l.b l.n positive l.marks l.codes full i known.stored named (l.n - 1) (omega arith),
          removed_spare l.b l.n l.codes full i known.stored,
        );
      }
