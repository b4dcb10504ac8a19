-- The codes of vectors are the vectors' own, own codes name no empty region, and there are no other own codes. Assumes nothing.
use Rattle.std.specs.Prelude.{◌≡◌, true, ◌&&◌, List, [], ◌∷◌, ◌++◌, ℤ, pos, length, get_or}
use Rattle.std.proofs.Math.Path.{refl}
use Rattle.std.proofs.Common.{sym, ap, ◌∙◌, zero-add, add-zero, add-suc, suc-add, suc-mul, mul-le-mul_right, le_of_suc-le-suc, mod-lt, div-lt_iff_lt-mul, div-add-mod', arith, lt-ltb, length-take, ext_get_or}
use Rattle.std.proofs.Math.Bool.{and_assoc, and-eq-true_iff}
use Prim.Native.Nat.{ℕ, zero, suc, ◌+◌, ◌*◌, ◌/◌, ◌%◌, ◌≤◌, ◌<◌}
use Rattle.std.proofs.Math.Nat.{zero-mod, mul-mod_left}
use Rattle.std.proofs.Math.Arith.{digits_lt, digits_mod}
use Rattle.layout.specs.Layout.{region_count, first_marks}
use Rattle.region.specs.Region.{in_region, region_of, in_marks}
use Rattle.region.specs.Within.{within, within_apart}
use Rattle.region.specs.Regions.{RegionHolds, region_of_holds, region_of_is}
use Rattle.partition.specs.Marks.{dimension_marks, good_marks, good_marks_each}
use Rattle.partition.specs.Parts.{part_length}
use Rattle.codes.specs.BitLaws.{Bytes}
use Rattle.codes.specs.Codes.{next_column, regions_fit, code_length, packed, unpacked, code_region}
use Rattle.codes.specs.PackLaws.{next_column_lem, packed_spare, unpacked_packed, packed_unpacked, length_unpacked}
use Rattle.codes.specs.PackLaws.{code_region_lem, code_region_fits}
use Rattle.approximation.specs.Vectors.{regions_from, vector_regions, inside_from, vectors_inside, vector_codes}
use Rattle.cells.specs.Cells.{vector_at, in_first, InCell, has_value, none_empty, no_empty_codes, good_codes, Own}
use Rattle.cells.specs.CellLaws.{vector_size, vector_component, cell_region}

-- ---- The region numbers of vectors that lie inside the marks

pub length_regions : (d b : ℕ) (marks : List ℤ) (t : ℕ) (vectors : List ℤ) → length (regions_from d b marks t vectors) ≡ length vectors
unfolding regions_from
length_regions d b marks t [] = refl
length_regions d b marks t (z ∷ zs) = ap suc (length_regions d b marks (next_column d t) zs)

-- Components lie inside if each lies inside the marks of its column's dimension, the first of them in column p % d.
pub inside_from_lem : (d b : ℕ) → 0 < d → (marks : List ℤ) (p : ℕ) (zs : List ℤ)
    → ((q : ℕ) → q < length zs → in_marks (dimension_marks d b marks (suc ((p + q) % d))) (get_or zs q (pos 0)) ≡ true)
    → inside_from d b marks (p % d) zs ≡ true
unfolding inside_from
inside_from_lem d b some marks p [] each = refl
inside_from_lem d b some marks p (z ∷ zs) each =
    let here : in_marks (dimension_marks d b marks (suc (p % d))) z ≡ true = rw add-zero at (each 0 (omega arith)) in
    let rest = inside_from_lem d b some marks (suc p) zs (λ q h. rw (suc-add p q, ← add-suc p q) (each (suc q) (omega arith))) in
    rw (here, next_column_lem d b some p) rest

-- The other way round, component q lies inside the marks of its column's dimension.
inside_at : (d b : ℕ) → 0 < d → (marks : List ℤ) (p q : ℕ) (zs : List ℤ) → q < length zs → inside_from d b marks (p % d) zs ≡ true
    → in_marks (dimension_marks d b marks (suc ((p + q) % d))) (get_or zs q (pos 0)) ≡ true
unfolding inside_from
inside_at d b some marks p q [] more inside = absurd (omega arith)
inside_at d b some marks p zero (z ∷ zs) more inside = rw add-zero ((and-eq-true_iff _ _).0 inside).0
inside_at d b some marks p (suc q) (z ∷ zs) more inside =
    let rest = ((and-eq-true_iff (in_marks (dimension_marks d b marks (suc (p % d))) z)
    (inside_from d b marks (next_column d (p % d)) zs)).0 inside).1 in
    rw (add-suc p q, ← suc-add p q)
    (inside_at d b some marks (suc p) q zs (le_of_suc-le-suc more) (rw (next_column_lem d b some p) at rest))

-- Its region number is that of its region in these marks.
region_at : (d b : ℕ) → 0 < d → (marks : List ℤ) (p q : ℕ) (vectors : List ℤ) → q < length vectors
    → get_or (regions_from d b marks (p % d) vectors) q 0 ≡ region_of (dimension_marks d b marks (suc ((p + q) % d))) (get_or vectors q (pos 0))
unfolding regions_from
region_at d b some marks p q [] more = absurd (omega arith)
region_at d b some marks p zero (z ∷ zs) more = rw add-zero
region_at d b some marks p (suc q) (z ∷ zs) more =
    rw (add-suc p q, ← suc-add p q, next_column_lem d b some p) (region_at d b some marks (suc p) q zs (le_of_suc-le-suc more))

-- The region number of component t of vector i is that of its region in dimension t + 1's marks.
located : (d b : ℕ) → 0 < d → (marks vectors : List ℤ) (i t : ℕ) → i * d + t < length vectors → t < d
    → get_or (vector_regions d b marks vectors) (i * d + t) 0 ≡ region_of (dimension_marks d b marks (suc t)) (get_or vectors (i * d + t) (pos 0))
located d b some marks vectors i t here column =
    rw (zero-mod d, zero-add (i * d + t), digits_mod i column) at (region_at d b some marks 0 (i * d + t) vectors here)

-- Components behind others go on in the column where these end, ..
regions_append : (d b : ℕ) → 0 < d → (marks : List ℤ) (p : ℕ) (front back : List ℤ)
    → regions_from d b marks (p % d) (front ++ back)
    ≡ regions_from d b marks (p % d) front ++ regions_from d b marks ((p + length front) % d) back
unfolding regions_from
regions_append d b some marks p [] back = rw add-zero
regions_append d b some marks p (z ∷ zs) back =
    rw (next_column_lem d b some p, regions_append d b some marks (suc p) zs back, add-suc p (length zs), ← suc-add p (length zs))

inside_append : (d b : ℕ) → 0 < d → (marks : List ℤ) (p : ℕ) (front back : List ℤ)
    → inside_from d b marks (p % d) (front ++ back)
    ≡ inside_from d b marks (p % d) front && inside_from d b marks ((p + length front) % d) back
unfolding inside_from
inside_append d b some marks p [] back = rw add-zero
inside_append d b some marks p (z ∷ zs) back =
    rw (next_column_lem d b some p, inside_append d b some marks (suc p) zs back, add-suc p (length zs), ← suc-add p (length zs))
    (sym (and_assoc (in_marks (dimension_marks d b marks (suc (p % d))) z) _ _))

-- .. and so vectors behind others have the region numbers they have alone, and lie inside the marks if they do alone.
pub regions_rows : (d b : ℕ) → 0 < d → (marks : List ℤ) (n : ℕ) (front back : List ℤ) → length front ≡ n * d
    → vector_regions d b marks (front ++ back) ≡ vector_regions d b marks front ++ vector_regions d b marks back
regions_rows d b some marks n front back rows =
    rw (zero-mod d, zero-add (length front), rows, mul-mod_left n d) at (regions_append d b some marks 0 front back)

pub inside_rows_lem : (d b : ℕ) → 0 < d → (marks : List ℤ) (n : ℕ) (front back : List ℤ) → length front ≡ n * d
    → vectors_inside d b marks (front ++ back) ≡ vectors_inside d b marks front && vectors_inside d b marks back
inside_rows_lem d b some marks n front back rows =
    rw (zero-mod d, zero-add (length front), rows, mul-mod_left n d) at (inside_append d b some marks 0 front back)

-- A region that holds a value is one of its dimension's.
holds_fit : (d b : ℕ) (marks : List ℤ) (t r : ℕ) (z : ℤ) → RegionHolds (dimension_marks d b marks (suc t)) r z → r < region_count d b (suc t)
unfolding dimension_marks
holds_fit d b marks t r z holds =
    let exists = simp length-take at holds.exists in
    omega arith

-- Each region number from column t on is below the number of regions of its dimension.
inside_fit : (d b : ℕ) (marks : List ℤ) (t : ℕ) (vectors : List ℤ) → inside_from d b marks t vectors ≡ true
    → regions_fit d b t (regions_from d b marks t vectors) ≡ true
unfolding regions_from inside_from regions_fit
inside_fit d b marks t [] inside = refl
inside_fit d b marks t (z ∷ zs) inside =
    let both = (and-eq-true_iff (in_marks (dimension_marks d b marks (suc t)) z) (inside_from d b marks (next_column d t) zs)).0 inside in
    let r = region_of (dimension_marks d b marks (suc t)) z in
    (and-eq-true_iff _ _).1 (
      lt-ltb r (region_count d b (suc t)) (holds_fit d b marks t r z (region_of_holds (dimension_marks d b marks (suc t)) z both.0)),
      inside_fit d b marks (next_column d t) zs both.1,
    )

-- Each region number is below the number of regions of its dimension.
pub regions_fit_lem : (d b : ℕ) (marks vectors : List ℤ) → vectors_inside d b marks vectors ≡ true
    → regions_fit d b 0 (vector_regions d b marks vectors) ≡ true
regions_fit_lem d b marks vectors inside = inside_fit d b marks 0 vectors inside

-- ---- Own codes

module _ (d b n : ℕ) (some : 0 < d) (marks vectors : List ℤ) (rows : length vectors ≡ n * d)
    (inside : vectors_inside d b marks vectors ≡ true) where
  rows_located : length (vector_regions d b marks vectors) ≡ n * d
  rows_located = length_regions d b marks 0 vectors ∙ rows

  -- Component t of vector i lies in the region that code i names for dimension t + 1.
  code_holds : (i t : ℕ) → i < n → t < d
      → RegionHolds (dimension_marks d b marks (suc t)) (code_region d b (vector_codes d b n marks vectors) i t)
      (get_or (vector_at d vectors i) t (pos 0))
  code_holds i t row column =
      let regions = vector_regions d b marks vectors in
      let here : i * d + t < length vectors = rw rows (digits_lt row column) in
      let is : code_region d b (packed d b n regions) i t ≡ get_or regions (i * d + t) 0 =
      code_region_lem d b n some (packed d b n regions) i t row column
      ∙ ap (λ (l : List ℕ). get_or l (i * d + t) 0)
      (unpacked_packed d b n some regions rows_located (regions_fit_lem d b marks vectors inside)) in
      let in-marks = inside_at d b some marks 0 (i * d + t) vectors here (rw zero-mod inside) in
      rw (is, vector_component d vectors i t column, located d b some marks vectors i t here column)
      (region_of_holds (dimension_marks d b marks (suc t)) (get_or vectors (i * d + t) (pos 0))
      (rw (zero-add (i * d + t), digits_mod i column) at in-marks))

  first_inside : (i : ℕ) → i < n → (t : ℕ) → t ≤ d → in_first d b marks (vector_codes d b n marks vectors) i (vector_at d vectors i) t ≡ true
  unfolding in_first
  first_inside i row zero among = refl
  first_inside i row (suc t) among = (and-eq-true_iff _ _).1 (first_inside i row t (omega arith), (code_holds i t row among).inside)

  in_cell_lem : (i : ℕ) → i < n → InCell d b marks (vector_codes d b n marks vectors) i (vector_at d vectors i)
  in_cell_lem i row =
      let whole : suc i * d ≤ n * d = mul-le-mul_right d row in
      record {
        components = vector_size d vectors i (omega (arith, suc-mul i d));
        inside = first_inside i row d (omega arith);
      }

  -- Packing vectors gives their own codes.
  pub own_codes : Own d b n marks (vector_codes d b n marks vectors) vectors
  own_codes = record { cells = in_cell_lem; spare = packed_spare d b n some (vector_regions d b marks vectors) rows_located }

-- Own codes name no empty region.
has_value_lem : (marks : List ℤ) (r : ℕ) (z : ℤ) → in_region marks r z ≡ true → has_value marks r ≡ true
unfolding in_region has_value
has_value_lem marks r z inside = within_apart (within (get_or marks r (pos 0)) z (get_or marks (suc r) (pos 0)) inside)

cell_not_empty : (d b : ℕ) (marks : List ℤ) (codes : List ℕ) (i : ℕ) (vector : List ℤ) (t : ℕ) → in_first d b marks codes i vector t ≡ true
    → none_empty d b marks codes i t ≡ true
unfolding in_first none_empty
cell_not_empty d b marks codes i vector zero inside = refl
cell_not_empty d b marks codes i vector (suc t) inside =
    let both = (and-eq-true_iff _ _).0 inside in
    (and-eq-true_iff _ _).1 (
      cell_not_empty d b marks codes i vector t both.0,
      has_value_lem (dimension_marks d b marks (suc t)) (code_region d b codes i t) (get_or vector t (pos 0)) both.1,
    )

pub own_not_empty : {d b n : ℕ} {marks : List ℤ} {codes : List ℕ} {vectors : List ℤ} → Own d b n marks codes vectors → (i : ℕ) → i ≤ n
    → no_empty_codes d b marks codes i ≡ true
unfolding no_empty_codes
own_not_empty own zero among = refl
own_not_empty {d} {b} {marks = marks} {codes = codes} {vectors = vectors} own (suc i) among =
    (and-eq-true_iff _ _).1
    (own_not_empty own i (omega arith), cell_not_empty d b marks codes i (vector_at d vectors i) d (own.cells i among).inside)

-- Own codes are good.
pub own_good : {d b n : ℕ} {marks : List ℤ} {codes : List ℕ} {vectors : List ℤ} → Own d b n marks codes vectors
    → good_codes d b n marks codes ≡ true
own_good {n = n} own = (and-eq-true_iff _ _).1 (own_not_empty own n (omega arith), own.spare)

-- ---- Packing gives the only own codes

module _ {d b n : ℕ} (some : 0 < d) {marks : List ℤ} (exact : length marks ≡ first_marks d b d) (good : good_marks d b marks ≡ true)
    {vectors : List ℤ} (rows : length vectors ≡ n * d) {codes : List ℕ} (own : Own d b n marks codes vectors) where
  -- The region that code i names for dimension t + 1 is that of the vector's component.
  own_region : (i t : ℕ) → i < n → t < d → get_or (vector_regions d b marks vectors) (i * d + t) 0 ≡ code_region d b codes i t
  own_region i t row column =
      let here : i * d + t < length vectors = rw rows (digits_lt row column) in
      let own-marks = dimension_marks d b marks (suc t) in
      let exists : suc (code_region d b codes i t) < length own-marks =
      omega (arith, part_length d b marks exact t column, code_region_fits d b codes i t) in
      let holds : RegionHolds own-marks (code_region d b codes i t) (get_or vectors (i * d + t) (pos 0)) =
      record { exists = exists; inside = rw (vector_component d vectors i t column) at (cell_region (own.cells i row) t column) } in
      located d b some marks vectors i t here column
      ∙ sym (region_of_is (good_marks_each d b marks t column good) holds)

  own_regions : vector_regions d b marks vectors ≡ unpacked d b n codes
  own_regions =
      ext_get_or 0 (vector_regions d b marks vectors) (unpacked d b n codes)
      (length_regions d b marks 0 vectors ∙ rows ∙ sym (length_unpacked d b n codes)) each
    where
      each : (q : ℕ) → q < length (vector_regions d b marks vectors)
          → get_or (vector_regions d b marks vectors) q 0 ≡ get_or (unpacked d b n codes) q 0
      each q within =
          let inside : q < n * d = omega (arith, length_regions d b marks 0 vectors, rows) in
          let row : q / d < n = (div-lt_iff_lt-mul some).1 inside in
          rw (← div-add-mod' q d)
          (own_region (q / d) (q % d) row (mod-lt q some) ∙ code_region_lem d b n some codes (q / d) (q % d) row (mod-lt q some))

  -- Codes of bytes that are the vectors' own are those that packing gives.
  pub own_packed : Bytes codes → length codes ≡ code_length b n → vector_codes d b n marks vectors ≡ codes
  own_packed bytes size = ap (packed d b n) own_regions ∙ packed_unpacked d b n some codes bytes size own.spare
