-- Codes that are packed afresh after an addition and after a removal. Assumes nothing.
use Rattle.std.specs.Prelude.{◌≡◌, refl, ◌&&◌, ℤ, length}
use Rattle.std.proofs.Math.Path.{sym, ap}
use Rattle.std.proofs.Common.{◌∙◌}
use Rattle.std.proofs.Math.Bool.{and_assoc}
use mathlib.Core.List.{List, [], ◌∷◌, ◌++◌}
use Prim.Native.Nat.{ℕ, suc, ◌-◌, ◌*◌, ◌≤◌, ◌<◌}
use Rattle.std.proofs.Math.Nat.{mul-le-mul_right}
use Rattle.limits.specs.Limits.{is_component}
use Rattle.signed.specs.Components.{are_components}
use Rattle.layout.specs.Layout.{code_length}
use Rattle.codes.specs.Bits.{bytes_of}
use Rattle.codes.specs.Codes.{joined, packed}
use Rattle.codes.specs.PackLaws.{binary_joined, length_joined, joined_rows}
use Rattle.approximation.specs.Vectors.{vector_regions, vectors_inside, vector_codes}
use Rattle.approximation.specs.OwnCodes.{length_regions, regions_rows, inside_rows_lem}
use Rattle.updating.specs.Updated.{code_bits, vector_bits, added_codes, without, removed_codes}
use Rattle.updated.specs.ListRows.{Rowwise, made_without, RowwiseTest}
use Rattle.updated.specs.CodeRows.{codes_bits}

-- ---- row by row

components_append : (front back : List ℤ) → are_components (front ++ back) ≡ are_components front && are_components back
unfolding are_components
components_append [] back = refl
components_append (z ∷ zs) back =
    rw (components_append zs back) (sym (and_assoc (is_component z) (are_components zs) (are_components back)))

pub components_rowwise : (size : ℕ) → RowwiseTest size are_components
components_rowwise size = record { joins = λ n front back rows. components_append front back }

module _ (d b : ℕ) (some : 0 < d) (marks : List ℤ) where
  pub inside_rowwise : RowwiseTest d (vectors_inside d b marks)
  inside_rowwise = record { joins = inside_rows_lem d b some marks }

  regions_rowwise : Rowwise d d (vector_regions d b marks)
  regions_rowwise = record { joins = regions_rows d b some marks; sizes = λ n front rows. length_regions d b marks 0 front ∙ rows }

  joined_rowwise : Rowwise d b (joined d b 0)
  joined_rowwise = record { joins = joined_rows d b some; sizes = length_joined d b some }

  -- the bits of vectors packed afresh
  pub fresh_bits : (n : ℕ) (vectors : List ℤ) → length vectors ≡ n * d
      → code_bits b n (vector_codes d b n marks vectors) ≡ vector_bits d b marks vectors
  unfolding packed
  fresh_bits n vectors rows =
      let regions = vector_regions d b marks vectors in
      codes_bits b n (binary_joined d b 0 regions) (length_joined d b some n regions (regions_rowwise.sizes n vectors rows))

  -- ---- what packing afresh gives

  module _ (n : ℕ) (codes : List ℕ) (vectors : List ℤ) (rows : length vectors ≡ n * d) (own : vector_codes d b n marks vectors ≡ codes) where
    own_bits : code_bits b n codes ≡ vector_bits d b marks vectors
    own_bits = ap (code_bits b n) (sym own) ∙ fresh_bits n vectors rows

    pub added_packed : (vector : List ℤ) → added_codes d b n marks codes vector ≡ vector_codes d b (suc n) marks (vectors ++ vector)
    unfolding added_codes packed
    added_packed vector =
        let front = vector_regions d b marks vectors in
        let last = vector_regions d b marks vector in
        ap (bytes_of (code_length b (suc n)))
        (ap (λ (bits : List ℕ). bits ++ joined d b 0 last) own_bits
        ∙ sym (joined_rows d b some n front last (regions_rowwise.sizes n vectors rows))
        ∙ ap (joined d b 0) (sym (regions_rows d b some marks n vectors vector rows)))

    pub removed_packed : (i : ℕ) → i < n → removed_codes b n codes i ≡ vector_codes d b (n - 1) marks (without d i vectors)
    unfolding removed_codes packed
    removed_packed i stored =
        let regions = vector_regions d b marks vectors in
        let whole : suc i * d ≤ n * d = mul-le-mul_right d stored in
        ap (bytes_of (code_length b (n - 1)))
        (ap (without b i) own_bits
        ∙ sym (made_without joined_rowwise regions i (rw (regions_rowwise.sizes n vectors rows) whole))
        ∙ ap (joined d b 0) (sym (made_without regions_rowwise vectors i (rw rows whole))))
