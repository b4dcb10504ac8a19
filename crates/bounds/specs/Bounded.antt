-- The causes for which the bounds of n codes' cells are refused, from a query with its presence word (document 02, Slip 1). Assumes
-- nothing.
use Rattle.std.specs.Prelude.{◌≡◌, ℕ, true, not, ◌&&◌, List, [], ◌∷◌, ◌++◌, length, ℤ, ◌==◌, nat_eq, Ok}
use Rattle.std.proofs.Math.Bool.{and-eq-true_iff}
use Rattle.std.proofs.lemmas.Bool.{not-false}
use Rattle.std.proofs.Common.{eqb-true}
use Rattle.refusal.specs.declared.Refusal.TheVariants.{Count, Length, Component, Mark, Code}
use Rattle.refusal.specs.First.{Row, ◌⇒◌, first, passed, accepted_front, accepted_behind}
use Rattle.limits.specs.Limits.{is_vector_count}
use Rattle.presence.specs.Presence.{word_causes}
use Rattle.signed.specs.Components.{are_components}
use Rattle.layout.specs.Layout.{first_marks, code_length}
use Rattle.layout.specs.Stretch.{shape_causes}
use Rattle.partition.specs.Marks.{good_marks}
use Rattle.codes.specs.Codes.{spare_zero}
use Rattle.cells.specs.Cells.{no_empty_codes, good_codes}

-- 5, for the query, the marks and the codes, and for the two buffers of bounds; 6, 7, 9
abbrev pub measured_bounds_causes : ℕ → ℕ → ℕ → List ℤ → List ℤ → List ℕ → ℕ → ℕ → List Row
measured_bounds_causes d b n query marks codes lowers uppers =
    (not ((length query == d && (length marks == first_marks d b d && length codes == code_length b n))
    && (lowers == n && uppers == n)) ⇒ Length)
    ∷ (not (are_components query) ⇒ Component)
    ∷ (not (good_marks d b marks) ⇒ Mark)
    ∷ (not (good_codes d b n marks codes) ⇒ Code)
    ∷ []

-- 3; 19, 18; then those
abbrev pub shaped_bounds_causes : ℕ → ℕ → ℕ → ℕ → List ℤ → List ℤ → List ℕ → ℕ → ℕ → List Row
shaped_bounds_causes d b n word query marks codes lowers uppers =
    (not (is_vector_count n) ⇒ Count) ∷ (word_causes d word ++ measured_bounds_causes d b n query marks codes lowers uppers)

-- 1, 2, 3, 19, 18, 5, 6, 7, 9
abbrev pub bounds_causes : ℕ → ℕ → ℕ → ℕ → List ℤ → List ℤ → List ℕ → ℕ → ℕ → List Row
bounds_causes d b n word query marks codes lowers uppers = shape_causes d b ++ shaped_bounds_causes d b n word query marks codes lowers uppers

-- ---- what holds where nothing refuses

-- a query, marks that are good, and n codes without a spare bit that is set, of the right lengths
pub record Bounding (d b n : ℕ) (query marks : List ℤ) (codes : List ℕ) : Type 0 where
  pub shaped : first (shape_causes d b) ≡ Ok tt
  pub count : is_vector_count n ≡ true
  pub of_query : length query ≡ d
  pub of_marks : length marks ≡ first_marks d b d
  pub of_codes : length codes ≡ code_length b n
  pub components : are_components query ≡ true
  pub good : good_marks d b marks ≡ true
  pub spare : spare_zero b n codes ≡ true

pub record Bounded (d b n : ℕ) (query marks : List ℤ) (codes : List ℕ) (lowers uppers : ℕ) : Type 0 where
  pub are : Bounding d b n query marks codes
  pub of_lowers : lowers ≡ n
  pub of_uppers : uppers ≡ n

pub bounded : (d b n word : ℕ) (query marks : List ℤ) (codes : List ℕ) (lowers uppers : ℕ)
    → first (bounds_causes d b n word query marks codes lowers uppers) ≡ Ok tt → Bounded d b n query marks codes lowers uppers
bounded d b n word query marks codes lowers uppers accepted =
    let rows = shaped_bounds_causes d b n word query marks codes lowers uppers in
    let given = length query == d && (length marks == first_marks d b d && length codes == code_length b n) in
    let lent = lowers == n && nat_eq uppers n in
    let count = passed _ _ _ (accepted_behind (shape_causes d b) rows accepted) in
    let past = passed _ _ _ count.rest in
    let present = passed _ _ _ past.rest in
    let lengths = passed _ _ _ present.rest in
    let components = passed _ _ _ lengths.rest in
    let good = passed _ _ _ components.rest in
    let named = passed _ _ _ good.rest in
    let exact = (and-eq-true_iff given lent).0 (not-false (given && lent) lengths.fails) in
    let query-first = (and-eq-true_iff (length query == d) _).0 exact.0 in
    let others = (and-eq-true_iff (length marks == first_marks d b d) (length codes == code_length b n)).0 query-first.1 in
    let both = (and-eq-true_iff (lowers == n) (uppers == n)).0 exact.1 in
    let codes-good =
    (and-eq-true_iff (no_empty_codes d b marks codes n) (spare_zero b n codes)).0 (not-false (good_codes d b n marks codes) named.fails) in
    record {
      are = record {
        shaped = accepted_front (shape_causes d b) rows accepted;
        count = not-false (is_vector_count n) count.fails;
        of_query = eqb-true (length query) d query-first.0;
        of_marks = eqb-true (length marks) (first_marks d b d) others.0;
        of_codes = eqb-true (length codes) (code_length b n) others.1;
        components = not-false (are_components query) components.fails;
        good = not-false (good_marks d b marks) good.fails;
        spare = codes-good.1;
      };
      of_lowers = eqb-true lowers n both.0;
      of_uppers = eqb-true uppers n both.1;
    }
