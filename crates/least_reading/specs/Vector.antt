-- Reading one vector: its distance where it lies in its code's cell, and what that takes. Assumes nothing.
use Rattle.std.specs.Prelude.{◌≡◌, refl, Bool, true, false, cond, ℕ, suc, ◌*◌, ◌≤◌, ◌<◌, length, Option, Some, None}
use Rattle.std.proofs.Common.{mul-le-mul_right, arith}
use Rattle.cells.specs.Cells.{vector_at, InCell}
use Rattle.distance.specs.Distance.{measured_of}
use Rattle.distance.specs.Small.{word_small, measured_exact}
use Rattle.distance.specs.CellComponents.{cell_components}
use Rattle.bounds.specs.Inside.{names_cell, names_cell_lem}
use Rattle.search.specs.Search.{Index, Query, factors_in, distance_in, in_own_cell}
use Rattle.search.specs.Ready.{Ready, place}

-- "the search reads a pattern that is not in its code's cell", or its distance
abbrev pub vector_read : Index → Query → ℕ → Option ℕ
vector_read l query i = cond (in_own_cell l i) (Some (distance_in l query i)) None

-- what the answer tells
pub record TellsDistance (inside : Bool) (m distance : ℕ) : Type 0 where
  pub in_cell_lem : inside ≡ true
  pub is : distance ≡ m

pub tells_distance : (inside : Bool) (m distance : ℕ) → cond inside (Some m) None ≡ Some distance
    → TellsDistance inside m distance
tells_distance true m distance e = record { in_cell_lem = refl; is = cc }
tells_distance false m distance e = record { in_cell_lem = cc; is = cc }

pub tells_outside : (inside : Bool) (m : ℕ) → cond inside (Some m) None ≡ None → inside ≡ false
tells_outside true m e = cc
tells_outside false m e = refl

module _ {l : Index} {query : Query} {k : ℕ} (is : Ready l query k) (i : ℕ) (below : i < l.n) where
  -- its code names a cell
  pub celled : names_cell l.d l.b i (length l.marks) (length l.codes) ≡ true
  celled =
      let bits : suc i * l.b ≤ l.n * l.b = mul-le-mul_right l.b below in
      names_cell_lem (record {
        shaped = is.shaped;
        few = omega (arith, is.count);
        of_marks = is.of_marks;
        there = omega (arith, bits, is.of_codes);
      })

  -- in its cell it is measured exactly
  pub measured : in_own_cell l i ≡ true
      → measured_of (factors_in query) query.components (vector_at l.d l.vectors i) ≡ distance_in l query i
  measured inside =
      let vector = vector_at l.d l.vectors i in
      let size = (place is i below).size in
      let cell : InCell l.d l.b l.marks l.codes i vector = record { components = size; inside = inside } in
      measured_exact (factors_in query) (word_small query.word) query.components is.components vector
      (cell_components l.d l.b l.marks is.marks l.codes i cell) l.d is.dimensions is.of_query size
