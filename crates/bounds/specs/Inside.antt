-- The test whether a vector lies in a code's cell, also by runs of dimensions that have as many bits. Assumes nothing.
use Rattle.std.specs.Prelude.{◌≡◌, ℕ, zero, suc, ◌+◌, ◌-◌, ◌*◌, ◌/◌, ◌%◌, ◌^◌, ◌<◌, ◌≤◌, Bool, true, false, ◌&&◌, List, length, drop, ℤ, pos, ◌==◌, nat_le, nat_lt, slice_index_or, refl, Ok, Err}
use Rattle.std.proofs.Common.{sym, ◌∙◌, zero-add, le_refl, add-one, eqb-true, eq-eqb, leb-true, le-leb, ltb-true, lt-ltb}
use Rattle.std.proofs.Math.Bool.{and-true, and_assoc, and-eq-true_iff}
use Rattle.std.proofs.lemmas.Bool.{false≢true}
use Rattle.std.proofs.Math.Nat.{add-zero, add-suc}
use native.Mathlib.Omega.{arith}
use Rattle.std.proofs.Math.Seq.{get_or-drop}
use Rattle.refusal.specs.Refusal.{Verdict}
use Rattle.refusal.specs.First.{first, outcome, outcome_accepted}
use Rattle.limits.specs.Limits.{max_vectors}
use Rattle.layout.specs.Layout.{first_bits, first_marks, code_length}
use Rattle.layout.specs.Runs.{Run, run_marks, wide, narrow, wide_bits, wide_marks}
use Rattle.layout.specs.Stretch.{shape_causes}
use Rattle.codes.specs.Bits.{bits_at}
use Rattle.codes.specs.PackLaws.{run_region}
use Rattle.cells.specs.Cells.{in_first}
use Rattle.cells.specs.CellLaws.{between, region_test}

-- whether code i names a cell, by the lengths of the marks and of the codes: there are such numbers of dimensions and of bits, i is a
-- vector's number, the marks are as many as they must be, and the code is there
unfoldable pub names_cell : ℕ → ℕ → ℕ → ℕ → ℕ → Bool
names_cell d b i marks codes =
    outcome (first (shape_causes d b)) (nat_lt i max_vectors && (marks == first_marks d b d && nat_le (code_length b (i + 1)) codes)) (λ _. false)

-- whether code i names a cell and a vector lies in it, "every vector of d components that lie, each, in the region the code names"
abbrev pub in_cell : ℕ → ℕ → List ℤ → List ℕ → ℕ → List ℤ → Bool
in_cell d b marks codes i vector =
    names_cell d b i (length marks) (length codes) && (length vector == d && in_first d b marks codes i vector d)

-- whether the first t components of a vector do, of dimensions of w bits, whose region numbers begin at a bit of the codes, and whose
-- marks at a place of the marks buffer
unfoldable pub run_inside : List ℤ → List ℕ → ℕ → ℕ → ℕ → List ℤ → ℕ → Bool
run_inside marks codes w bit start vector zero = true
run_inside marks codes w bit start vector (suc t) =
    run_inside marks codes w bit start vector t
    && between marks (start + t * (2 ^ w + 1) + bits_at codes (bit + t * w) w) (slice_index_or vector t (pos 0))

-- ---- laws

-- what holds of code i where it names a cell
pub record Cell (d b i marks codes : ℕ) : Type 0 where
  pub shaped : first (shape_causes d b) ≡ Ok tt
  pub few : i < max_vectors
  pub of_marks : marks ≡ first_marks d b d
  pub there : suc i * b ≤ codes * 8

pub named_cell : (d b i marks codes : ℕ) → names_cell d b i marks codes ≡ true → Cell d b i marks codes
unfolding names_cell
named_cell d b i marks codes named = go (first (shape_causes d b)) refl named
  where
    among : Bool
    among = nat_lt i max_vectors && (marks == first_marks d b d && nat_le (code_length b (i + 1)) codes)

    go : (v : Verdict) → first (shape_causes d b) ≡ v → outcome v among (λ _. false) ≡ true → Cell d b i marks codes
    go (Err cause) is holds = absurd (false≢true holds)
    go (Ok _) is holds =
        let numbered = (and-eq-true_iff (nat_lt i max_vectors) _).0 holds in
        let lengths = (and-eq-true_iff (marks == first_marks d b d) (nat_le (code_length b (i + 1)) codes)).0 numbered.1 in
        let code : code_length b (i + 1) ≤ codes = leb-true (code_length b (i + 1)) codes lengths.1 in
        record {
          shaped = is;
          few = ltb-true i max_vectors numbered.0;
          of_marks = eqb-true marks (first_marks d b d) lengths.0;
          there = rw (← add-one i) (omega arith);
        }

-- and the other way round
pub names_cell_lem : {d b i marks codes : ℕ} → Cell d b i marks codes → names_cell d b i marks codes ≡ true
unfolding names_cell
names_cell_lem {d} {b} {i} {marks} {codes} is =
    let code : code_length b (i + 1) ≤ codes = rw (add-one i) (omega (arith, is.there)) in
    outcome_accepted _ _ is.shaped ∙ rw (lt-ltb i max_vectors is.few, eq-eqb _ _ is.of_marks, le-leb _ _ code)

module _ (marks : List ℤ) (codes : List ℕ) (i : ℕ) (vector : List ℤ) where
  run_inside_lem : {d b before n w : ℕ} → Run d b before n w → (t : ℕ) → t ≤ n
      → in_first d b marks codes i vector (before + t)
      ≡ in_first d b marks codes i vector before
      && run_inside marks codes w (i * b + first_bits d b before) (first_marks d b before) (drop before vector) t
  unfolding in_first run_inside
  run_inside_lem {d} {b} {before} run zero h = rw (add-zero before) (sym (and-true (in_first d b marks codes i vector before)))
  run_inside_lem {d} {b} {before} {w = w} run (suc t) h =
      rw (
        add-suc before t,
        run_inside_lem run t (omega arith),
        region_test d b marks codes i (before + t) (slice_index_or vector (before + t) (pos 0)),
        run_marks run t (omega arith),
        run_region run codes i t h,
        get_or-drop before vector t (pos 0),
      )
      (and_assoc (in_first d b marks codes i vector before) _ _)

  pub two_inside : (d b : ℕ) → b / d ≤ 6 → b % d ≤ d
      → in_first d b marks codes i vector d
      ≡ run_inside marks codes (b / d + 1) (i * b) 0 vector (b % d)
      && run_inside marks codes (b / d) (i * b + b % d * (b / d + 1)) (b % d * (2 ^ (b / d + 1) + 1)) (drop (b % d) vector) (d - b % d)
  unfolding first_bits first_marks in_first
  two_inside d b small within =
      let all : b % d + (d - b % d) ≡ d = omega arith in
      let wides : in_first d b marks codes i vector (0 + b % d) ≡ run_inside marks codes (b / d + 1) (i * b + 0) 0 vector (b % d) =
      run_inside_lem (wide d b small) (b % d) (le_refl (b % d)) in
      let first = rw (zero-add (b % d), add-zero (i * b)) at wides in
      rw (← wide_bits d b small, ← wide_marks d b small)
      (rw (all, first) at (run_inside_lem (narrow d b small) (d - b % d) (le_refl (d - b % d))))
