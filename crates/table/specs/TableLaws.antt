-- What stands in a query's table, and that a code's entries sum up to its bound. Assumes nothing.
use Rattle.std.specs.Prelude.{◌≡◌, Bool, true, false, cond, ◌&&◌, List, eqb, ℤ, pos, Ok, Err}
use Rattle.std.proofs.Math.Path.{refl, ap}
use Rattle.std.proofs.Common.{sym, ◌∙◌, zero-add, add-zero, le_refl, le_of_suc-le-suc, eq-or-lt_of_le, arith, eqb-true, eq-eqb, length-append}
use Rattle.std.proofs.Math.Bool.{and-eq-true_iff}
use Rattle.std.proofs.lemmas.Bool.{false≢true}
use Rattle.std.proofs.Math.Logic.{inl, inr}
use Prim.Native.Nat.{ℕ, zero, suc, ◌+◌, ◌%◌, ◌^◌, ◌≤◌, ◌<◌}
use Rattle.std.proofs.Math.Nat.{mod-eq_of_lt}
use Rattle.std.proofs.Math.ListN.{length, get_or, get_or-append}
use Rattle.std.proofs.Math.Seq.{get_or-append-add}
use Rattle.refusal.specs.Refusal.{Verdict}
use Rattle.refusal.specs.First.{first, outcome, outcome_accepted}
use Rattle.limits.specs.Limits.{max_dimension_bits}
use Rattle.signed.specs.Components.{are_components}
use Rattle.layout.specs.Layout.{mark_count, first_marks}
use Rattle.layout.specs.Laws.{marks_le, marks_within, first_next_marks}
use Rattle.layout.specs.Stretch.{shape_causes, shape}
use Rattle.partition.specs.Marks.{dimension_marks, good_marks}
use Rattle.codes.specs.Codes.{code_region}
use Rattle.codes.specs.PackLaws.{code_region_fits}
use Rattle.step.specs.declared.Bound.{Bound}
use Rattle.step.specs.Step.{weighed_word, step_of}
use Rattle.distance.specs.Bounds.{step_to, step_at, first_weighed_bound, weighed_bound}
use Rattle.distance.specs.Small.{Factors, part_exact, region_step_small, bound_small}
use Rattle.distance.specs.Values.{values_from}
use Rattle.table.specs.Table.{max_table, has_table, steps_from, table_first, table_of, table_sum, bound_sum}

pub length_steps : (step : ℤ → ℤ → ℤ → ℕ) (factor : ℕ) (q : ℤ) (marks : List ℤ) (r n : ℕ) → length (steps_from step factor q marks r n) ≡ n
unfolding steps_from
length_steps step factor q marks r zero = refl
length_steps step factor q marks r (suc n) = ap suc (length_steps step factor q marks (suc r) n)

pub step_at_lem : (step : ℤ → ℤ → ℤ → ℕ) (factor : ℕ) (q : ℤ) (marks : List ℤ) (r n k : ℕ) → k < n
    → get_or (steps_from step factor q marks r n) k 0 ≡ weighed_word factor (step_to step q marks (r + k))
unfolding steps_from
step_at_lem step factor q marks r zero k h = absurd (omega arith)
step_at_lem step factor q marks r (suc n) zero h = rw (add-zero r)
step_at_lem step factor q marks r (suc n) (suc k) h =
    let shift : r + suc k ≡ suc r + k = omega arith in
    rw shift (step_at_lem step factor q marks (suc r) n k (omega arith))

module _ (step : ℤ → ℤ → ℤ → ℕ) (d b : ℕ) (marks : List ℤ) (factors : List ℕ) (query : List ℤ) where
  pub length_table : (t : ℕ) → length (table_first step d b marks factors query t) ≡ first_marks d b t
  unfolding table_first first_marks
  length_table zero = refl
  length_table (suc t) = simp (length-append, length_table t, length_steps)

  -- what dimension t + 1 adds by region k
  abbrev entry : ℕ → ℕ → ℕ
  entry t k = weighed_word (get_or factors t 0) (step_to step (get_or query t (pos 0)) (dimension_marks d b marks (suc t)) k)

  -- the last dimension's entries
  entry_last : (t k : ℕ) → k < mark_count d b (suc t)
      → get_or (table_first step d b marks factors query (suc t)) (first_marks d b t + k) 0 ≡ entry t k
  unfolding table_first
  entry_last t k within =
      let factor = get_or factors t 0 in
      let q = get_or query t (pos 0) in
      let part = dimension_marks d b marks (suc t) in
      ap (λ (n : ℕ). get_or (table_first step d b marks factors query (suc t)) (n + k) 0) (sym (length_table t))
      ∙ get_or-append-add (table_first step d b marks factors query t) (steps_from step factor q part 0 (mark_count d b (suc t))) k 0
      ∙ step_at_lem step factor q part 0 (mark_count d b (suc t)) k within
      ∙ rw (zero-add k)

  -- dimension t + 1's entries stand from its stretch on, in the table of the first n dimensions
  entry_at : (n t k : ℕ) → t < n → k < mark_count d b (suc t)
      → get_or (table_first step d b marks factors query n) (first_marks d b t + k) 0 ≡ entry t k
  unfolding table_first
  entry_at zero t k h within = absurd (omega arith)
  entry_at (suc n) t k h within =
      elim (eq-or-lt_of_le (le_of_suc-le-suc h)) [
        | inl e ↦ rw (← e) (entry_last t k within)
        | inr l ↦ get_or-append (table_first step d b marks factors query n) _ 0 (first_marks d b t + k) (before l) ∙ entry_at n t k l within
      ]
    where
      before : t < n → first_marks d b t + k < length (table_first step d b marks factors query n)
      before l = omega (arith, length_table n, marks_within d b n t l, first_next_marks d b t)

-- a code's entries sum up to its bound, for components, marks and factors in range
module _ (bound : Bound) (d b : ℕ) (marks : List ℤ) (factors : List ℕ) (query : List ℤ) (moderate : Factors factors)
    (components : are_components query ≡ true) (good : good_marks d b marks ≡ true) (codes : List ℕ) (i : ℕ) where
  sum_first : (t : ℕ) → t ≤ d → table_sum d b (table_of (step_of bound) d b marks factors query) codes i t
      ≡ first_weighed_bound (step_of bound) d b marks codes factors query i t
  unfolding table_sum first_weighed_bound
  sum_first zero h = refl
  sum_first (suc t) h =
      let r = code_region d b codes i t in
      let fits = code_region_fits d b codes i t in
      let small = region_step_small factors moderate query components bound d b marks good t r h in
      rw (
        sum_first t (omega arith),
        entry_at (step_of bound) d b marks factors query d t r h (omega arith),
        part_exact (get_or factors t 0) (step_at (step_of bound) d b marks codes query i t) (moderate.small t) small,
      )

  bound_sum_lem : first (shape_causes d b) ≡ Ok tt
      → bound_sum d b (table_of (step_of bound) d b marks factors query) codes i ≡ weighed_bound (step_of bound) d b marks codes factors query i
  unfolding bound_sum
  bound_sum_lem shaped =
      ap (λ (n : ℕ). n % 2 ^ 64) (sum_first d (le_refl d))
      ∙ mod-eq_of_lt (bound_small factors moderate query components bound d b marks good codes i (shape d b shaped).few)

-- functions that agree have the same values
pub values_agree : (f g : ℕ → ℕ) → ((j : ℕ) → f j ≡ g j) → (i n : ℕ) → values_from f i n ≡ values_from g i n
unfolding values_from
values_agree f g agree i zero = refl
values_agree f g agree i (suc n) = rw (agree i, values_agree f g agree (suc i) n)

-- so the sums of n codes are their bounds
pub bounds_sum : (bound : Bound) (d b : ℕ) (marks : List ℤ) (factors : List ℕ) (query : List ℤ) (codes : List ℕ) (n : ℕ) → Factors factors
    → first (shape_causes d b) ≡ Ok tt → are_components query ≡ true → good_marks d b marks ≡ true
    → values_from (bound_sum d b (table_of (step_of bound) d b marks factors query) codes) 0 n
    ≡ values_from (weighed_bound (step_of bound) d b marks codes factors query) 0 n
bounds_sum bound d b marks factors query codes n moderate shaped components good =
    values_agree _ _ (λ i. bound_sum_lem bound d b marks factors query moderate components good codes i shaped) 0 n

-- what holds where marks and a table have their lengths
pub record Lengths (d b marks table : ℕ) : Type 0 where
  pub shaped : first (shape_causes d b) ≡ Ok tt
  pub of_marks : marks ≡ first_marks d b d
  pub of_table : table ≡ first_marks d b d

pub table_lengths : (d b marks table : ℕ) → has_table d b marks table ≡ true → Lengths d b marks table
unfolding has_table
table_lengths d b marks table is = go (first (shape_causes d b)) refl is
  where
    both : Bool
    both = eqb marks (first_marks d b d) && eqb table (first_marks d b d)

    go : (v : Verdict) → first (shape_causes d b) ≡ v → outcome v both (λ _. false) ≡ true → Lengths d b marks table
    go (Ok _) shaped exact =
        let lengths = (and-eq-true_iff (eqb marks (first_marks d b d)) (eqb table (first_marks d b d))).0 exact in
        record { shaped = shaped; of_marks = eqb-true _ _ lengths.0; of_table = eqb-true _ _ lengths.1 }
    go (Err cause) shaped exact = absurd (false≢true exact)

-- there the table is filled
pub is_filled : (d b marks table : ℕ) (full old : List ℕ) → first (shape_causes d b) ≡ Ok tt → marks ≡ first_marks d b d → table ≡ marks
    → cond (has_table d b marks table) full old ≡ full
unfolding has_table
is_filled d b marks table full old shaped of_marks same =
    let there : has_table d b marks table ≡ true =
    outcome_accepted _ _ shaped ∙ rw (eq-eqb _ _ of_marks, eq-eqb _ _ (same ∙ of_marks)) in
    rw there

-- a table is no longer than the longest
pub table_le : (d b : ℕ) → first (shape_causes d b) ≡ Ok tt → first_marks d b d ≤ max_table
table_le d b shaped =
    let told = shape d b shaped in
    omega (arith, marks_le max_dimension_bits d b d told.some told.bits, told.few)
