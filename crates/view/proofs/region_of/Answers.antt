-- `region_of` meets its contract: the view's lookup gives the region wherever there is one; where it refuses, so does the part, or the value
-- lies outside the marks. Assumes nothing.
use Rattle.std.specs.Prelude.{Ok, Err, Result}
use Rattle.std.proofs.Common.{◌≡◌, refl, sym, ap, ◌∙◌, Bool, true, false, not, List, [], ◌∷◌, ℕ, ◌+◌, ℤ, length, arith, eq-eqb, w32}
use Rattle.std.proofs.lemmas.Int.{to_z-of_z}
use Rattle.std.proofs.lemmas.Result.{err_from_is_err_and}
use Rattle.refusal.specs.declared.Refusal.{Refusal}
use Rattle.refusal.specs.declared.Refusal.TheVariants.{Bits, Length, Mark, Outside}
use Rattle.refusal.specs.Refusal.{Verdict}
use Rattle.refusal.specs.First.{◌⇒◌, first, outcome, first_here, first_next, first_none, first_append}
use Rattle.layout.specs.Layout.{region_count}
use Rattle.region.specs.Region.{region_of, in_marks}
use Rattle.region.specs.RegionCount.{is_power, is_region_count}
use Rattle.region.specs.Lookup.{region_causes, looked_up}
use Rattle.partition.specs.Marks.{dimension_marks}
use Rattle.partition.specs.MarksCauses.{part_causes}
use Rattle.partition.specs.Parts.{seen_marks}
use Rattle.view.specs.View.{seen_regions, value_causes, part_is}
use Rattle.view.proofs.region_of.Goals as goal

no_regions : not (is_region_count 0) ≡ true
unfolding is_power
no_regions = refl

module _ (d b : ℕ) (marks : List ℤ) (j : ℕ) (v : ℤ) where
  abbrev part : List ℤ
  part = dimension_marks d b marks j

  abbrev seen : Result ℕ Refusal
  seen = looked_up (seen_marks d b marks j) (seen_regions d b marks j) v

  -- A verdict of the value alone gives this answer.
  abbrev told : Verdict → Result ℕ Refusal
  told verdict = outcome verdict (Ok (region_of part v)) Err

  abbrev value : Verdict
  value = first ((not (in_marks part v) ⇒ Outside) ∷ [])

  -- In a part that is handed back, only the value is left to refuse.
  alone : first (part_causes d b marks j) ≡ Ok tt → first (region_causes part (region_count d b j) v) ≡ value
  alone accepted =
      let is = part_is d b marks j accepted in
      first_next Bits _ (ap not is.counted)
      ∙ (first_next Length _ (ap not (eq-eqb (length part) (region_count d b j + 1) is.exact))
      ∙ first_next Mark _ (ap not is.good))

  seen_accepted : first (part_causes d b marks j) ≡ Ok tt → seen ≡ told value
  seen_accepted accepted = rw (accepted, alone accepted)

  -- A view that was refused has no regions, so a lookup in it refuses.
  seen_refused : {cause : Refusal} → first (part_causes d b marks j) ≡ Err cause → seen ≡ Err Bits
  seen_refused refused = rw refused
      (ap (λ (w : Verdict). outcome w (Ok (region_of [] v)) Err) (first_here Bits _ no_regions))

  told_accepted : first (part_causes d b marks j) ≡ Ok tt → told (first (value_causes d b marks j v)) ≡ told value
  told_accepted accepted = rw (first_append (part_causes d b marks j) ((not (in_marks part v) ⇒ Outside) ∷ []), accepted)

  told_refused : {cause : Refusal} → first (part_causes d b marks j) ≡ Err cause
      → told (first (value_causes d b marks j v)) ≡ Err cause
  told_refused refused = rw (first_append (part_causes d b marks j) ((not (in_marks part v) ⇒ Outside) ∷ []), refused)

  -- What the lookup finds is the region.
  found : {number : ℕ} → seen ≡ Ok number → Ok number ≡ told (first (value_causes d b marks j v))
  found {number} is = go (first (part_causes d b marks j)) refl
    where
      go : (verdict : Verdict) → first (part_causes d b marks j) ≡ verdict → Ok number ≡ told (first (value_causes d b marks j v))
      go (Ok _) e = sym is ∙ (seen_accepted e ∙ sym (told_accepted e))
      go (Err cause) e =
          let refused = seen_refused e in
          let impossible : ◌≡◌ {A = ℕ} 0 1 = cc in
          absurd (omega arith)

  -- Where the lookup finds no region in a part that is handed back, the value lies outside.
  outside : {cause : Refusal} → seen ≡ Err cause → first (part_causes d b marks j) ≡ Ok tt
      → Err Outside ≡ told (first (value_causes d b marks j v))
  outside {cause} is accepted = go (in_marks part v) refl ∙ sym (told_accepted accepted)
    where
      go : (inside : Bool) → in_marks part v ≡ inside → Err Outside ≡ told value
      go true e =
          let region : told value ≡ Ok (region_of part v) = ap told (first_next Outside [] (ap not e) ∙ first_none) in
          let refused : told value ≡ Err cause = sym (seen_accepted accepted) ∙ is in
          let impossible : ◌≡◌ {A = ℕ} 0 1 = cc in
          absurd (omega arith)
      go false e = sym (ap told (first_here Outside [] (ap not e)))

pub returns-in-Ok : goal.returns-in-Ok
returns-in-Ok c =
    let a = c.args in
    let same = ap (seen a.d a.b a.marks.now a.j) (to_z-of_z w32 a.v c.ranges.v) in
    found a.d a.b a.marks.now a.j a.v (sym (c.in-Ok.ensures ∙ same))

pub returns-in_ok-check_part-in-Err : goal.returns-in_ok-check_part-in-Err
returns-in_ok-check_part-in-Err c =
    let a = c.args in
    let same = ap (seen a.d a.b a.marks.now a.j) (to_z-of_z w32 a.v c.ranges.v) in
    outside a.d a.b a.marks.now a.j a.v (sym (c.in-Err.ensures ∙ same)) (sym c.in_ok-check_part-in-Err.ensures)

pub returns-in_err-check_part-in-Err : goal.returns-in_err-check_part-in-Err
returns-in_err-check_part-in-Err c =
    let a = c.args in
    let p = err_from_is_err_and c.from_residual.result c.from_residual.ensures.1 in
    rw (p.1, p.2) (sym (told_refused a.d a.b a.marks.now a.j a.v (sym c.in_err-check_part-in-Err.ensures)))
