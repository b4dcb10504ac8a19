-- What a call answers whose last causes are tested behind others, and what a buffer that was lent to it holds then. Assumes nothing.
use Rattle.std.specs.Prelude.{Ok, Err}
use mathlib.Core.Path.{◌≡◌, sym, ◌∙◌}
use mathlib.Core.Bool.{Bool, true, false}
use mathlib.Core.List.{List, [], ◌∷◌, ◌++◌}
use Prim.Native.Nat.{ℕ}
use Rattle.refusal.specs.declared.Refusal.{Refusal}
use Rattle.refusal.specs.Refusal.{Verdict}
use Rattle.refusal.specs.First.{Row, ◌⇒◌, first, outcome, outcome_accepted, outcome_refused, first_here, first_next, first_append}

-- the verdict is the first cause's, and the buffer holds what is new, or what it held before
abbrev pub Answer : List Row → List ℕ → List ℕ → Verdict → List ℕ → Type 0
Answer rows old new verdict now = (verdict ≡ first rows) × (now ≡ outcome (first rows) new (λ _. old))

refuse : (rows : List Row) (old new : List ℕ) {cause : Refusal} → first rows ≡ Err cause → Answer rows old new (Err cause) old
refuse rows old new refused = (sym refused, rw refused)

-- rows that are tested behind others
module _ (rows more : List Row) (old new : List ℕ) where
  pub refused_before : {cause : Refusal} → first rows ≡ Err cause → Answer (rows ++ more) old new (Err cause) old
  refused_before refused = refuse _ old new (first_append rows more ∙ outcome_refused _ _ refused)

  pub refused_behind : {cause : Refusal} → first rows ≡ Ok tt → first more ≡ Err cause
      → Answer (rows ++ more) old new (Err cause) old
  refused_behind accepted refused = refuse _ old new (first_append rows more ∙ outcome_accepted _ _ accepted ∙ refused)

  pub accepted_both : first rows ≡ Ok tt → first more ≡ Ok tt → {now : List ℕ} → now ≡ new
      → Answer (rows ++ more) old new (Ok tt) now
  accepted_both accepted behind is =
      let none : first (rows ++ more) ≡ Ok tt = first_append rows more ∙ outcome_accepted _ _ accepted ∙ behind in
      (sym none, rw none is)

-- one row behind others
module _ (rows : List Row) (test : Bool) (last : Refusal) (old new : List ℕ) where
  pub refused_last : first rows ≡ Ok tt → test ≡ true → Answer (rows ++ ((test ⇒ last) ∷ [])) old new (Err last) old
  refused_last accepted holds = refused_behind rows _ old new accepted (first_here last [] holds)

  pub accepted_all : first rows ≡ Ok tt → test ≡ false → {now : List ℕ} → now ≡ new
      → Answer (rows ++ ((test ⇒ last) ∷ [])) old new (Ok tt) now
  unfolding first
  accepted_all accepted fails is = accepted_both rows _ old new accepted (first_next last [] fails) is
