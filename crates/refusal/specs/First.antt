-- The first cause that holds. A call's causes are a list of rows, each a test and its cause, in the order in which they are tested. "Each
-- number is returned if its cause is the first to hold, and for no other reason" (document 01, the table of refusals). One more cause is
-- one more row. Assumes nothing.
use Rattle.std.specs.Prelude.{◌≡◌, refl, ℕ, Bool, true, false, cond, not, ◌||◌, List, [], ◌∷◌, ◌++◌, Result, Ok, Err, IsErrAnd}
use Rattle.std.proofs.Common.{sym, ap, ◌∙◌, arith}
use Rattle.std.proofs.lemmas.Result.{err_from_is_err_and}
use Rattle.refusal.specs.declared.Refusal.{Refusal}
use Rattle.refusal.specs.Refusal.{Verdict}

infix 20 ◌⇒◌
-- one row: where the test holds, the cause
pub data Row : Type 0 where
  ◌⇒◌ : Bool → Refusal → Row

unfoldable pub first : List Row → Verdict
first [] = Ok tt
first ((test ⇒ cause) ∷ rows) = cond test (Err cause) (first rows)

-- what a verdict leads to: the result, or what a refusal gives
abbrev pub outcome {ℓ} : {A : Type ℓ} → Verdict → A → (Refusal → A) → A
outcome (Ok tt) result refused = result
outcome (Err cause) result refused = refused cause

pub outcome_accepted {ℓ} : {A : Type ℓ} {v : Verdict} (result : A) (refused : Refusal → A) → v ≡ Ok tt → outcome v result refused ≡ result
outcome_accepted result refused e = rw e

pub outcome_refused {ℓ} : {A : Type ℓ} {v : Verdict} {cause : Refusal} (result : A) (refused : Refusal → A) → v ≡ Err cause → outcome v result refused ≡ refused cause
outcome_refused result refused e = rw e

-- what a `?` hands on
pub handed_on : {A : Type 0} {r : Result A Refusal} {cause : Refusal} → IsErrAnd r (λ other. other ≡ cause) → r ≡ Err cause
handed_on {r = r} {cause = cause} is =
    let p = err_from_is_err_and r is in
    p.1 ∙ ap Err p.2

-- whether some row's test holds
unfoldable pub any : List Row → Bool
any [] = false
any ((test ⇒ cause) ∷ rows) = test || any rows

-- ---- laws

-- nothing refuses exactly where no test holds
pub accepted_if_none : (rows : List Row) → any rows ≡ false → first rows ≡ Ok tt
unfolding first any
accepted_if_none [] none = refl
accepted_if_none ((true ⇒ cause) ∷ rows) none = cc
accepted_if_none ((false ⇒ cause) ∷ rows) none = accepted_if_none rows none

pub none_if_accepted : (rows : List Row) → first rows ≡ Ok tt → any rows ≡ false
unfolding first any
none_if_accepted [] accepted = refl
none_if_accepted ((true ⇒ cause) ∷ rows) accepted = cc
none_if_accepted ((false ⇒ cause) ∷ rows) accepted = none_if_accepted rows accepted

-- the cause is the first to hold: its row stands among the rows, its test holds, and no test before it does
pub record IsFirst (rows : List Row) (cause : Refusal) : Type 0 where
  pub before : List Row
  pub after : List Row
  pub split : rows ≡ before ++ ((true ⇒ cause) ∷ after)
  pub none_before : any before ≡ false

pub refused_by_first : (rows : List Row) (cause : Refusal) → first rows ≡ Err cause → IsFirst rows cause
unfolding first any
refused_by_first [] cause refused =
    let impossible : ◌≡◌ {A = ℕ} 0 1 = cc in
    absurd (omega arith)
refused_by_first ((true ⇒ other) ∷ rows) cause refused = record { before = []; after = rows; split = cc; none_before = refl }
refused_by_first ((false ⇒ other) ∷ rows) cause refused =
    let rest = refused_by_first rows cause refused in
    record { before = (false ⇒ other) ∷ rest.before; after = rest.after; split = cc; none_before = rest.none_before }

first_after : (before after : List Row) (cause : Refusal) → any before ≡ false → first (before ++ ((true ⇒ cause) ∷ after)) ≡ Err cause
unfolding first any
first_after [] after cause none = refl
first_after ((true ⇒ other) ∷ before) after cause none = cc
first_after ((false ⇒ other) ∷ before) after cause none = first_after before after cause none

pub first_refuses : (rows : List Row) (cause : Refusal) → IsFirst rows cause → first rows ≡ Err cause
first_refuses rows cause is = rw is.split (first_after is.before is.after cause is.none_before)

-- ---- a row at a time

-- what a function's flag says of the test that a row denies
pub told : {result test value : Bool} → result ≡ test → not result ≡ value → not test ≡ value
told is flag = ap not (sym is) ∙ flag

pub first_here : {test : Bool} (cause : Refusal) (rows : List Row) → test ≡ true → first ((test ⇒ cause) ∷ rows) ≡ Err cause
unfolding first
first_here cause rows holds = rw holds

pub first_next : {test : Bool} (cause : Refusal) (rows : List Row) → test ≡ false → first ((test ⇒ cause) ∷ rows) ≡ first rows
unfolding first
first_next cause rows fails = rw fails

-- where nothing refuses, the first test fails, and nothing behind it refuses
pub record Passed (test : Bool) (rows : List Row) : Type 0 where
  pub fails : test ≡ false
  pub rest : first rows ≡ Ok tt

pub passed : (test : Bool) (cause : Refusal) (rows : List Row) → first ((test ⇒ cause) ∷ rows) ≡ Ok tt → Passed test rows
unfolding first
passed true cause rows accepted = record { fails = cc; rest = cc }
passed false cause rows accepted = record { fails = refl; rest = accepted }

-- two lists of rows, one behind the other
pub first_append : (rows more : List Row) → first (rows ++ more) ≡ outcome (first rows) (first more) Err
unfolding first
first_append [] more = refl
first_append ((true ⇒ cause) ∷ rows) more = refl
first_append ((false ⇒ cause) ∷ rows) more = first_append rows more

pub accepted_front : (rows more : List Row) → first (rows ++ more) ≡ Ok tt → first rows ≡ Ok tt
unfolding first
accepted_front [] more accepted = refl
accepted_front ((true ⇒ cause) ∷ rows) more accepted = accepted
accepted_front ((false ⇒ cause) ∷ rows) more accepted = accepted_front rows more accepted

pub accepted_behind : (rows more : List Row) → first (rows ++ more) ≡ Ok tt → first more ≡ Ok tt
unfolding first
accepted_behind [] more accepted = accepted
accepted_behind ((true ⇒ cause) ∷ rows) more accepted = cc
accepted_behind ((false ⇒ cause) ∷ rows) more accepted = accepted_behind rows more accepted

pub first_none : first [] ≡ Ok tt
unfolding first
first_none = refl

pub apart : {cause : Refusal} → ◌≡◌ {A = Verdict} (Ok tt) (Err cause) → ⊥
apart e =
    let impossible : ◌≡◌ {A = ℕ} 0 1 = cc in
    omega arith
