-- A cause that no row has is never the first, whatever the rows' tests are; nor is its number ever given. Assumes nothing.
use Rattle.std.specs.Prelude.{◌≡◌, ◌≢◌, Bool, true, false, not, ◌&&◌, List, [], ◌∷◌, ◌++◌, eqb, Err}
use Rattle.std.proofs.Common.{sym, ap, ◌∙◌, eq-eqb}
use Rattle.std.proofs.Math.Bool.{and-eq-true_iff}
use Rattle.std.proofs.lemmas.Bool.{false≢true}
use Rattle.refusal.specs.declared.Refusal.{Refusal}
use Rattle.refusal.specs.Refusal.{number_of, status_of}
use Rattle.refusal.specs.First.{Row, ◌⇒◌, first, apart}
use Rattle.refusal.proofs.Numbers.{one_verdict}

-- whether no row has the cause; no two causes have one number, so causes are told apart by theirs
unfoldable pub lacks : Refusal → List Row → Bool
lacks cause [] = true
lacks cause ((test ⇒ other) ∷ rows) = not (eqb (number_of other) (number_of cause)) && lacks cause rows

-- the first row has another cause, and no row behind it has this one
lacking : (cause other : Refusal) (rows : List Row) → not (eqb (number_of other) (number_of cause)) && lacks cause rows ≡ true
    → (not (eqb (number_of other) (number_of cause)) ≡ true) × (lacks cause rows ≡ true)
lacking cause other rows none = (and-eq-true_iff (not (eqb (number_of other) (number_of cause))) (lacks cause rows)).0 none

pub lacks_append : (cause : Refusal) (rows more : List Row) → lacks cause rows ≡ true → lacks cause more ≡ true
    → lacks cause (rows ++ more) ≡ true
unfolding lacks
lacks_append cause [] more none none_behind = none_behind
lacks_append cause ((test ⇒ other) ∷ rows) more none none_behind =
    let is = lacking cause other rows none in
    rw is.0 (lacks_append cause rows more is.1 none_behind)

pub never_first : (cause : Refusal) (rows : List Row) → lacks cause rows ≡ true → first rows ≢ Err cause
unfolding lacks first
never_first cause [] none is = apart is
never_first cause ((true ⇒ other) ∷ rows) none is =
    let same = eq-eqb (number_of other) (number_of cause) (ap status_of is) in
    false≢true (ap not (sym same) ∙ (lacking cause other rows none).0)
never_first cause ((false ⇒ other) ∷ rows) none is = never_first cause rows (lacking cause other rows none).1 is

pub never_number : (cause : Refusal) (rows : List Row) → lacks cause rows ≡ true → status_of (first rows) ≢ number_of cause
never_number cause rows none same = never_first cause rows none (one_verdict (first rows) (Err cause) same)
