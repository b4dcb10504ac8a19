-- 8 never occurs in adding to a library whose outer marks are at the ends of the scale. Assumes nothing.
use Rattle.std.specs.Prelude.{◌≡◌, refl, Bool, true, false, not, ◌&&◌, List, [], ◌∷◌, ◌≤◌, eqb, ℤ, Err}
use Rattle.std.proofs.Common.{sym, ap, ◌∙◌}
use Rattle.std.proofs.Math.Bool.{and-eq-true_iff}
use Rattle.std.proofs.lemmas.Bool.{not-false, eqb-false}
use Rattle.refusal.specs.declared.Refusal.{Refusal}
use Rattle.refusal.specs.declared.Refusal.TheVariants.{Dimension, Bits, Count, Length, Component, Mark, Outside, Code, Full}
use Rattle.refusal.specs.Refusal.{number_of, status_of}
use Rattle.refusal.specs.First.{Row, ◌⇒◌, first, first_next, first_none, apart}
use Rattle.limits.specs.Limits.{max_dimensions, is_dimension_count}
use Rattle.limits.specs.Tests.{between}
use Rattle.signed.specs.Components.{are_components}
use Rattle.approximation.specs.Vectors.{vectors_inside}
use Rattle.updating.specs.declared.Lengths.{Lengths}
use Rattle.updating.specs.Updated.{CodedLibrary}
use Rattle.updating.specs.UpdateCauses.{add_causes}
use Rattle.updated.specs.OuterMarks.{EndsOfScale, all_inside}

-- ---- no row refuses for 8

-- where 8 is the verdict, a row of another cause fails, and 8 is that of the rows behind it
record Behind (test : Bool) (rows : List Row) : Type 0 where
  pub fails : test ≡ false
  pub rest : first rows ≡ Err Outside

behind : (test : Bool) (cause : Refusal) (rows : List Row) → eqb (number_of cause) (number_of Outside) ≡ false
    → first ((test ⇒ cause) ∷ rows) ≡ Err Outside → Behind test rows
unfolding first
behind true cause rows other refused = absurd (eqb-false (number_of cause) (number_of Outside) other (ap status_of refused))
behind false cause rows other refused = record { fails = refl; rest = refused }

pub never_outside : (l : CodedLibrary) → EndsOfScale l.d l.b l.marks → (vector : List ℤ) (room : Lengths)
    → ¬ (first (add_causes l vector room) ≡ Err Outside)
never_outside l ends vector room refused =
    let dimensions = behind (not (is_dimension_count l.d)) Dimension _ refl refused in
    let bits = behind _ Bits _ refl dimensions.rest in
    let count = behind _ Count _ refl bits.rest in
    let lengths = behind _ Length _ refl count.rest in
    let more = behind _ Length _ refl lengths.rest in
    let full = behind _ Full _ refl more.rest in
    let components = are_components l.vectors && are_components vector in
    let range = behind (not components) Component _ refl full.rest in
    let good = behind _ Mark _ refl range.rest in
    let some : 1 ≤ l.d = (between 1 l.d max_dimensions (not-false (is_dimension_count l.d) dimensions.fails)).above in
    let are = (and-eq-true_iff (are_components l.vectors) (are_components vector)).0 (not-false components range.fails) in
    let inside : not (vectors_inside l.d l.b l.marks l.vectors && vectors_inside l.d l.b l.marks vector) ≡ false =
    rw (all_inside ends some l.vectors are.0, all_inside ends some vector are.1) in
    let coded = behind _ Code [] refl (sym (first_next Outside _ inside) ∙ good.rest) in
    apart (sym first_none ∙ coded.rest)
