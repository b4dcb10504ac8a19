-- The length where the numbers are accepted, and where they are not. Assumes nothing.
use Rattle.std.specs.Prelude.{◌≡◌, true, false, not, [], ◌∷◌, ℕ, Ok, Err}
use Rattle.std.proofs.Common.{sym, ◌∙◌}
use Rattle.refusal.specs.declared.Refusal.TheVariants.{Count}
use Rattle.refusal.specs.First.{◌⇒◌, first, outcome_accepted, outcome_refused}
use Rattle.limits.specs.Limits.{is_vector_count}
use Rattle.layout.specs.Stretch.{shape_causes}
use Rattle.records.specs.RowLaws.{go_on, stop}
use Rattle.library.specs.Tests.{counts_causes}
use Rattle.library.specs.Sizes.{small}
use Rattle.library.proofs.library_length.Goals as goal

-- the verdict on the counts, by the test of the number of vectors
module _ (d b n : ℕ) (passes : first (shape_causes d b) ≡ Ok tt) where
  counted : is_vector_count n ≡ true → first (counts_causes d b n) ≡ Ok tt
  unfolding first
  counted is = go_on (shape_causes d b) ((not (is_vector_count n) ⇒ Count) ∷ []) passes ∙ rw is

  not_counted : is_vector_count n ≡ false → first (counts_causes d b n) ≡ Err Count
  unfolding first
  not_counted is = go_on (shape_causes d b) ((not (is_vector_count n) ⇒ Count) ∷ []) passes ∙ rw is

pub length-requires : goal.length-requires
length-requires c =
    (small c.args.d c.args.b c.args.n (counted c.args.d c.args.b c.args.n c.in-Ok.ensures.ok.2 (sym c.is_vector_count.ensures ∙ c.if-is_vector_count.true))).few

pub returns-in-Ok : goal.returns-in-Ok
returns-in-Ok c =
    let made = c.in-Ok.ensures.ok in
    c.length.ensures
    ∙ rw (made.0, made.1)
    (sym (outcome_accepted _ _ (counted c.args.d c.args.b c.args.n made.2 (sym c.is_vector_count.ensures ∙ c.if-is_vector_count.true))))

pub returns-in_default : goal.returns-in_default
returns-in_default c =
    sym (outcome_refused _ _
    (not_counted c.args.d c.args.b c.args.n c.in-Ok.ensures.ok.2 (sym c.is_vector_count.ensures ∙ c.if-is_vector_count.false)))

pub returns-in_default-2 : goal.returns-in_default-2
returns-in_default-2 c = sym (outcome_refused _ _ (stop (shape_causes c.args.d c.args.b) _ c.in_default.ensures.err))
