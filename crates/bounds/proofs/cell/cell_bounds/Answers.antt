-- Where nothing refuses, the bounds are asked for with what they take.
use Rattle.std.specs.Prelude.{◌≡◌, ℕ, List, length, ℤ, Ok}
use Rattle.std.proofs.Common.{sym, ◌∙◌}
use Rattle.refusal.specs.First.{first, outcome_accepted, first_append}
use Rattle.layout.specs.declared.Layout.{Layout}
use Rattle.layout.specs.Stretch.{shape_causes}
use Rattle.distance.specs.Small.{word_small}
use Rattle.bounds.specs.Bounded.{shaped_bounds_causes, Bounded, bounded}
use Rattle.bounds.proofs.cell.cell_bounds.Goals as goal

told : (d b n word : ℕ) (query marks : List ℤ) (codes : List ℕ) (lowers uppers : ℕ) (l : Layout)
    → (l.d ≡ d) × (l.b ≡ b) × (first (shape_causes d b) ≡ Ok tt)
    → first (shaped_bounds_causes l.d l.b n word query marks codes lowers uppers) ≡ Ok tt
    → Bounded l.d l.b n query marks codes lowers uppers
told d b n word query marks codes lowers uppers l is accepted =
    let shaped = rw (← is.0, ← is.1) at is.2 in
    bounded l.d l.b n word query marks codes lowers uppers
    (first_append (shape_causes l.d l.b) (shaped_bounds_causes l.d l.b n word query marks codes lowers uppers)
    ∙ outcome_accepted _ _ shaped ∙ accepted)

pub fill_bounds-requires : goal.fill_bounds-requires
fill_bounds-requires c =
    let a = c.args in
    let is =
    told a.d a.b a.n a.word a.query.now a.marks.now a.codes.now (length a.lowers.now) (length a.uppers.now) c.in_ok-layout.layout
    c.in_ok-layout.ensures.ok (sym c.check_bounds.ensures ∙ c.in_ok-check_bounds.was) in
    (rw is.of_lowers is.are, rw c.factors_of-factors.ensures (word_small c.args.word))

pub fill_bounds-requires-2 : goal.fill_bounds-requires-2
fill_bounds-requires-2 c =
    let a = c.args in
    let is =
    told a.d a.b a.n a.word a.query.now a.marks.now a.codes.now (length a.lowers.now) (length a.uppers.now) c.in_ok-layout.layout
    c.in_ok-layout.ensures.ok (sym c.check_bounds.ensures ∙ c.in_ok-check_bounds.was) in
    (rw is.of_uppers is.are, rw c.factors_of-factors.ensures (word_small c.args.word))
