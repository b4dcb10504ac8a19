-- Each dimension's test, from the first on. Assumes nothing.
use Rattle.std.proofs.Common.{◌≡◌, refl, Bool, ◌&&◌, sym, ap, ◌∙◌, List, ℕ, zero, suc, ◌+◌, ◌<◌, ℤ, ◌^◌, arith, rules, tests, add-one, add-zero, zero-add}
use mathlib.Core.Bool.{and-true, and_assoc}
use Rattle.std.specs.List.{list_all, range_with_len}
use Rattle.std.proofs.lemmas.Iterator.{YieldsList-from_range, serves_from_Range}
use Rattle.std.proofs.lemmas.Iterator.Search.{all_from_yields_List}
use Rattle.region.specs.Dimension.{good_dimension}
use Rattle.partition.specs.Marks.{dimension_marks, good_first}
use Rattle.partition.proofs.good_marks.Goals as goal

abbrev good_at : ℕ → ℕ → List ℤ → ℕ → Bool
good_at d b marks j = good_dimension (dimension_marks d b marks (j + 1))

-- the first j, and n behind them, are the first j + n
good_from : (d b : ℕ) (marks : List ℤ) (n j : ℕ)
    → good_first d b marks j && list_all (good_at d b marks) (range_with_len j n) ≡ good_first d b marks (j + n)
unfolding good_first
good_from d b marks zero j = and-true (good_first d b marks j) ∙ rw (add-zero j)
good_from d b marks (suc n) j =
    let rest = list_all (good_at d b marks) (range_with_len (j + 1) n) in
    let next : suc j + n ≡ j + suc n = omega arith in
    sym (and_assoc (good_first d b marks j) (good_at d b marks j) rest)
    ∙ rw add-one (good_from d b marks n (suc j))
    ∙ ap (good_first d b marks) next

pub all-requires-clause-callable : goal.all-requires-clause-callable
all-requires-clause-callable c =
    serves_from_Range (λ x q h. search rules) (λ x above below.
    let few : x + 1 < 2 ^ 64 = omega (arith, c.args.layout.few) in
    let size = c.requires in
    search rules)

pub returns : goal.returns
unfolding good_first
returns c =
    let d = c.args.layout.d in
    let b = c.args.layout.b in
    let marks = c.args.marks.now in
    all_from_yields_List (good_at d b marks) _ _ c.all.result c.all.ensures.ran (YieldsList-from_range 0 d d refl (omega arith)) (λ x b q k. search (rules, tests))
    ∙ good_from d b marks d 0
    ∙ ap (good_first d b marks) (zero-add d)
