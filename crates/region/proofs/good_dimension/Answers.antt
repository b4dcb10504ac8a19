-- Each mark's test, from the first on. Assumes nothing.
use Rattle.std.proofs.Common.{◌≡◌, refl, Bool, ◌&&◌, ◌∙◌, List, ℕ, zero, suc, ◌+◌, ℤ, pos, length, drop, get_or, arith, rules, tests, add-one, drop-cons}
use Rattle.std.proofs.Math.Bool.{and_assoc}
use Rattle.std.proofs.Math.ListN.{drop_of_length-le}
use Rattle.std.specs.List.{list_all, range_with_len}
use Rattle.std.proofs.lemmas.Iterator.{YieldsList-from_range}
use Rattle.std.proofs.lemmas.Iterator.Search.{all_from_yields_List}
use Rattle.limits.specs.Limits.{is_mark}
use Rattle.region.specs.Dimension.{not_above, good_dimension}
use Rattle.region.proofs.good_dimension.Goals as goal

abbrev good_at : List ℤ → ℕ → Bool
good_at marks i = is_mark (get_or marks i (pos 0)) && not_above (get_or marks i (pos 0)) (drop (suc i) marks)

good_from : (marks : List ℤ) (n i : ℕ) → i + n ≡ length marks → list_all (good_at marks) (range_with_len i n) ≡ good_dimension (drop i marks)
unfolding good_dimension
good_from marks zero i whole = rw (drop_of_length-le marks {i = i} (omega arith))
good_from marks (suc n) i whole =
    rw (drop-cons marks i (pos 0) (omega arith), add-one, good_from marks n (suc i) (omega arith))
    (and_assoc (is_mark (get_or marks i (pos 0))) (not_above (get_or marks i (pos 0)) (drop (suc i) marks)) (good_dimension (drop (suc i) marks)))

pub returns : goal.returns
returns c =
    let marks = c.args.marks.now in
    let count = length marks in
    all_from_yields_List (good_at marks) _ _ _ c.all.ensures.ran (YieldsList-from_range 0 count count refl (omega arith)) (λ x b q k. search (rules, tests))
    ∙ good_from marks count 0 (omega arith)
