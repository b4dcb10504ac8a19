-- The chain tests each dimension.
use Rattle.std.proofs.Common.{◌≡◌, ◌∙◌, refl, rules, tests, arith, ℕ, ◌+◌, zero-add, add-one}
use Rattle.std.proofs.lemmas.Iterator.{YieldsList-from_range}
use Rattle.std.proofs.lemmas.Iterator.Search.{all_from_yields_List}
use Rattle.std.specs.List.{list_all, range_with_len}
use Rattle.layout.specs.Layout.{region_count, first_marks}
use Rattle.cells.specs.Rising.{rises_from, rises_first, first_tests}
use Rattle.cells.proofs.Tests.{range_of}
use Rattle.cells.proofs.rising.all_rise.Goals as goal

pub returns : goal.returns
unfolding rises_first
returns c =
    let d = c.args.layout.d in
    let b = c.args.layout.b in
    let marks = c.args.marks.now in
    let test = λ (t : ℕ). rises_from marks (first_marks d b t) (region_count d b (t + 1)) in
    let tested : c.all.result ≡ list_all test (range_with_len 0 d) =
    all_from_yields_List test _ _ c.all.result c.all.ensures.ran (YieldsList-from_range 0 d d refl (omega arith))
    (λ at holds q call. search (rules, tests)) in
    tested ∙ range_of (first_tests d b marks) test refl 0 d (λ k. rw (zero-add, add-one))
