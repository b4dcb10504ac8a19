-- The chain tests each code.
use Rattle.std.proofs.Common.{◌≡◌, ◌∙◌, refl, rules, tests, arith, ℕ, zero-add}
use Rattle.std.proofs.lemmas.Iterator.{YieldsList-from_range}
use Rattle.std.proofs.lemmas.Iterator.Search.{all_from_yields_List}
use Rattle.std.specs.List.{list_all, range_with_len}
use Rattle.limits.specs.Tests.{All}
use Rattle.cells.specs.Cells.{none_empty, no_empty_codes}
use Rattle.cells.proofs.Tests.{range_of}
use Rattle.cells.proofs.look_at_codes.Goals as goal

pub returns : goal.returns
unfolding no_empty_codes
returns c =
    let a = c.args in
    let test = λ (i : ℕ). none_empty a.layout.d a.layout.b a.marks.now a.codes.now i a.layout.d in
    let tested : c.all.result ≡ list_all test (range_with_len 0 a.n) =
    all_from_yields_List test _ _ c.all.result c.all.ensures.ran (YieldsList-from_range 0 a.n a.n refl (omega arith))
    (λ at holds q call. search (rules, tests)) in
    let each : All (no_empty_codes a.layout.d a.layout.b a.marks.now a.codes.now) test = record { next = λ i. refl } in
    tested ∙ range_of each test refl 0 a.n (λ k. rw zero-add)
