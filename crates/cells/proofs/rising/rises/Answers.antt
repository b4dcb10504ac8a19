-- The chain tests each mark.
use Rattle.std.proofs.Common.{◌≡◌, ◌∙◌, ap, refl, rules, tests, arith, ℕ, ◌+◌, ◌-◌, pos, get_or}
use Rattle.std.proofs.lemmas.Iterator.{YieldsList-from_range}
use Rattle.std.proofs.lemmas.Iterator.Search.{all_from_yields_List}
use Rattle.std.specs.Int.Signed.{lt_z}
use Rattle.std.specs.List.{list_all, range_with_len}
use Rattle.cells.specs.Rising.{rises_from, rise_tests}
use Rattle.cells.proofs.Tests.{range_of}
use Rattle.cells.proofs.rising.rises.Goals as goal

pub returns : goal.returns
unfolding rises_from
returns c =
    let a = c.args in
    let n = a.start + a.count - a.start in
    let test = λ (at : ℕ). lt_z (get_or a.marks.now at (pos 0)) (get_or a.marks.now (at + 1) (pos 0)) in
    let tested : c.all.result ≡ list_all test (range_with_len a.start n) =
    all_from_yields_List test _ _ c.all.result c.all.ensures.ran (YieldsList-from_range a.start (a.start + a.count) n refl (omega arith))
    (λ at holds q call. search (rules, tests)) in
    let count : n ≡ a.count = omega arith in
    tested ∙ range_of (rise_tests a.marks.now a.start) test refl a.start n (λ k. refl) ∙ ap (rises_from a.marks.now a.start) count
