-- The chain tests each place.
use Rattle.std.proofs.Common.{◌≡◌, ◌∙◌, refl, rules, tests, arith, ℕ, ◌+◌, ◌≤◌, pos, get_or}
use Rattle.std.specs.Int.Signed.{lt_z}
use Rattle.std.specs.List.{list_all}
use Rattle.std.proofs.lemmas.Iterator.{YieldsList-from_slice}
use Rattle.std.proofs.lemmas.Iterator.Search.{all_from_yields_List}
use Rattle.std.proofs.lemmas.Iterator.Adapters.{serves_from_places}
use Rattle.std.proofs.lemmas.List.{get_or_default}
use Rattle.limits.specs.Tests.{All}
use Rattle.cells.specs.CellLaws.{rise_at}
use Rattle.cells.proofs.Tests.{each_of}
use Rattle.cells.proofs.rise_at.Goals as goal

pub all-requires-clause-callable : goal.all-requires-clause-callable
all-requires-clause-callable c =
    let places = c.args.places.now in
    serves_from_places (YieldsList-from_slice places cc) (λ x q k. search rules)
    (λ x k within is.
    let small : x.now ≤ 4096 = omega (arith, is, get_or_default places k x.now 0 within, c.requires.each k) in
    search rules)

pub returns : goal.returns
unfolding rise_at
returns c =
    let marks = c.args.marks.now in
    let places = c.args.places.now in
    let test = λ (at : ℕ). lt_z (get_or marks at (pos 0)) (get_or marks (at + 1) (pos 0)) in
    let tested : c.all.result ≡ list_all test places =
    all_from_yields_List test _ _ c.all.result c.all.ensures.ran (YieldsList-from_slice places cc)
    (λ at holds q call. search (rules, tests)) in
    let each : All (rise_at marks places) (λ t. test (get_or places t 0)) = record { next = λ t. refl } in
    tested ∙ each_of each test refl places (λ k within. refl)
