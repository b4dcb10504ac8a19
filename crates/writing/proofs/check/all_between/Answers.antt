-- `all_between` meets its contract: the chain tests each vector's number. Assumes nothing.
use Rattle.std.proofs.Common.{◌∙◌, refl, arith, rules, tests, ◌+◌, ◌*◌, pos, get_or}
use Rattle.std.proofs.lemmas.Iterator.{YieldsList-from_range}
use Rattle.std.proofs.lemmas.Iterator.Search.{all_from_yields_List}
use Rattle.library.specs.Ends.{between}
use Rattle.library.proofs.Ranges.{all_below}
use Rattle.writing.proofs.check.all_between.Goals as goal

pub returns : goal.returns
returns c =
    let lows = c.args.lows.now in
    let highs = c.args.highs.now in
    let numbers = c.args.components.now in
    all_from_yields_List (λ i. between c.args.d lows highs (λ t. get_or numbers (i * c.args.d + t) (pos 0))) _ _ c.all.result
    c.all.ensures.ran (YieldsList-from_range 0 c.args.n c.args.n refl (omega arith)) (λ i holds q call. search (rules, tests))
    ∙ all_below c.args.n (λ i. between c.args.d lows highs (λ t. get_or numbers (i * c.args.d + t) (pos 0)))
