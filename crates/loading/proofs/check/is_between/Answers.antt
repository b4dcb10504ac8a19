use Rattle.std.proofs.Common.{rules, tests, pos, get_or, drop, ◌∙◌, refl, arith}
use Rattle.std.proofs.lemmas.Iterator.{YieldsList-from_range}
use Rattle.std.proofs.lemmas.Iterator.Search.{all_from_yields_List}
use Rattle.library.specs.Library.{stored_at}
use Rattle.library.specs.Ends.{lies, between}
use Rattle.library.proofs.Ranges.{all_below}
use Rattle.loading.proofs.check.is_between.Goals as goal

pub returns : goal.returns
unfolding between
returns c =
    let component = stored_at (drop c.args.at c.args.bytes.now) in
    let lows = c.args.lows.now in
    let highs = c.args.highs.now in
    all_from_yields_List (λ t. lies (get_or lows t (pos 0)) (component t) (get_or highs t (pos 0))) _ _ c.all.result
    c.all.ensures.ran (YieldsList-from_range 0 c.args.d c.args.d refl (omega arith)) (λ t holds q call. search (rules, tests))
    ∙ all_below c.args.d (λ t. lies (get_or lows t (pos 0)) (component t) (get_or highs t (pos 0)))
