use Rattle.std.proofs.Common.{rules, tests, suc, ◌-◌, drop, eqb, ◌∙◌, refl}
use Rattle.std.proofs.lemmas.Iterator.{YieldsList-from_range}
use Rattle.std.proofs.lemmas.Iterator.Search.{all_from_yields_List}
use Rattle.limits.specs.Limits.{max_dimensions}
use Rattle.records.specs.Records.{vector_kind, value_of}
use Rattle.library.proofs.Ranges.{all_from}
use Rattle.loading.specs.Load.{zero_beyond}
use Rattle.loading.proofs.check.is_zero_beyond.Goals as goal

pub returns : goal.returns
unfolding zero_beyond
returns c =
    let rest = drop c.args.at c.args.bytes.now in
    all_from_yields_List (λ t. eqb (value_of vector_kind (suc t) rest) 0) _ _ c.all.result c.all.ensures.ran
    (YieldsList-from_range c.args.d max_dimensions (max_dimensions - c.args.d) refl refl) (λ t holds q call. search (rules, tests))
    ∙ all_from c.args.d max_dimensions (λ t. eqb (value_of vector_kind (suc t) rest) 0)
