-- The factors so far, and the next. Assumes nothing.
use Rattle.std.proofs.Common.{sym, ◌∙◌, add-one, arith, take_all, take-suc-set}
use lib.Seq.{take-suc}
use lib.ListN.{length-set}
use Rattle.presence.specs.Presence.{factor_at, factors_of}
use Rattle.presence.specs.PresenceLaws.{factors_size, factor_at_lem}
use Rattle.presence.proofs.factors_of.Goals as goal

pub loop-t-preserved : goal.loop-t-preserved
unfolding factor_at
loop-t-preserved c =
    let items = c.loop-t.factor-items in
    let t = c.loop-t.t in
    let factor = factor_at_lem c.args.word t c.loop-t-test.true in (
      length-set items t (factor_at c.args.word t) ∙ c.loop-t.invariant.0,
      rw add-one (take-suc-set items t (factor_at c.args.word t) (omega arith)
          ∙ rw (c.loop-t.invariant.1, ← factor) (sym (take-suc (factors_of c.args.word) t 0 (omega (arith, factors_size c.args.word))))),
    )

pub returns : goal.returns
returns c =
    sym (take_all c.loop-t.t c.loop-t.factor-items (omega arith))
    ∙ c.loop-t.invariant.1
    ∙ take_all c.loop-t.t (factors_of c.args.word) (omega (arith, factors_size c.args.word))
