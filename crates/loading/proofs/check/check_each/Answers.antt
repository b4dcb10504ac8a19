use Rattle.std.proofs.Common.{sym, ◌∙◌, drop}
use Rattle.refusal.specs.First.{first_none, handed_on}
use Rattle.library.specs.Each.{each}
use Rattle.library.specs.EachLaws.{each_more, each_stops}
use Rattle.library.specs.Library.{vector_place}
use Rattle.loading.specs.Checks.{between_causes}
use Rattle.loading.proofs.check.check_each.Goals as goal

pub loop-i-init : goal.loop-i-init
unfolding each
loop-i-init c = first_none

pub returns-in_err-check_vector : goal.returns-in_err-check_vector
returns-in_err-check_vector c =
    let args = c.args in
    handed_on c.from_residual.ensures.1
    ∙ sym (each_stops args.n (λ i. between_causes args.d args.lows.now args.highs.now (drop (vector_place args.m i) args.bytes.now)) c.loop-i.i
    c.loop-i-test.true c.loop-i.invariant (sym (rw c.vector_place.ensures at c.in_err-check_vector.ensures)))

pub loop-i-preserved : goal.loop-i-preserved
loop-i-preserved c =
    let args = c.args in
    each_more c.loop-i.i (λ i. between_causes args.d args.lows.now args.highs.now (drop (vector_place args.m i) args.bytes.now))
    c.loop-i.invariant (sym (rw c.vector_place.ensures at c.in_ok-check_vector.ensures))
