-- `copy` meets its contract: so many bytes are copied. Assumes nothing.
use Rattle.std.proofs.Common.{◌≡◌, List, ◌++◌, ℕ, suc, ◌+◌, ◌<◌, length, take, drop, get_or, set, arith, add-one, zero-add}
use lib.Seq.{paste-suc}
use Rattle.splicing.proofs.copy.Goals as goal

copies : (front out : List ℕ) (i : ℕ) → i < length front → i < length out
    → set (take i front ++ drop i out) i (get_or front i 0) ≡ take (i + 1) front ++ drop (i + 1) out
copies front out i has room =
    rw (add-one i) (rw (zero-add i, zero-add (suc i)) at (paste-suc out 0 front i 0 (rw (zero-add i) room) has))

pub loop-i-preserved : goal.loop-i-preserved
loop-i-preserved c =
    let a = c.args in
    rw c.loop-i.invariant (copies a.front.now a.out.now c.loop-i.i (omega (arith, c.requires.0)) (omega (arith, c.requires.1)))

pub returns : goal.returns
returns c =
    let all : c.loop-i.i ≡ c.args.count = omega arith in
    rw all at c.loop-i.invariant
