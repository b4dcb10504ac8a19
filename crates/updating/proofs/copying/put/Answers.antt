-- `put` meets its contract: one more element is copied in each turn. Assumes nothing.
use Rattle.std.proofs.Common.{◌≡◌, ap, ◌∙◌, List, ℕ, ◌+◌, ◌≤◌, ◌<◌, length, get_or, set, arith, add-one}
use lib.Seq.{paste, paste-suc}
use Rattle.updating.proofs.copying.put.Goals as goal

one_more : {A : Type 0} (before from out : List A) (at i : ℕ) (x : A) → at + length from ≤ length before → i < length from
    → out ≡ paste before at from i
    → x ≡ get_or from i x
    → set out (at + i) x ≡ paste before at from (i + 1)
one_more before from out at i x fits more so_far is =
    ap (set out (at + i)) is ∙ rw (so_far, add-one i) (paste-suc before at from i x (omega arith) more)

pub loop-i-preserved : goal.loop-i-preserved
loop-i-preserved g c =
    let a = c.args in
    one_more a.out.now a.from.now c.loop-i.out a.at c.loop-i.i c.index-from-i.result c.requires c.loop-i-test.true c.loop-i.invariant c.index-from-i.is
