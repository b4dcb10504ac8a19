-- `is_between` meets its contract: a turn adds the test of one component. Assumes nothing.
use Rattle.std.proofs.Common.{◌≡◌, refl, sym, ◌∙◌, Bool, ℕ, ◌+◌, pos, w32, get_or, arith}
use Rattle.std.proofs.lemmas.Int.{to_z-of_z}
use Rattle.library.specs.Each.{every}
use Rattle.library.specs.EachLaws.{every_next}
use Rattle.library.specs.Ends.{lies, between}
use Rattle.writing.proofs.check.is_between.Goals as goal

pub loop-t-init : goal.loop-t-init
unfolding every
loop-t-init c = refl

pub loop-t-preserved : goal.loop-t-preserved
loop-t-preserved c =
    let t = c.loop-t.t in
    let low = get_or c.args.lows.now t (pos 0) in
    let z = get_or c.args.components.now (c.args.from + t) (pos 0) in
    let high = get_or c.args.highs.now t (pos 0) in
    let test : ℕ → Bool =
    λ t. lies (get_or c.args.lows.now t (pos 0)) (get_or c.args.components.now (c.args.from + t) (pos 0)) (get_or c.args.highs.now t (pos 0)) in
    let here : c.lies-inside.result ≡ lies low z high =
    c.lies-inside.ensures
    ∙ rw (
      to_z-of_z w32 low (record { sfits = omega arith }),
      to_z-of_z w32 z (record { sfits = omega arith }),
      to_z-of_z w32 high (record { sfits = omega arith }),
    ) in
    rw (c.loop-t.invariant, here) (sym (every_next t test))

pub returns : goal.returns
unfolding between
returns c =
    let all : c.loop-t.t ≡ c.args.d = omega arith in
    rw all at c.loop-t.invariant
