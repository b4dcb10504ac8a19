use Rattle.std.specs.Prelude.{Ok}
use Rattle.std.proofs.Common.{◌≡◌, ℕ, suc, ◌+◌, List, sym, ap₂, ◌∙◌, arith}
use Rattle.refusal.specs.Refusal.{Verdict}
use Rattle.refusal.specs.First.{Row, first, first_none, handed_on}
use Rattle.layout.specs.Layout.{mark_count, first_marks}
use Rattle.library.specs.Each.{each}
use Rattle.library.specs.Sizes.{EndsAt, stretch_bits, ends_at}
use Rattle.library.specs.EachLaws.{each_more, each_stops}
use Rattle.loading.specs.Load.{mark_causes}
use Rattle.loading.proofs.check.check_marks.Goals as goal

-- the causes of dimension t + 1
abbrev causes : List ℕ → ℕ → ℕ → ℕ → List Row
causes bytes d b t = each (mark_count d b (suc t)) (mark_causes bytes (first_marks d b t))

-- those that a turn of the loop finds
found : {verdict : Verdict} {d b t from : ℕ} (bytes : List ℕ) (regions : ℕ) → EndsAt d b t from (from + regions)
    → verdict ≡ first (each (regions + 1) (mark_causes bytes from)) → verdict ≡ first (causes bytes d b t)
found {d = d} {b = b} {t = t} bytes regions ends is =
    let count : regions + 1 ≡ mark_count d b (suc t) = omega (arith, ends.first_is, ends.last_is) in
    is ∙ ap₂ (λ (m from : ℕ). first (each m (mark_causes bytes from))) count ends.first_is

pub loop-t-init : goal.loop-t-init
unfolding each
loop-t-init c = first_none

pub regions-requires : goal.regions-requires
regions-requires c = stretch_bits c.args.layout c.loop-t.t c.loop-t-test.true c.stretch-stretch.ensures.bits

pub overflow_add-regions : goal.overflow_add-regions
overflow_add-regions c =
    let step = c.stretch-stretch.ensures in
    let ends = ends_at c.args.layout c.loop-t.t c.loop-t-test.true step.bits step.offset c.regions.ensures in
    omega (arith, ends.within, ends.small)

pub check_dimension-requires : goal.check_dimension-requires
check_dimension-requires c =
    let step = c.stretch-stretch.ensures in
    let ends = ends_at c.args.layout c.loop-t.t c.loop-t-test.true step.bits step.offset c.regions.ensures in
    omega (arith, ends.within, ends.small)

pub returns-in_err-check_dimension : goal.returns-in_err-check_dimension
returns-in_err-check_dimension c =
    let layout = c.args.layout in
    let step = c.stretch-stretch.ensures in
    let ends = ends_at layout c.loop-t.t c.loop-t-test.true step.bits step.offset c.regions.ensures in
    handed_on c.from_residual.ensures.1
    ∙ rw (c.requires.d_is, c.requires.b_is)
    (sym (each_stops layout.d (causes c.args.bytes.now layout.d layout.b) c.loop-t.t c.loop-t-test.true c.loop-t.invariant
    (sym (found c.args.bytes.now c.regions.result ends c.in_err-check_dimension.ensures))))

pub loop-t-preserved : goal.loop-t-preserved
loop-t-preserved c =
    let layout = c.args.layout in
    let step = c.stretch-stretch.ensures in
    let ends = ends_at layout c.loop-t.t c.loop-t-test.true step.bits step.offset c.regions.ensures in
    each_more c.loop-t.t (causes c.args.bytes.now layout.d layout.b) c.loop-t.invariant
    (sym (found c.args.bytes.now c.regions.result ends c.in_ok-check_dimension.ensures))

pub returns : goal.returns
returns c =
    let layout = c.args.layout in
    let all : c.loop-t.t ≡ layout.d = omega arith in
    let passes : first (each layout.d (causes c.args.bytes.now layout.d layout.b)) ≡ Ok tt = rw all at c.loop-t.invariant in
    rw (c.requires.d_is, c.requires.b_is) (sym passes)
