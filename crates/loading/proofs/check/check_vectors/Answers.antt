use Rattle.std.proofs.Common.{ap, ◌∙◌, arith}
use Rattle.refusal.specs.First.{first}
use Rattle.library.specs.Sizes.{layout_marks}
use Rattle.loading.specs.Checks.{vectors_between}
use Rattle.loading.proofs.check.check_vectors.Goals as goal

pub check_each-requires : goal.check_each-requires
check_each-requires c =
    let layout = c.args.head.layout in
    let kept = c.read_ends.auto in (
      record { few = layout.few; low = omega (arith, layout.few, kept.lows); high = omega (arith, layout.few, kept.highs) },
      omega (arith, c.marks_length-m.ensures, layout_marks layout.d layout.b layout.some layout.few layout.within),
      omega (arith, c.requires.few),
    )

pub returns : goal.returns
returns c =
    c.check_each.ensures
    ∙ ap first (vectors_between c.args.bytes.now c.requires c.marks_length-m.ensures
    (record { rest = _; rest' = _; lows_are = c.read_ends.ensures.lows_after; highs_are = c.read_ends.ensures.highs_after }))
