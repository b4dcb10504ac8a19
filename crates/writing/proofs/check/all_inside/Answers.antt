-- `all_inside` meets its contract: a vector lies inside the marks where it lies between their ends. Assumes nothing.
use Rattle.std.proofs.Common.{refl, sym, ◌∙◌, ◌+◌, ◌*◌, pos, get_or, arith}
use Rattle.library.specs.EachLaws.{every_same}
use Rattle.library.specs.Ends.{EndMarks, inside_between}
use Rattle.writing.proofs.check.all_inside.Goals as goal

pub fill_ends-requires : goal.fill_ends-requires
fill_ends-requires c = (c.requires.of_marks.marks_count, c.args.layout.few, c.args.layout.few)

pub all_between-requires : goal.all_between-requires
all_between-requires c =
    let few = c.args.layout.few in (
      record { few = few; low = omega (arith, few); high = omega (arith, few) },
      c.requires.few,
      omega (arith, c.requires.components_count),
    )

pub returns : goal.returns
returns c =
    let layout = c.args.layout in
    let ends : EndMarks layout.d layout.b (λ i. get_or c.args.marks.now i (pos 0)) c.fill_ends.new.lows c.fill_ends.new.highs =
    record { rest = _; rest' = _; lows_are = c.fill_ends.ensures.lows_after; highs_are = c.fill_ends.ensures.highs_after } in
    let law =
    inside_between layout.d layout.b c.args.marks.now (λ i. get_or c.args.marks.now i (pos 0)) c.requires.of_marks.marks_count
    (λ i h. refl) ends in
    c.all_between.ensures
    ∙ sym (every_same c.args.n _ _ (λ i h. law (λ t. get_or c.args.components.now (i * layout.d + t) (pos 0))))
