use Rattle.std.proofs.Common.{◌-◌, ◌%◌, length, drop, sym, ◌∙◌, arith, length-drop, length-take, take_all}
use Rattle.bounds.specs.Inside.{two_inside}
use Rattle.bounds.proofs.Walk.{sizes_of, runs}
use Rattle.bounds.proofs.inside.all_inside.Goals as goal

pub overflow_add-wide : goal.overflow_add-wide
overflow_add-wide c = omega (arith, (sizes_of c.args.layout c.args.i c.requires.1).fewest)

pub overflow_mul-bit : goal.overflow_mul-bit
overflow_mul-bit c = omega (arith, (sizes_of c.args.layout c.args.i c.requires.1).bits)

pub overflow_shl-start : goal.overflow_shl-start
overflow_shl-start c = omega (arith, (sizes_of c.args.layout c.args.i c.requires.1).fewest)

pub overflow_mul-start : goal.overflow_mul-start
overflow_mul-start c =
    let size = sizes_of c.args.layout c.args.i c.requires.1 in
    rw (c.fewest-fewest.ensures, c.wider-more.ensures, size.shift.exact) (omega (arith, size.wide_marks))

pub run_inside-requires : goal.run_inside-requires
run_inside-requires c =
    let size = sizes_of c.args.layout c.args.i c.requires.1 in
    let there = runs size c.requires.0 c.requires.2 in
    rw (c.fewest-fewest.ensures, c.wider-more.ensures) (omega (arith, size.fewest), there.first_bits_lem, there.first_places, omega (arith, size.more, c.requires.3))

pub returns-else-run_inside : goal.returns-else-run_inside
returns-else-run_inside c =
    let a = c.args in
    let size = sizes_of a.layout a.i c.requires.1 in
    c.if-run_inside.false
    ∙ sym
    (two_inside a.marks.now a.codes.now a.i a.vector.now a.layout.d a.layout.b size.fewest (omega (arith, size.more))
    ∙ rw (sym (rw (c.fewest-fewest.ensures, c.wider-more.ensures) at c.run_inside.ensures) ∙ c.if-run_inside.false))

pub overflow_add-bit : goal.overflow_add-bit
overflow_add-bit c =
    let size = sizes_of c.args.layout c.args.i c.requires.1 in
    rw (c.fewest-fewest.ensures, c.wider-more.ensures) (omega (arith, size.wide_bits, size.bits))

pub offset_bounds-vector-more : goal.offset_bounds-vector-more
offset_bounds-vector-more c =
    let size = sizes_of c.args.layout c.args.i c.requires.1 in
    omega (arith, size.more, size.few)

pub slice_bounds-run_inside-count : goal.slice_bounds-run_inside-count
slice_bounds-run_inside-count c = omega (arith, (sizes_of c.args.layout c.args.i c.requires.1).more, c.requires.3)

pub slice_bounds-run_inside-start : goal.slice_bounds-run_inside-start
slice_bounds-run_inside-start c = omega (arith, (sizes_of c.args.layout c.args.i c.requires.1).more, c.requires.3)

pub run_inside-requires-then-run_inside : goal.run_inside-requires-then-run_inside
run_inside-requires-then-run_inside c =
    let size = sizes_of c.args.layout c.args.i c.requires.1 in
    let there = runs size c.requires.0 c.requires.2 in
    rw (c.fewest-fewest.ensures, c.wider-more.ensures, size.shift.exact, length-take, length-drop)
    (omega (arith, size.fewest), there.all_bits, there.all_places, omega (arith, c.requires.3))

pub returns-then-run_inside : goal.returns-then-run_inside
returns-then-run_inside c =
    let a = c.args in
    let size = sizes_of a.layout a.i c.requires.1 in
    let more = a.layout.b % a.layout.d in
    let rest = take_all (length a.vector.now - more) (drop more a.vector.now) (simp length-drop (omega arith)) in
    rw (c.fewest-fewest.ensures, c.wider-more.ensures, size.shift.exact, rest) at c.run_inside-then-run_inside.ensures
    ∙ sym
    (two_inside a.marks.now a.codes.now a.i a.vector.now a.layout.d a.layout.b size.fewest (omega (arith, size.more))
    ∙ rw (sym (rw (c.fewest-fewest.ensures, c.wider-more.ensures) at c.run_inside.ensures) ∙ c.if-run_inside.true))
