use Rattle.std.proofs.Common.{ℕ, ◌%◌, ◌^◌, sym, ap, ◌∙◌, refl, arith}
use Rattle.distance.proofs.Sum.{sum_more_mod}
use Rattle.table.specs.Table.{bound_sum}
use Rattle.bounds.specs.Run.{two_runs}
use Rattle.bounds.proofs.Walk.{sizes_of, runs}
use Rattle.bounds.proofs.sum.code_bound.Goals as goal

pub overflow_add-wide : goal.overflow_add-wide
overflow_add-wide c = omega (arith, (sizes_of c.args.layout c.args.i c.requires.1).fewest)

pub overflow_mul-bit : goal.overflow_mul-bit
overflow_mul-bit c = omega (arith, (sizes_of c.args.layout c.args.i c.requires.1).bits)

pub overflow_shl-start : goal.overflow_shl-start
overflow_shl-start c = omega (arith, (sizes_of c.args.layout c.args.i c.requires.1).fewest)

pub overflow_mul-start : goal.overflow_mul-start
overflow_mul-start c =
    let size = sizes_of c.args.layout c.args.i c.requires.1 in
    rw (c.fewest-fewest.ensures, c.wider-more.ensures, size.shift.exact) (omega (arith, size.wide_marks))

pub sum_run-sum-requires : goal.sum_run-sum-requires
sum_run-sum-requires c =
    let size = sizes_of c.args.layout c.args.i c.requires.1 in
    let there = runs size c.requires.0 c.requires.2 in
    rw (c.fewest-fewest.ensures, c.wider-more.ensures) (omega (arith, size.fewest), there.first_bits_lem, there.first_places)

pub overflow_add-bit : goal.overflow_add-bit
overflow_add-bit c =
    let size = sizes_of c.args.layout c.args.i c.requires.1 in
    rw (c.fewest-fewest.ensures, c.wider-more.ensures) (omega (arith, size.wide_bits, size.bits))

pub sum_run-rest-requires : goal.sum_run-rest-requires
sum_run-rest-requires c =
    let size = sizes_of c.args.layout c.args.i c.requires.1 in
    let there = runs size c.requires.0 c.requires.2 in
    rw (c.fewest-fewest.ensures, c.wider-more.ensures, size.shift.exact) (omega (arith, size.fewest), there.all_bits, there.all_places)

pub returns : goal.returns
unfolding bound_sum
returns c =
    let a = c.args in
    let size = sizes_of a.layout a.i c.requires.1 in
    sum_more_mod _ _ refl (rw (c.fewest-fewest.ensures, c.wider-more.ensures) at c.sum_run-sum.ensures) (rw (c.fewest-fewest.ensures, c.wider-more.ensures, size.shift.exact) at c.sum_run-rest.ensures)
    ∙ ap (λ (n : ℕ). n % 2 ^ 64) (sym (two_runs a.layout.d a.layout.b size.fewest (omega (arith, size.more)) a.table.now a.codes.now a.i))
