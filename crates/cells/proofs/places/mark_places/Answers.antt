-- The two runs are all dimensions.
use Rattle.std.proofs.Common.{◌∙◌, arith, ℕ, ◌<◌}
use Rattle.std.proofs.Math.Nat.{sub-zero}
use Rattle.limits.specs.Limits.{max_vectors}
use Rattle.layout.specs.declared.Layout.{Layout}
use Rattle.cells.specs.Places.{two_runs}
use Rattle.cells.proofs.Runs.{Sized, sized_shape}
use Rattle.cells.proofs.places.mark_places.Goals as goal

sizes_of : (l : Layout) (i : ℕ) → i < max_vectors → Sized l.d l.b i
sizes_of l i numbered = sized_shape l.d l.b i (record { some = l.some; few = l.few; bits = l.within }) numbered

pub overflow_add-wide : goal.overflow_add-wide
overflow_add-wide c = omega (arith, sizes_of c.args.layout c.args.i c.requires.0)

pub overflow_mul-bit : goal.overflow_mul-bit
overflow_mul-bit c = omega (arith, sizes_of c.args.layout c.args.i c.requires.0)

pub overflow_mul-start : goal.overflow_mul-start
overflow_mul-start c =
    let sizes = sizes_of c.args.layout c.args.i c.requires.0 in
    rw (c.fewest-fewest.ensures, c.wider-more.ensures, sizes.shift.exact) (omega (arith, sizes.wide_marks))

pub place_run-requires-2 : goal.place_run-requires-2
place_run-requires-2 c =
    let sizes = sizes_of c.args.layout c.args.i c.requires.0 in
    rw (c.fewest-fewest.ensures, c.wider-more.ensures, sizes.shift.exact) (omega (arith, sizes, c.args.layout.few, c.requires.1, c.place_run.auto.places))

pub returns : goal.returns
returns c =
    let sizes = sizes_of c.args.layout c.args.i c.requires.0 in
    let a = c.args in
    rw (c.place_run.ensures, c.fewest-fewest.ensures, c.wider-more.ensures, sizes.shift.exact, sub-zero) at c.place_run-2.ensures
    ∙ two_runs a.layout.d a.layout.b a.codes.now a.i sizes.fewest (omega (arith, sizes.more))
