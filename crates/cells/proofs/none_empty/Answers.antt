-- The places that come back are the code's, and the tests at them those of its regions.
use Rattle.std.proofs.Common.{◌∙◌, sym, arith, le_refl}
use Rattle.std.proofs.Math.Seq.{length-take-le}
use Rattle.cells.specs.Places.{length_places, places_small}
use Rattle.cells.specs.CellLaws.{rise_none}
use Rattle.cells.proofs.none_empty.Goals as goal

pub slice_bounds-places-end : goal.slice_bounds-places-end
slice_bounds-places-end c = omega (arith, c.mark_places.auto.places, c.args.layout.few)

pub slice_bounds-rise_at-end : goal.slice_bounds-rise_at-end
slice_bounds-rise_at-end c =
    sym (length-take-le c.args.layout.d c.mark_places.new.places (omega (arith, c.mark_places.auto.places, c.args.layout.few)))

pub rise_at-requires : goal.rise_at-requires
rise_at-requires c =
    let l = c.args.layout in
    rw c.mark_places.ensures (places_small c.args.codes.now c.args.i (record { some = l.some; few = l.few; bits = l.within }))

pub returns : goal.returns
returns c =
    let a = c.args in
    let l = a.layout in
    rw (c.mark_places.ensures, length_places l.d l.b a.codes.now a.i 0 l.d) at c.rise_at.ensures
    ∙ rise_none l.d l.b a.marks.now a.codes.now a.i l.d (le_refl l.d)
