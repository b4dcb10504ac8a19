-- `write_vectors` meets its contract: a turn puts the record of one vector behind those before it. Assumes nothing.
use Rattle.std.proofs.Common.{◌≡◌, sym, append-nil, ℕ, ◌+◌, ◌*◌, ◌<◌, pos, get_or, length-take, take, arith}
use Rattle.std.proofs.lemmas.List.{get_or-take}
use Rattle.records.specs.Records.{vector_kind, record_length}
use Rattle.library.specs.Each.{each}
use Rattle.library.specs.EachLaws.{each_grows}
use Rattle.library.specs.Library.{vector_bytes, vector_place}
use Rattle.library.specs.Sizes.{vector_place_lem, vector_length, row_within}
use Rattle.writing.proofs.put.write_vectors.Goals as goal

pub loop-i-init : goal.loop-i-init
unfolding each
loop-i-init c = sym (append-nil _)

pub write_vector-requires : goal.write_vector-requires
write_vector-requires c =
    let place = vector_place_lem c.args.m c.loop-i.i in
    let end = vector_place_lem c.args.m c.args.n in
    let among : c.loop-i.i < c.args.n = omega (arith, length-take {A = ℕ}) in
    let row = row_within c.args.d among in (
      omega (arith, vector_length, place, end, c.vector_place.ensures, c.requires.fits),
      record {
        few = c.requires.few_dimensions;
        within = omega (arith, row, c.requires.components_count);
        of_components = c.requires.of_components;
      },
    )

pub loop-i-preserved : goal.loop-i-preserved
loop-i-preserved c =
    let i = c.loop-i.i in
    let vector = λ (i : ℕ). vector_bytes c.args.d (get_or c.args.settings.now i 0)
    (λ t. get_or c.args.components.now (i * c.args.d + t) (pos 0)) in
    let next : c.vector_place.result + record_length vector_kind ≡ vector_place c.args.m (i + 1) =
    omega (arith, vector_length, vector_place_lem c.args.m i, vector_place_lem c.args.m (i + 1), c.vector_place.ensures) in
    let among : i < c.args.n = omega (arith, length-take {A = ℕ}) in
    let is : get_or (take c.args.n c.args.settings.now) i 0 ≡ get_or c.args.settings.now i 0 =
    get_or-take c.args.n c.args.settings.now i 0 among in
    each_grows (take (vector_place c.args.m 0) c.args.bytes.now) i vector c.loop-i.invariant
    (rw (next, is, c.vector_place.ensures) at c.write_vector.ensures)
