-- `write_marks` meets its contract: a turn puts the record of one mark behind those before it. Assumes nothing.
use Rattle.std.proofs.Common.{◌≡◌, sym, append-nil, ◌+◌, pos, w32, get_or, take, arith}
use Rattle.std.proofs.lemmas.Int.{to_z-of_z}
use Rattle.library.specs.Each.{each}
use Rattle.library.specs.EachLaws.{each_grows}
use Rattle.library.specs.Library.{mark_bytes, mark_place}
use Rattle.library.specs.Sizes.{mark_place_lem}
use Rattle.writing.specs.SignedBytes.{Bits}
use Rattle.writing.specs.WriteLaws.{both_parts, mark_parts}
use Rattle.writing.proofs.put.write_marks.Goals as goal

pub loop-i-init : goal.loop-i-init
unfolding each
loop-i-init c = sym (append-nil _)

pub loop-i-preserved : goal.loop-i-preserved
loop-i-preserved c =
    let i = c.loop-i.i in
    let mark = get_or c.args.marks.now i (pos 0) in
    let bits : Bits c.bits_of.result mark = rw (to_z-of_z w32 mark (record { sfits = omega arith })) at c.bits_of.ensures in
    let next : c.mark_place-at.result + 1 + 4 ≡ mark_place (i + 1) =
    omega (arith, c.mark_place-at.ensures, mark_place_lem i, mark_place_lem (i + 1)) in
    let parts = both_parts (take c.mark_place-at.result c.loop-i.bytes) _ _ c.put_byte.ensures c.put_quad.ensures in
    each_grows (take (mark_place 0) c.args.bytes.now) i (λ i. mark_bytes (get_or c.args.marks.now i (pos 0)))
    c.loop-i.invariant
    (rw (next, mark_parts bits, c.mark_place-at.ensures) at parts)
