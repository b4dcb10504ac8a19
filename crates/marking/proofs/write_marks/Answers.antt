-- The part's marks are the dimension's, mark by mark.
use Rattle.std.proofs.Common.{◌≡◌, ◌∙◌, sym, map, ◌+◌, ◌^◌, ◌%◌, ◌*◌, ◌≤◌, pos, length, arith}
use Rattle.std.proofs.lemmas.List.{ext_get_or}
use Rattle.std.proofs.Math.Seq.{length-take-le}
use Rattle.partition.proofs.Power.{shifted}
use Rattle.marking.specs.Made.{scale_ends, made_dimension}
use Rattle.marking.specs.KeysInOrder.{whole_of}
use Rattle.marking.specs.MadeDimension.{between_length, between_at}
use Rattle.marking.proofs.write_marks.Goals as goal

pub returns : goal.returns
returns c =
    let w = c.args.w in
    let n = length c.args.keys.now in
    let ordered = map whole_of c.args.keys.now in
    let regions : 1 * 2 ^ w % 2 ^ 64 ≡ 2 ^ w = shifted w c.requires.0.bits in
    let made : length (made_dimension n w ordered) ≡ 2 ^ w + 1 = between_length scale_ends n w ordered in
    let fits : 2 ^ w + 1 ≤ length c.args.part.now = c.requires.1 in
    let count : length c.loop-i.out-items ≡ 2 ^ w + 1 =
    omega (arith, length-take-le (2 ^ w + 1) c.args.part.now fits, rw regions at c.loop-i.auto.out-items) in
    let same : c.loop-i.out-items ≡ made_dimension n w ordered =
    ext_get_or (pos 0) _ _ (omega arith)
    (λ k within. c.loop-i.invariant k (omega arith) ∙ sym (between_at scale_ends n w ordered k (omega arith))) in
    rw (same, regions)
