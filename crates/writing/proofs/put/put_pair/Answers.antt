-- `put_pair` meets its contract: two bytes more stand behind what stood before. Assumes nothing.
use Rattle.std.proofs.Common.{◌≡◌, suc, ◌+◌, ◌/◌, ◌%◌, ◌<◌, length, set, append_assoc, add-one, length-set, arith}
use Rattle.std.proofs.Math.Seq.{take-suc-set}
use Rattle.records.specs.Bytes.{low_first}
use Rattle.writing.proofs.put.put_pair.Goals as goal

pub returns : goal.returns
unfolding low_first
returns c =
    let at = c.args.at in
    let bytes = c.args.bytes.now in
    let low = c.args.x % 256 in
    let next : at + 2 ≡ suc (at + 1) = omega arith in
    let room : at + 1 < length (set bytes at low) = simp length-set (omega arith) in
    rw (next, take-suc-set (set bytes at low) (at + 1) (c.args.x / 256 % 256) room, add-one at, take-suc-set bytes at low (omega arith))
    (simp append_assoc)
