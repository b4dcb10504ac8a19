-- `put_byte` meets its contract: one byte more stands behind what stood before. Assumes nothing.
use Rattle.std.proofs.Common.{◌%◌, add-one, arith}
use Rattle.std.proofs.Math.Seq.{take-suc-set}
use Rattle.records.specs.Bytes.{low_first}
use Rattle.writing.proofs.put.put_byte.Goals as goal

pub returns : goal.returns
unfolding low_first
returns c = rw (add-one c.args.at) (take-suc-set c.args.bytes.now c.args.at (c.args.x % 256) (omega arith))
