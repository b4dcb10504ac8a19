-- `put_quad` meets its contract: two bytes, and two behind them. Assumes nothing.
use Rattle.std.proofs.Common.{◌≡◌, ◌∙◌, ◌+◌, take, arith}
use Rattle.writing.specs.WriteLaws.{both_parts, four_bytes_lem}
use Rattle.writing.proofs.put.put_quad.Goals as goal

pub returns : goal.returns
returns c =
    let place : c.args.at + 2 + 2 ≡ c.args.at + 4 = omega arith in
    rw (← place)
    (both_parts (take c.args.at c.args.bytes.now) _ _ c.put_pair.ensures c.put_pair-2.ensures ∙ rw (four_bytes_lem c.args.x))
