-- The mask leaves 8 bits. Assumes nothing.
use Rattle.std.proofs.Common.{◌+◌, ◌-◌, ◌*◌, ◌/◌, ◌^◌}
use lib.Bits.{and_mask}
use Rattle.splicing.proofs.middle.Goals as goal

pub returns : goal.returns
returns c = and_mask ((c.args.high * 256 + c.args.next) / 2 ^ (8 - c.args.bit)) 8
