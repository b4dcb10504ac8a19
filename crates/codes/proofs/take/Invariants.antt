use Rattle.std.proofs.Common.{◌++◌, ◌-◌, length, take, drop}
use Rattle.codes.specs.Bits.{byte_bits}
use Rattle.codes.specs.Fields.{read_fields}
use Rattle.codes.proofs.Taking.{Taking}
use Rattle.codes.proofs.take.Given as goal

abbrev pub invariant-loop-i : goal.invariant-loop-i
invariant-loop-i l =
    Taking l.codes l.w l.end (length l.initial.numbers)
    (take l.start l.initial.numbers ++ read_fields l.w (l.end - l.start) (drop l.from (byte_bits l.codes))) l.numbers l.at l.i
