use Rattle.std.proofs.Common.{◌-◌, ◌++◌, length, take}
use Rattle.codes.specs.Bits.{low_bits, byte_bits}
use Rattle.codes.proofs.Putting.{Putting}
use Rattle.codes.proofs.bit_writer.put.Given as goal

abbrev pub invariant-loop-number : goal.invariant-loop-number
invariant-loop-number l =
    Putting (byte_bits (take l.initial.next l.initial.bytes) ++ low_bits (8 - l.initial.free) l.initial.byte) l.numbers l.width
    (length l.initial.bytes) l.bytes l.next l.byte l.free l.number-index
