-- A bit writer (document 02, Slip 4): some bytes are full, and the next has bits and free places. Assumes nothing.
use Rattle.std.specs.Prelude.{List, ◌++◌, ℕ, ◌+◌, ◌-◌, ◌*◌, ◌/◌, ◌^◌, ◌≤◌, ◌<◌, min, length, take}
use Rattle.codes.specs.declared.bit_writer.BitWriter.{BitWriter}
use Rattle.codes.specs.Bits.{low_bits, byte_bits}
use Rattle.codes.specs.BitLaws.{Bytes}

-- a step places "as many bits of a region number as the current byte takes": the number of the byte's bits with the first of the bits that
-- are left of x behind them; their count is "the lesser of those left and those free"
abbrev pub placed : ℕ → ℕ → ℕ → ℕ → ℕ
placed x left byte free = byte * 2 ^ min left free + x / 2 ^ (left - min left free)

-- what is written: the bits of the full bytes, and those in the next
abbrev pub written_bits : List ℕ → BitWriter → List ℕ
written_bits bytes writer = byte_bits (take writer.next bytes) ++ low_bits (8 - writer.free) writer.byte

-- a writer into bytes; the byte that it fills next is not full
pub record Writes (bytes : List ℕ) (writer : BitWriter) : Type 0 where
  pub within : writer.next ≤ length bytes
  pub some : 1 ≤ writer.free
  pub few : writer.free ≤ 8
  pub small : writer.byte < 2 ^ (8 - writer.free)
  pub are : Bytes (take writer.next bytes)
