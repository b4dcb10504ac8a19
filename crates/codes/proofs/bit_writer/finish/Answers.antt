-- `finish` meets its contract: a byte that is not full is written with zeros behind its bits. Assumes nothing.
use mathlib.Core.Path.{◌≡◌}
use Prim.Native.Nat.{ℕ, ◌+◌, ◌-◌, ◌*◌, ◌%◌, ◌^◌}
use native.Mathlib.Omega.{arith}
use lib.ListN.{length}
use lib.Pow.{shl_exact}
use mathlib.Core.List.{List}
use Rattle.codes.specs.WriterLaws.{Filled, filled_by, position, last_lt, last_byte, complete}
use Rattle.codes.proofs.bit_writer.finish.Goals as goal

-- the last byte is not cut
exact : {bits bytes : List ℕ} {next byte free : ℕ} → Filled bits bytes next byte free → (byte * 2 ^ free) % 2 ^ 64 ≡ byte * 2 ^ free
exact {free = free} at = shl_exact (8 - free) free 64 at.small (omega (arith, at.few))

pub overflow_cast-bytes : goal.overflow_cast-bytes
overflow_cast-bytes c =
    let at = filled_by c.requires.0 in
    rw (exact at) (record { fits = last_lt at })

pub bounds-bytes-next : goal.bounds-bytes-next
bounds-bytes-next c = omega (arith, c.requires.1, position (filled_by c.requires.0))

pub returns-then-free-lt8 : goal.returns-then-free-lt8
returns-then-free-lt8 c =
    let at = filled_by c.requires.0 in
    let one : length c.args.bytes.now ≡ c.args.writer.next + 1 = omega (arith, c.requires.1, position at) in
    rw (exact at) (last_byte at one)

pub returns-else-free-lt8 : goal.returns-else-free-lt8
returns-else-free-lt8 c =
    let at = filled_by c.requires.0 in
    complete at (omega arith) (omega (arith, c.requires.1, position at))
