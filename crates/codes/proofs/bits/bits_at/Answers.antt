-- w bits, at most 8, from a place of a byte on stand in that byte and the next. Assumes nothing.
use Rattle.std.proofs.Common.{◌≡◌, List, ℕ, ◌+◌, ◌-◌, ◌*◌, ◌/◌, ◌%◌, ◌^◌, ◌≤◌, sym, ◌∙◌, get_or, arith, rules}
use native.Mathlib.Nat.{div-add-mod'}
use borrow.Author.Tests.{lt-leb}
use Rattle.codes.specs.Bits.{bits_at}
use Rattle.codes.specs.BitLaws.{Bytes, bits_in_two, bits_at_lem}
use Rattle.codes.proofs.bits.bits_at.Goals as goal

read : (bytes : List ℕ) → Bytes bytes → (from w : ℕ) → w ≤ 8
    → (get_or bytes (from / 8) 0 * 256 + get_or bytes (from / 8 + 1) 0) / 2 ^ (16 - from % 8 - w) % 2 ^ w ≡ bits_at bytes from w
read bytes small from w few =
    sym (rw div-add-mod' at (bits_in_two bytes small (from / 8) (from % 8) w (omega arith) few)) ∙ sym (bits_at_lem bytes from w few)

pub returns-then-w-gt8 : goal.returns-then-w-gt8
unfolding bits_at
returns-then-w-gt8 c = rw (lt-leb c.args.w 8 c.if-w-gt8.true)

pub returns : goal.returns
returns c =
    rw (c.low.ensures, c.two_bytes.ensures) (read c.args.bytes.now (λ i. search rules) c.args.from c.args.w (omega arith))
