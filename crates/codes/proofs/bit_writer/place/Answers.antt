-- `place` meets its contract: all bits are placed where fewer are left than are free, else as many as are free. Assumes nothing.
use Rattle.std.proofs.Common.{◌≡◌, refl, ℕ, ◌+◌, ◌-◌, ◌*◌, ◌%◌, ◌^◌, ◌≤◌, ◌<◌, min, arith}
use native.Mathlib.Nat.{min-eq_left, min-eq_right, sub_self, div-one}
use lib.Pow.{pow_mono, shl_exact, shl_lt, shr_le}
use Rattle.codes.proofs.bit_writer.place.Goals as goal

-- the bits of a byte, with c places behind them
module _ (byte free c : ℕ) (small : byte < 2 ^ (8 - free)) (few : c ≤ 8) where
  exact : (byte * 2 ^ c) % 2 ^ 64 ≡ byte * 2 ^ c
  exact = shl_exact (8 - free) c 64 small (omega arith)

  moved_lt : (byte * 2 ^ c) % 2 ^ 64 < 2 ^ 16
  moved_lt =
      let moved : byte * 2 ^ c < 2 ^ (8 - free + c) = shl_lt (8 - free) c small in
      let power : 2 ^ (8 - free + c) ≤ 2 ^ 16 = pow_mono {j = 16} (omega arith) in
      rw exact (omega arith)

number_lt : (x left : ℕ) → x < 2 ^ left → left ≤ 8 → x < 2 ^ 8
number_lt x left own few =
    let power : 2 ^ left ≤ 2 ^ 8 = pow_mono few in
    omega arith

pub overflow_add-all : goal.overflow_add-all
overflow_add-all c =
    let a = c.args in
    let pre = c.requires in
    omega (arith, moved_lt a.byte a.free a.left pre.2 pre.1, number_lt a.x a.left pre.0 pre.1)

pub returns-then-left-free : goal.returns-then-left-free
returns-then-left-free c =
    let a = c.args in
    let pre = c.requires in
    let all : min a.left a.free ≡ a.left = min-eq_left (omega arith) in
    record {
      count_value = rw all refl;
      byte_value = rw (all, exact a.byte a.free a.left pre.2 pre.1, sub_self a.left, div-one) refl;
    }

pub overflow_add-full : goal.overflow_add-full
overflow_add-full c =
    let a = c.args in
    let pre = c.requires in
    omega (
      arith,
      c.first_bits.ensures,
      moved_lt a.byte a.free a.free pre.2 pre.3,
      number_lt a.x a.left pre.0 pre.1,
      shr_le a.x (a.left - a.free),
    )

pub returns : goal.returns
returns c =
    let a = c.args in
    let pre = c.requires in
    let most : min a.left a.free ≡ a.free = min-eq_right c.if-left-free.false in
    record {
      count_value = rw most refl;
      byte_value = rw (most, exact a.byte a.free a.free pre.2 pre.3, c.first_bits.ensures) refl;
    }
