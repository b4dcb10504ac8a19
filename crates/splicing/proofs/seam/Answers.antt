-- The first bits are fewer than 8, and shifted up they leave room for the others. Assumes nothing.
use Rattle.std.proofs.Common.{◌≡◌, ◌∙◌, ℕ, ◌+◌, ◌-◌, ◌*◌, ◌%◌, ◌^◌, ◌≤◌, ◌<◌, List, drop, arith}
use lib.Pow.{shl_exact, shl_lt, pow_mono}
use Rattle.codes.specs.Bits.{from_bits, byte_bits}
use Rattle.codes.specs.BitLaws.{from_lt, bits_at_lem, binary_drop, binary_bytes}
use Rattle.splicing.proofs.seam.Goals as goal

module _ (front : List ℕ) (whole used : ℕ) where
  abbrev upper : ℕ
  upper = from_bits used (drop (whole * 8) (byte_bits front))

  shifted : used < 8 → upper * 2 ^ (8 - used) % 2 ^ 64 ≡ upper * 2 ^ (8 - used)
  shifted few = shl_exact used (8 - used) 64 (from_lt used (binary_drop (whole * 8) (binary_bytes front))) (omega arith)

pub overflow_add-result : goal.overflow_add-result
overflow_add-result c =
    let a = c.args in
    let used = a.used in
    let eight : used + (8 - used) ≡ 8 = omega (arith, c.requires.1) in
    let high = rw eight at (shl_lt used (8 - used) (from_lt used (binary_drop (a.whole * 8) (binary_bytes a.front.now)))) in
    let low = from_lt (8 - used) (binary_drop a.q (binary_bytes a.back.now)) in
    let power : 2 ^ (8 - used) ≤ 2 ^ 8 = pow_mono {i = 8 - used} {j = 8} (omega arith) in
    rw (
      c.bits_at.ensures ∙ bits_at_lem a.front.now (a.whole * 8) used (omega (arith, c.requires.1)),
      shifted a.front.now a.whole used c.requires.1,
      c.bits_at-2.ensures ∙ bits_at_lem a.back.now a.q (8 - used) (omega arith),
    )
    (record { fits = omega arith })

pub returns : goal.returns
returns c =
    let a = c.args in
    let used = a.used in
    rw (
      c.bits_at.ensures ∙ bits_at_lem a.front.now (a.whole * 8) used (omega (arith, c.requires.1)),
      shifted a.front.now a.whole used c.requires.1,
      c.bits_at-2.ensures ∙ bits_at_lem a.back.now a.q (8 - used) (omega arith),
    )
