-- Bytes of the front, the byte at the seam, and the rest shifted. Assumes nothing.
use Rattle.std.proofs.Common.{◌≡◌, ℕ, ◌+◌, ◌-◌, ◌*◌, ◌/◌, ◌%◌, ◌<◌, arith, rules}
use Rattle.codes.specs.BitLaws.{Bytes}
use Rattle.splicing.specs.SpliceLaws.{cut, seam_small, filled_short, filled_long}
use Rattle.splicing.proofs.splice.Goals as goal

-- The other's bits go on behind those that stand in the byte at the seam.
place : (q used : ℕ) → used < 8 → (q / 8 + (q % 8 + 8 - used) / 8) * 8 + (q % 8 + 8 - used) % 8 ≡ q + (8 - used)
place q used few = omega arith

pub returns-then-out-whole : goal.returns-then-out-whole
returns-then-out-whole c =
    let a = c.args in
    let small : Bytes a.front.now = λ i. search rules in
    filled_short a.front.now small a.back.now a.q (cut c.whole_bytes-whole.ensures c.used_bits-used.ensures) a.out.now _ c.if-out-whole.true c.copy.ensures

pub overflow_cast-out : goal.overflow_cast-out
overflow_cast-out c =
    let a = c.args in
    let at = cut c.whole_bytes-whole.ensures c.used_bits-used.ensures in
    rw c.seam.ensures (record { fits = seam_small a.front.now c.whole_bytes-whole.result at.few a.back.now a.q })

pub returns : goal.returns
returns c =
    let a = c.args in
    let small : Bytes a.front.now = λ i. search rules in
    let at = cut c.whole_bytes-whole.ensures c.used_bits-used.ensures in
    filled_long a.front.now small a.back.now a.q at a.out.now _ _ _ _ c.if-out-whole.false c.copy-2.ensures c.copy-2.auto.out c.seam.ensures
    (place a.q c.used_bits-used.result at.few) c.shift.ensures
