-- `put` meets its contract: behind what was written stand the bits of the numbers before i. Assumes nothing.
use Rattle.std.proofs.Common.{◌≡◌, refl, ◌∙◌, ℕ, ◌+◌, ◌-◌, ◌*◌, ◌%◌, ◌≤◌, ◌<◌, min, arith}
use mathlib.Core.List.{append-nil}
use native.Mathlib.Nat.{mod-eq_of_lt}
use Rattle.codes.specs.Fields.{fields}
use Rattle.codes.specs.WriterLaws.{filled_by, byte_small}
use Rattle.codes.proofs.Putting.{fits, one, has_room, two}
use Rattle.codes.proofs.bit_writer.put.Goals as goal
use Rattle.codes.proofs.bit_writer.put.Goals.{then-count-free, else-count-free}

-- the width is w, as that is below 8
same : {width w : ℕ} → width ≡ w % 8 → w < 8 → width ≡ w
same is small = is ∙ mod-eq_of_lt small

pub loop-number-init : goal.loop-number-init
unfolding fields
loop-number-init c =
    let pre = c.requires in
    let width = same c.low-width.ensures pre.1 in
    record { long = refl; some = pre.0.some; below = rw width pre.2; filled = rw append-nil (filled_by pre.0) }

pub place-first-requires : goal.place-first-requires
place-first-requires c =
    let at = c.loop-number.invariant in
    let width = same c.low-width.ensures c.requires.1 in
    ((fits at c.loop-number-test.true).0, omega (arith, width, c.requires.1), at.filled.small, at.filled.few)

-- ---- where the first step filled the byte

-- as many bits as were free, and no more than the number has
filled : {count width free : ℕ} → count ≡ min width free → free ≤ count → (count ≡ free) × (free ≤ width)
filled counted full = (omega (arith, counted, full), omega (arith, counted, full))

fit : (bits count : ℕ) {width w room : ℕ} → width ≡ w → bits + count * w ≤ room → bits + count * width ≤ room
fit bits count is room = rw is room

pub overflow_cast-bytes : goal.overflow_cast-bytes
overflow_cast-bytes c =
    let at = c.loop-number.invariant in
    rw c.place-first.ensures.byte_value
    (record {
      fits = byte_small at.filled c.low-width.result _ (fits at c.loop-number-test.true).0
          (filled c.place-first.ensures.count_value c.if-count-free.false).1;
    })

pub bounds-bytes-next : goal.bounds-bytes-next
bounds-bytes-next c =
    has_room c.loop-number.invariant c.loop-number-test.true (filled c.place-first.ensures.count_value c.if-count-free.false).1
    (fit _ _ (same c.low-width.ensures c.requires.1) c.requires.3)

pub loop-number-preserved : goal.loop-number-preserved
loop-number-preserved c =
    let width = same c.low-width.ensures c.requires.1 in
    elim c.if-count-free.branch [
      | then-count-free w ↦
          let all : c.place-first.result.count ≡ c.low-width.result = omega (arith, c.place-first.ensures.count_value, w.if-count-free.true) in
          rw (w.bytes-is, w.next-is, w.byte-is, w.free-is, c.place-first.ensures.byte_value, all)
          (one c.loop-number.invariant c.loop-number-test.true (omega (arith, all, w.if-count-free.true)))
      | else-count-free w ↦
          let full = filled c.place-first.ensures.count_value w.if-count-free.false in
          let few : c.low-width.result ≤ 8 = omega (arith, width, c.requires.1) in
          let all : w.place-second.result.count ≡ c.low-width.result - c.loop-number.free =
          omega (arith, w.place-second.ensures.count_value, full.0, few) in
          rw (
            w.bytes-is,
            w.next-is,
            w.byte-is,
            w.free-is,
            c.place-first.ensures.byte_value,
            all,
            w.place-second.ensures.byte_value,
            w.low.ensures,
            full.0,
          )
          (two c.loop-number.invariant c.loop-number-test.true full.1 (fit _ _ width c.requires.3) few)
    ]
