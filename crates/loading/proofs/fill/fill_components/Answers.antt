use Rattle.std.proofs.Common.{ℕ, ◌≡◌, ◌+◌, ◌*◌, ◌/◌, ◌%◌, ◌≤◌, drop, zero-mul, suc-mul, add-one, arith}
use Rattle.std.proofs.Math.Arith.{digits_div, digits_mod}
use Rattle.records.specs.Records.{vector_kind, record_length}
use Rattle.library.specs.Library.{vector_place, stored_at, component_at}
use Rattle.library.specs.Sizes.{vector_place_lem, vector_length, row_within}
use Rattle.library.proofs.Filling.{filling_start, filling_more}
use Rattle.loading.proofs.fill.fill_components.Goals as goal

pub loop-i-init : goal.loop-i-init
loop-i-init c =
    let args = c.args in
    rw (zero-mul args.d)
    (filling_start (args.n * args.d) (λ k. component_at args.m args.bytes.now (k / args.d) (k % args.d)) args.components.now)

-- the record of a vector is there where those of more vectors are
record_within : (m i n : ℕ) {size : ℕ} → i + 1 ≤ n → vector_place m n ≤ size → vector_place m i + record_length vector_kind ≤ size
record_within m i n {size} more whole =
    let all : 5 + m * 5 + n * 69 ≤ size = rw (vector_place_lem m n) at whole in
    rw (vector_place_lem m i, vector_length) (omega arith)

pub fill_vector-requires : goal.fill_vector-requires
fill_vector-requires c =
    let row = row_within c.args.d c.loop-i-test.true in (
      rw c.vector_place.ensures (record_within c.args.m c.loop-i.i c.args.n (omega arith) c.requires.4),
      c.requires.1,
      omega (arith, row, c.requires.3, c.loop-i.invariant.room),
    )

pub loop-i-preserved : goal.loop-i-preserved
loop-i-preserved c =
    let args = c.args in
    let i = c.loop-i.i in
    let next : (i + 1) * args.d ≡ i * args.d + args.d = rw (add-one i) (suc-mul i args.d) in
    rw next
    (filling_more (args.n * args.d) (λ k. component_at args.m args.bytes.now (k / args.d) (k % args.d)) args.components.now (i * args.d) args.d
    (stored_at (drop (vector_place args.m i) args.bytes.now)) (row_within args.d c.loop-i-test.true) c.fill_vector.auto.components
    (rw c.vector_place.ensures at c.fill_vector.ensures) (λ t h. rw (digits_div i h, digits_mod i h)) c.loop-i.invariant)
