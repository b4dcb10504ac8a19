-- `mark` meets its contract: the place of a region's lower mark is one of the keys'. Assumes nothing.
use mathlib.Core.Path.{◌≡◌, sym, ◌∙◌}
use Prim.Native.Nat.{ℕ, ◌*◌, ◌/◌, ◌%◌, ◌^◌, ◌≤◌, ◌<◌}
use native.Mathlib.Nat.{mul-le-mul}
use native.Mathlib.Omega.{arith}
use lib.IntN.{pos}
use lib.ListN.{length}
use lib.Pow.{pow_mono}
use mir.Syntax.{w32}
use mir.ValLaws.{to_z-of_z}
use Rattle.limits.specs.Limits.{max_dimension_bits, max_vectors}
use Rattle.partition.proofs.Power.{shifted}
use Rattle.marking.specs.Made.{scale_ends}
use Rattle.marking.specs.InOrder.{map_at}
use Rattle.marking.specs.KeysInOrder.{whole_of}
use Rattle.marking.specs.MadeDimension.{place_below, mark_first, mark_inner, mark_last}
use Rattle.marking.proofs.mark.Goals as goal

-- a product of a region's number and a count of vectors is small
product : (w i n : ℕ) → w ≤ max_dimension_bits → i < 2 ^ w → n ≤ max_vectors → i * n < 2 ^ 64
product w i n few below count =
    let most : 2 ^ w ≤ 2 ^ max_dimension_bits = pow_mono few in
    let regions : i ≤ 2 ^ max_dimension_bits = omega arith in
    let small : i * n ≤ 2 ^ max_dimension_bits * max_vectors = mul-le-mul regions count in
    omega arith

-- an inner mark's number is below that of the regions, and its place is one of the keys'
among : (i w : ℕ) → w ≤ max_dimension_bits → i < 1 * 2 ^ w % 2 ^ 64 → i < 2 ^ w
among i w few below = omega (arith, below, shifted w few)

pub overflow_mul-i : goal.overflow_mul-i
overflow_mul-i c =
    let start = c in
    let a = start.args in
    record { fits = product a.w a.i (length a.keys.now) start.requires.0.bits (among a.i a.w start.requires.0.bits c.if-i-regions.true) start.requires.0.few }

-- the first mark, an inner one, the last
pub returns-then-i-lt1 : goal.returns-then-i-lt1
returns-then-i-lt1 c =
    let a = c.args in
    let is : a.i ≡ 0 = omega (arith, c.if-i-lt1.true) in
    rw is (sym (mark_first scale_ends (length a.keys.now) a.w _))

pub returns-then-i-regions : goal.returns-then-i-regions
returns-then-i-regions c =
    let taken = c in
    let start = c in
    let a = taken.args in
    let keys = a.keys.now in
    to_z-of_z w32 _ (record { sfits = c.component_of.type_inv })
    ∙ c.component_of.ensures
    ∙ sym (map_at whole_of keys (a.i * length keys / 2 ^ a.w) 0 (pos 0) (place_below a.i (length keys) a.w (among a.i a.w start.requires.0.bits c.if-i-regions.true) start.requires.0.some))
    ∙ sym (mark_inner scale_ends (length keys) a.w _ a.i (omega arith) (among a.i a.w start.requires.0.bits c.if-i-regions.true))

pub returns : goal.returns
returns c =
    let start = c in
    let a = start.args in
    sym (mark_last scale_ends (length a.keys.now) a.w _ a.i
    (omega (arith, c.if-i-regions.false, shifted a.w start.requires.0.bits)))

pub overflow_shl-regions : goal.overflow_shl-regions
overflow_shl-regions c = omega (arith, c.requires.0.bits)

pub overflow_shr-i : goal.overflow_shr-i
overflow_shr-i c = omega (arith, c.requires.0.bits)

pub offset_bounds-keys-i : goal.offset_bounds-keys-i
offset_bounds-keys-i c =
    let a = c.args in
    omega (
      arith,
      place_below a.i (length a.keys.now) a.w (among a.i a.w c.requires.0.bits c.if-i-regions.true) c.requires.0.some,
      c.requires.0.few,
    )

pub bounds-keys-i : goal.bounds-keys-i
bounds-keys-i c =
    let a = c.args in
    place_below a.i (length a.keys.now) a.w (among a.i a.w c.requires.0.bits c.if-i-regions.true) c.requires.0.some

pub component_of-requires : goal.component_of-requires
component_of-requires c =
    let a = c.args in
    c.requires.1 _
    (place_below a.i (length a.keys.now) a.w (among a.i a.w c.requires.0.bits c.if-i-regions.true) c.requires.0.some)
