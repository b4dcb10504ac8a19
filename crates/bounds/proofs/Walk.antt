-- A walk through the regions that a code names, a run of dimensions that have as many bits after the other. Assumes nothing.
use Rattle.std.proofs.Common.{◌≡◌, ℕ, suc, ◌+◌, ◌-◌, ◌*◌, ◌/◌, ◌%◌, ◌^◌, ◌<◌, ◌≤◌, List, length, sym, le_refl, add-zero, mod-lt, suc-mul, mul-le-mul, zero-mul, add-one, arith, pow_pos}
use lib.Bits.{bit_and, and_mask}
use Rattle.limits.specs.Limits.{max_vectors}
use Rattle.layout.specs.declared.Layout.{Layout}
use Rattle.layout.specs.Layout.{first_marks}
use Rattle.layout.specs.Runs.{two_bits, two_marks}
use Rattle.codes.specs.Bits.{bits_at}
use Rattle.cells.proofs.Runs.{Sized, sized_shape, regions}
use Rattle.bounds.specs.BitBuffer.{Waits, Taken}

-- the sizes of code i of a layout
pub sizes_of : (l : Layout) (i : ℕ) → i < max_vectors → Sized l.d l.b i
sizes_of l i numbered = sized_shape l.d l.b i (record { some = l.some; few = l.few; bits = l.within }) numbered

-- both runs' bits are there, and their places, of `room` in all
pub record Runs (d b i codes room : ℕ) : Type 0 where
  pub first_bits_lem : i * b + b % d * (b / d + 1) ≤ codes * 8
  pub all_bits : i * b + b % d * (b / d + 1) + (d - b % d) * (b / d) ≤ codes * 8
  pub first_places : 0 + b % d * (2 ^ (b / d + 1) + 1) ≤ room
  pub all_places : b % d * (2 ^ (b / d + 1) + 1) + (d - b % d) * (2 ^ (b / d) + 1) ≤ room

pub runs : {d b i codes room : ℕ} → Sized d b i → room ≡ first_marks d b d → suc i * b ≤ codes * 8 → Runs d b i codes room
runs {d} {b} {i} {codes} told whole there =
    let few : b % d ≤ d = omega (arith, told.more) in
    let bits = two_bits d b told.fewest few told.some in
    let marks = two_marks d b told.fewest few in
    let code : i * b + b ≤ codes * 8 = rw suc-mul at there in
    record {
      first_bits_lem = omega (arith, bits);
      all_bits = omega (arith, bits);
      first_places = omega (arith, marks, whole);
      all_places = omega (arith, marks, whole);
    }

-- t of a run's dimensions were passed
pub record Walk (codes : List ℕ) (w first_bit first-start count bits waiting next start t : ℕ) : Type 0 where
  pub within : t ≤ count
  pub waits : Waits codes (first_bit + t * w) bits waiting next
  pub start_is : start ≡ first-start + t * (2 ^ w + 1)

pub sets_out : {codes : List ℕ} {w first_bit bits waiting next : ℕ} (first-start count : ℕ) → Waits codes first_bit bits waiting next
    → Walk codes w first_bit first-start count bits waiting next first-start 0
sets_out {w = w} {first_bit} first-start count waits =
    record {
      within = omega arith;
      waits = rw (zero-mul w, add-zero first_bit) waits;
      start_is = rw (zero-mul (2 ^ w + 1)) (sym (add-zero first-start));
    }

-- a turn
module _ {codes : List ℕ} {w first_bit first-start count bits waiting next start t : ℕ}
    (at : Walk codes w first_bit first-start count bits waiting next start t) (few : w ≤ 7) (less : t < count) where
  -- where the waiting bits begin
  pub place : next * 8 - waiting ≡ first_bit + t * w
  place = omega (arith, at.waits.place)

  -- and that the next w are bits of the codes
  pub there : first_bit + count * w ≤ length codes * 8 → next * 8 - waiting + w ≤ length codes * 8
  there all =
      let more : suc t * w ≤ count * w = mul-le-mul less (le_refl w) in
      rw place (omega (arith, suc-mul t w))

  module _ {room : ℕ} (all : first-start + count * (2 ^ w + 1) ≤ room) where
    -- the dimension's places are there
    inside : start + 2 ^ w < room
    inside =
        let more : suc t * (2 ^ w + 1) ≤ count * (2 ^ w + 1) = mul-le-mul less (le_refl (2 ^ w + 1)) in
        omega (arith, at.start_is, suc-mul t (2 ^ w + 1))

    pub stride : start + (1 * 2 ^ w % 2 ^ 64 + 1) ≤ room
    stride = rw (regions w few).exact (omega (arith, inside))

    -- and so is that of the region
    pub index : (x : ℕ) → start + bit_and x (1 * 2 ^ w % 2 ^ 64 - 1) + 1 < room
    index x =
        let below : bit_and x (1 * 2 ^ w % 2 ^ 64 - 1) < 2 ^ w = rw ((regions w few).exact, and_mask x w) (mod-lt x (pow_pos w)) in
        omega (arith, inside)

  module _ {bits' waiting' next' : ℕ} (took : Taken codes w (next * 8 - waiting) bits' waiting' next') where
    pub region : bit_and (bits' / 2 ^ waiting') (1 * 2 ^ w % 2 ^ 64 - 1) ≡ bits_at codes (first_bit + t * w) w
    region = rw ((regions w few).exact, and_mask (bits' / 2 ^ waiting') w, took.region, place)

    pub goes_on_lem : Walk codes w first_bit first-start count bits' waiting' next' (start + (1 * 2 ^ w % 2 ^ 64 + 1)) (t + 1)
    goes_on_lem =
        let bit : first_bit + suc t * w ≡ next * 8 - waiting + w = rw (suc-mul t w, place) (omega arith) in
        rw (add-one t, (regions w few).exact)
        (record {
          within = less;
          waits = rw bit took.rest;
          start_is = rw (suc-mul t (2 ^ w + 1)) (omega (arith, at.start_is));
        })
