-- A code's dimensions in two runs, those with one bit more and the others: what the numbers of a loop over them stay below. Assumes
-- nothing.
use Rattle.std.specs.Prelude.{Ok}
use mathlib.Core.Path.{◌≡◌}
use Prim.Native.Nat.{ℕ, ◌+◌, ◌*◌, ◌/◌, ◌%◌, ◌^◌, ◌≤◌, ◌<◌}
use native.Mathlib.Nat.{mod-lt, mul-le-mul}
use native.Mathlib.Omega.{arith}
use lib.Pow.{pow_mono}
use Rattle.refusal.specs.First.{first}
use Rattle.limits.specs.Limits.{max_dimensions, max_dimension_bits, max_vectors}
use Rattle.layout.specs.Laws.{shifted, fewest_le}
use Rattle.layout.specs.Stretch.{shape_causes, Shape, shape, codes_bits_le}

-- a dimension's regions, as a shift gives their number, for one bit more than a dimension can have
pub record Regions (w : ℕ) : Type 0 where
  pub exact : 1 * 2 ^ w % 2 ^ 64 ≡ 2 ^ w
  pub most : 2 ^ w ≤ 128

pub regions : (w : ℕ) → w ≤ 7 → Regions w
regions w few = record { exact = shifted w (omega arith); most = pow_mono few }

-- for code i of a shape
pub record Sized (d b i : ℕ) : Type 0 where
  pub some : 1 ≤ d
  pub few : d ≤ max_dimensions
  pub fewest : b / d ≤ max_dimension_bits
  pub more : b % d < d
  pub bits : i * b ≤ max_vectors * (max_dimension_bits * max_dimensions)
  pub shift : Regions (b / d + 1)
  pub wide_bits : b % d * (b / d + 1) ≤ 32 * 7
  pub wide_marks : b % d * (2 ^ (b / d + 1) + 1) ≤ 32 * 129

pub sized_shape : (d b i : ℕ) → Shape d b → i < max_vectors → Sized d b i
sized_shape d b i shaped numbered =
    let fewest : b / d ≤ max_dimension_bits = fewest_le max_dimension_bits d b shaped.bits in
    let more : b % d < d = mod-lt b shaped.some in
    let wide : b / d + 1 ≤ 7 = omega arith in
    let most : 2 ^ (b / d + 1) + 1 ≤ 129 = omega (arith, (regions (b / d + 1) wide).most) in
    let dimensions : b % d ≤ 32 = omega (arith, shaped.few) in
    record {
      some = shaped.some;
      few = shaped.few;
      fewest = fewest;
      more = more;
      bits = codes_bits_le i shaped (omega arith);
      shift = regions (b / d + 1) wide;
      wide_bits = mul-le-mul dimensions wide;
      wide_marks = mul-le-mul dimensions most;
    }

pub sized : (d b i : ℕ) → first (shape_causes d b) ≡ Ok tt → i < max_vectors → Sized d b i
sized d b i accepted numbered = sized_shape d b i (shape d b accepted) numbered
