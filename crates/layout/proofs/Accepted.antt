-- What an accepted number of dimensions and of bits says of them. Assumes nothing.
use Rattle.std.specs.Prelude.{◌≡◌, ℕ, ◌*◌, ◌≤◌, Ok}
use Rattle.refusal.specs.First.{first}
use Rattle.limits.specs.Limits.{max_dimensions, max_dimension_bits}
use Rattle.layout.specs.Stretch.{shape_causes, shape}

pub within_limits : (d b : ℕ) → first (shape_causes d b) ≡ Ok tt → (1 ≤ d) × (d ≤ max_dimensions) × (b ≤ max_dimension_bits * d)
within_limits d b accepted =
    let shaped = shape d b accepted in
    (shaped.some, shaped.few, shaped.bits)
