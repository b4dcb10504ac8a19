-- `magnitude` meets its contract: less than a half below the least field, and counted in parts from there on. Assumes nothing.
use Rattle.std.proofs.Common.{◌≡◌, sym, ◌∙◌, ℕ, ◌+◌, ◌-◌, ◌*◌, ◌%◌, ◌^◌, ◌≤◌, ◌<◌, lt_of_lt_of_le, arith, lit≤}
use Rattle.std.proofs.Math.Nat.{mod-eq_of_lt}
use Rattle.reading.specs.Component.{unit}
use Rattle.reading.proofs.Rounding.{closest_none}
use Rattle.reading.proofs.Patterns.{small, in_parts, parts_fit}
use Rattle.reading.proofs.value.magnitude.Goals as goal

pub returns-then-field-lt-LEAST_FIELD : goal.returns-then-field-lt-LEAST_FIELD
returns-then-field-lt-LEAST_FIELD c =
    record { is = sym (closest_none _ _ (small c.args.field c.args.fraction c.if-field-lt-LEAST_FIELD.true c.requires.1)); small = omega arith }

-- the shift loses nothing
shifted : (x t : ℕ) → x ≤ 134 → t < 2 ^ 23 → (2 ^ 23 + t) * unit * 2 ^ (x - 118) % 2 ^ 64 ≡ (2 ^ 23 + t) * unit * 2 ^ (x - 118)
shifted x t h bound = mod-eq_of_lt (lt_of_lt_of_le (parts_fit x t h bound) (lit≤ tt))

pub nearest-requires : goal.nearest-requires
nearest-requires c =
    rw (c.from-significand.ensures, shifted c.args.field c.args.fraction c.requires.0 c.requires.1)
    (parts_fit c.args.field c.args.fraction c.requires.0 c.requires.1)

pub returns : goal.returns
returns c =
    let exact = shifted c.args.field c.args.fraction c.requires.0 c.requires.1 in
    record {
      is = rw (c.from-significand.ensures, exact) at c.nearest.ensures.is ∙ in_parts c.args.field c.args.fraction c.if-field-lt-LEAST_FIELD.false;
      small = c.nearest.ensures.small;
    }
