-- The marks of the first dimensions, by the closed form; the products are small. Assumes nothing.
use Rattle.std.proofs.Common.{◌≡◌, ℕ, ◌+◌, ◌*◌, ◌/◌, ◌%◌, ◌^◌, ◌≤◌, min, sym, mul-le-mul, arith}
use lib.Pow.{pow_mono}
use Rattle.layout.specs.Layout.{first_marks}
use Rattle.layout.specs.Laws.{first_marks_lem, fewest_le, shifted}
use Rattle.layout.proofs.Layout.marks_before.Goals as goal

-- the regions of a dimension without the bit more, as the shift gives them
record Counted (d b j regions wider : ℕ) : Type 0 where
  pub exact : regions ≡ 2 ^ (b / d)
  pub few : regions ≤ 64
  pub each : j * (regions + 1) ≤ 2080
  pub more : wider * regions ≤ 2048
  pub sum : j * (regions + 1) + wider * regions ≡ first_marks d b j

counted : (d b j wider : ℕ) → b ≤ 6 * d → j ≤ 32 → wider ≡ min j (b % d) → Counted d b j (1 * 2 ^ (b / d) % 2 ^ 64) wider
counted d b j wider within few is =
    let narrow = fewest_le 6 d b within in
    let exact = shifted (b / d) (omega (arith, narrow)) in
    let small : 2 ^ (b / d) ≤ 64 = pow_mono narrow in
    let fewer : wider ≤ 32 = omega (arith, few, is) in
    let next : 2 ^ (b / d) + 1 ≤ 65 = omega (arith, small) in
    record {
      exact = exact;
      few = rw exact small;
      each = rw exact (mul-le-mul few next);
      more = rw exact (mul-le-mul fewer small);
      sum = rw (exact, is) (sym (first_marks_lem d b j));
    }

-- what holds where the products are made
at : (c : goal.After-min-wider) → let a = c.args in Counted a.self.d a.self.b a.j (1 * 2 ^ (a.self.b / a.self.d) % 2 ^ 64) c.min-wider.result
at c = let a = c.args in counted a.self.d a.self.b a.j c.min-wider.result a.self.within c.requires c.min-wider.ensures

pub overflow_add-result : goal.overflow_add-result
overflow_add-result c = omega (arith, (at c).few)

pub overflow_mul-result : goal.overflow_mul-result
overflow_mul-result c = omega (arith, (at c).each)

pub overflow_mul-result-2 : goal.overflow_mul-result-2
overflow_mul-result-2 c = omega (arith, (at c).more)

pub overflow_add-result-2 : goal.overflow_add-result-2
overflow_add-result-2 c = omega (arith, (at c).each, (at c).more)

pub returns : goal.returns
returns c = (at c).sum
