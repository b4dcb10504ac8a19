-- A number up to the greatest is a power of two exactly where it is one of those, and none above is. Assumes nothing.
use Rattle.std.proofs.Common.{◌≡◌, refl, Bool, true, false, not, cond, sym, ◌∙◌, ℕ, zero, suc, ◌+◌, ◌≤◌, ◌<◌, ◌^◌, arith, inl, inr, eq-or-lt_of_le}
use borrow.Author.Tests.{lt-leb}
use lib.Pow.{pow_mono}
use mathlib.Core.Bool.{and-eq-true_iff}
use Rattle.std.specs.List.{list_all, range_with_len}
use Rattle.std.specs.Int.{is_power_of_two}
use Rattle.std.specs.Int.Count.{ones, ones_in}
use Rattle.limits.specs.Limits.{max_dimension_bits}
use Rattle.region.specs.RegionCount.{is_power, is_region_count, power_of}
use Rattle.region.proofs.is_region_count.Goals as goal

abbrev agree : ℕ → Bool
agree n = cond (is_power_of_two n) (is_region_count n) (not (is_region_count n))

all_agree : list_all agree (range_with_len 0 65) ≡ true
unfolding is_power ones ones_in
all_agree = refl

each : (test : ℕ → Bool) (k a n : ℕ) → list_all test (range_with_len a k) ≡ true → a ≤ n → n < a + k → test n ≡ true
each test zero a n all above below = absurd (omega arith)
each test (suc k) a n all above below =
    let both = (and-eq-true_iff (test a) (list_all test (range_with_len (a + 1) k))).0 all in
    elim (eq-or-lt_of_le above) [
      | inl here ↦ rw (← here) both.0
      | inr later ↦ each test k (a + 1) n both.1 (omega arith) (omega arith)
    ]

alike : (s t : Bool) → cond s t (not t) ≡ true → s ≡ t
alike true t e = sym e
alike false true e = e
alike false false e = refl

-- no number above the greatest is one of them
none_above : (n : ℕ) → 64 < n → (t : Bool) → is_region_count n ≡ t → t ≡ false
none_above n above false is = refl
none_above n above true is =
    let power = power_of max_dimension_bits n is in
    let most : 2 ^ power.w ≤ 2 ^ max_dimension_bits = pow_mono power.within in
    absurd (omega (arith, power.is))

pub returns-then-regions : goal.returns-then-regions
unfolding ones
returns-then-regions c =
    c.is_power_of_two.ensures
    ∙ alike (is_power_of_two c.args.regions) (is_region_count c.args.regions) (each agree 65 0 c.args.regions all_agree (omega arith) (omega arith))

pub returns-else-regions : goal.returns-else-regions
returns-else-regions c = lt-leb c.args.regions 64 c.if-regions.false ∙ sym (none_above c.args.regions c.if-regions.false _ refl)
