-- The dimension's marks stand where the layout has them.
use Rattle.std.proofs.Common.{◌≡◌, ◌∙◌, ap, arith, ℕ, suc, ◌+◌, ◌-◌, ◌*◌, ◌%◌, ◌^◌, ◌<◌, ◌≤◌}
use Rattle.layout.specs.declared.Layout.{Layout}
use Rattle.layout.specs.declared.Stretch.{Stretch}
use Rattle.layout.specs.Layout.{region_count, first_marks, bits_of}
use Rattle.layout.specs.Laws.{shifted, bits_le, marks_le, marks_within, first_next_marks}
use Rattle.cells.proofs.rising.dimension_rises.Goals as goal

-- where the dimension's marks stand, and how many regions they make
record Placed (d b t : ℕ) (s : Stretch) : Type 0 where
  offset_is : s.offset ≡ first_marks d b t
  few_bits : s.bits ≤ 6
  count_is : 1 * 2 ^ s.bits % 2 ^ 64 ≡ region_count d b (t + 1)
  small : s.offset + 1 * 2 ^ s.bits % 2 ^ 64 ≤ 4096

placed : (l : Layout) (t : ℕ) {s : Stretch} → t < l.d → s.offset ≡ first_marks l.d l.b (t + 1 - 1) → s.bits ≡ bits_of l.d l.b (t + 1) → Placed l.d l.b t s
placed l t {s} among offset bits =
    let back : t + 1 - 1 ≡ t = omega arith in
    let next : t + 1 ≡ suc t = omega arith in
    let offset_is : s.offset ≡ first_marks l.d l.b t = offset ∙ ap (first_marks l.d l.b) back in
    let bits_are : s.bits ≡ bits_of l.d l.b (suc t) = bits ∙ ap (bits_of l.d l.b) next in
    let few : s.bits ≤ 6 = rw bits_are (bits_le 6 l.d l.b t l.some l.within) in
    let power = shifted s.bits (omega arith) in
    let most = marks_le 6 l.d l.b l.d l.some l.within in
    let end : s.offset + (2 ^ s.bits + 1) ≡ first_marks l.d l.b (suc t) = rw (offset_is, bits_are) (first_next_marks l.d l.b t) in
    record {
      offset_is = offset_is;
      few_bits = few;
      count_is = power ∙ rw bits;
      small = omega (arith, power, end, marks_within l.d l.b l.d t among, most, l.few);
    }

pub overflow_shl-stretch : goal.overflow_shl-stretch
overflow_shl-stretch c =
    let s = c.stretch-stretch in
    omega (arith, (placed c.args.layout c.args.t c.requires s.ensures.offset s.ensures.bits).few_bits)

pub rises-requires : goal.rises-requires
rises-requires c =
    let s = c.stretch-stretch in
    (placed c.args.layout c.args.t c.requires s.ensures.offset s.ensures.bits).small

pub returns : goal.returns
returns c =
    let s = c.stretch-stretch in
    let at = placed c.args.layout c.args.t c.requires s.ensures.offset s.ensures.bits in
    c.rises.ensures ∙ rw (at.offset_is, at.count_is)
