-- The proof of the cycle of calls {locate}. The measure is the number of marks. Assumes nothing.
use Rattle.std.proofs.Common.{◌≡◌, sym, ap, ◌∙◌, List, ℕ, suc, ◌+◌, ◌-◌, ◌≤◌, ◌<◌, ℤ, length, take, drop, arith, w32, length-drop}
use Rattle.std.proofs.lemmas.Int.{to_z-of_z}
use Rattle.std.proofs.Math.Nat.{zero-add, add-zero, add-sub_cancel_left, le_of_eq, le-add_right}
use Rattle.std.proofs.Math.Seq.{length-take-le}
use Rattle.region.specs.Halving.{half_of, half_start, halvings, halved, half_start_le, halvings_le, settled, halvings_enough, halvings_part}
use Rattle.region.proofs.+locate.Goals as goal

-- ---- Three halvings of count marks

abbrev quarter_of : ℕ → ℕ
quarter_of count = half_of (count - half_of count)

abbrev eighth_of : ℕ → ℕ
eighth_of count = half_of (count - half_of count - quarter_of count)

abbrev left_of : ℕ → ℕ
left_of count = count - half_of count - quarter_of count - eighth_of count

-- Each halving moves the start by at most the marks that it takes off.
left_within : (count first second start : ℕ) → first ≤ 0 + half_of count → second ≤ first + quarter_of count → start ≤ second + eighth_of count
    → start + left_of count ≤ count
left_within count first second start one two three = omega arith

-- Three halvings leave fewer marks, and at least one.
left_less : (count : ℕ) → 2 < count → left_of count < count
left_less count some = omega arith

left_some : (count : ℕ) → 2 < count → 1 ≤ left_of count
left_some count some = omega arith

-- Three halvings fewer are enough for the marks that are left.
left_enough : (left count : ℕ) → left < count → left ≤ count - 3 + 2
left_enough left count less = omega arith

behind : (o n count : ℕ) → o + n ≤ count → n ≤ count - o
behind o n count h = omega arith

-- The code's three starts are those of three halvings.
record Moved (marks : List ℤ) (v : ℤ) (first second start : ℕ) : Type 0 where
  once : first ≡ half_start marks v 0 (half_of (length marks))
  twice : second ≡ half_start marks v first (quarter_of (length marks))
  thrice : start ≡ half_start marks v second (eighth_of (length marks))

module _ {marks : List ℤ} {v : ℤ} {first second start : ℕ} (is : Moved marks v first second start) (some : 2 < length marks) where
  abbrev count : ℕ
  count = length marks

  within : start + left_of count ≤ count
  within =
      left_within count first second start (rw is.once (half_start_le marks v 0 (half_of count)))
      (rw is.twice (half_start_le marks v first (quarter_of count))) (rw is.thrice (half_start_le marks v second (eighth_of count)))

  size : length (take (left_of count) (drop start marks)) ≡ left_of count
  size = length-take-le (left_of count) (drop start marks) (rw length-drop (behind start (left_of count) count within))

  unrolled : halved marks v ≡ halvings (count - 3) marks v start (left_of count)
  unfolding halvings
  unrolled =
      let more : count ≡ suc (suc (suc (count - 3))) = omega arith in
      rw (is.thrice, is.twice, is.once) (ap (λ (n : ℕ). halvings n marks v 0 count) more)

  -- The start is found where at most two marks are left.
  found_here : left_of count ≤ 2 → start ≡ halved marks v
  found_here few = sym (unrolled ∙ settled marks v (count - 3) start (left_of count) few)

  -- What is found in the part that is left is found in the marks.
  found : {r : ℕ} → r ≡ halved (take (left_of count) (drop start marks)) v → start + r ≡ halved marks v
  found {r} e =
      let left = left_of count in
      sym (unrolled ∙ halvings_enough marks v (count - 3) left start left (left_enough left count (left_less count some))
      (le-add_right left 2)
      ∙ ap (λ (s : ℕ). halvings left marks v s left) (sym (add-zero start))
      ∙ halvings_part marks v start left left 0 left (left_some count some) (le_of_eq (zero-add left))
      ∙ ap (λ (n : ℕ). start + n) (sym (rw size at e)))

-- ---- The code

pub returns-then-count-le2 : goal.returns-then-count-le2
returns-then-count-le2 t c = sym (settled c.args.marks.now c.args.v _ 0 _ c.if-count-le2.true)

pub returns-then-left-le2 : goal.returns-then-left-le2
returns-then-left-le2 t c =
    let v = to_z-of_z w32 c.args.v c.ranges.v in
    let is : Moved c.args.marks.now c.args.v c.half_start-first.result c.half_start-second.result c.half_start-start.result =
    record { once = rw v at c.half_start-first.ensures; twice = rw v at c.half_start-second.ensures; thrice = rw v at c.half_start-start.ensures } in
    found_here is c.if-count-le2.false c.if-left-le2.true

part_found : (t : ℕ) (c : goal.After-locate t)
    → c.half_start-start.result + c.locate.result ≡ halved c.args.marks.now c.args.v
part_found t c =
    let v = to_z-of_z w32 c.args.v c.ranges.v in
    let is : Moved c.args.marks.now c.args.v c.half_start-first.result c.half_start-second.result c.half_start-start.result =
    record { once = rw v at c.half_start-first.ensures; twice = rw v at c.half_start-second.ensures; thrice = rw v at c.half_start-start.ensures } in
    let part = add-sub_cancel_left c.half_start-start.result (left_of (length c.args.marks.now)) in
    found is c.if-count-le2.false (rw (v, part) at c.locate.ensures)

pub overflow_add-result : goal.overflow_add-result
overflow_add-result t c =
    let n = length c.args.marks.now in
    omega (arith, part_found t c, halvings_le c.args.marks.now c.args.v n 0 n)

pub returns : goal.returns
returns t c = part_found t c
