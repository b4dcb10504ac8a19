-- Marks by document 01's rule, as they were made before document 02, Slip 2. No code makes them any more; files hold them.
-- Assumes nothing.
use Rattle.std.specs.Prelude.{◌≡◌, refl, true, List, ℕ, zero, suc, ◌-◌, ◌^◌, ◌<◌, ℤ, pos, negsuc, get_or}
use Rattle.std.proofs.Common.{arith}
use Rattle.std.proofs.Math.IntN.{suc_ℤ}
use Rattle.std.specs.Int.Signed.{mag}
use Rattle.limits.specs.Limits.{is_component, is_mark}
use Rattle.signed.specs.Keys.{key_of, component_small}
use Rattle.signed.specs.Components.{are_components}
use Rattle.layout.specs.Layout.{bits_of}
use Rattle.partition.specs.Marks.{good_marks}
use Rattle.marking.specs.Made.{Outer, column, in_order, first_between}
use Rattle.marking.specs.InOrder.{Ordered, column_ordered}
use Rattle.marking.specs.MadeDimension.{Around, between_good, key_range, key_is_mark, component_mark}
use Rattle.marking.specs.MadeLaws.{between_passes}

-- "the first is the dimension's least component, the last its greatest plus 1": of n components in non-falling order, those at places 0
-- and n - 1
abbrev pub former_outer : ℕ → List ℤ → Outer
former_outer n ordered = record { first = get_or ordered 0 (pos 0); last = suc_ℤ (get_or ordered (n - 1) (pos 0)) }

-- those of dimension t + 1, and all marks
abbrev pub former_outers : ℕ → ℕ → List ℤ → ℕ → Outer
former_outers d n vectors t = former_outer n (in_order (column d n vectors t))

abbrev pub former_marks : ℕ → ℕ → ℕ → List ℤ → List ℤ
former_marks d b n vectors = first_between (former_outers d n vectors) d b n vectors d

-- ---- laws

key_suc : (z : ℤ) → mag z < 2 ^ 31 → key_of (suc_ℤ z) ≡ suc (key_of z)
unfolding key_of
key_suc (pos n) small = omega arith
key_suc (negsuc zero) small = refl
key_suc (negsuc (suc n)) small = omega arith

-- the number behind a component is a mark
next_mark : (z : ℤ) → is_component z ≡ true → is_mark (suc_ℤ z) ≡ true
next_mark z is =
    let range = key_range z is in
    let key = key_suc z (component_small z is) in
    key_is_mark (suc_ℤ z) (omega (arith, range.above)) (omega (arith, range.below))

former_around : {n : ℕ} {ordered : List ℤ} → 0 < n → Ordered n ordered → Around n ordered (former_outer n ordered)
former_around {n} {ordered} some is =
    let top = get_or ordered (n - 1) (pos 0) in
    let key = key_suc top (component_small top (is.components (n - 1))) in
    record {
      first_mark = component_mark (get_or ordered 0 (pos 0)) (is.components 0);
      last_mark_lem = next_mark top (is.components (n - 1));
      above_first = λ p within. is.rises 0 p (omega arith) within;
      below_last = λ p within. omega (arith, key, is.rises p (n - 1) (omega arith) (omega arith));
    }

-- they pass the marks test
pub former_passes : (d b n : ℕ) (vectors : List ℤ) → 0 < n → are_components vectors ≡ true
    → good_marks d b (former_marks d b n vectors) ≡ true
former_passes d b n vectors some are =
    between_passes (former_outers d n vectors) d b n vectors
    (λ t.
    let ordered = column_ordered d n vectors t are in
    between_good (bits_of d b (suc t)) some ordered (former_around some ordered))
