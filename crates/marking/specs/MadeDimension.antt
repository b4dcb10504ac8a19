-- Laws of one dimension's marks, made from n components in order between two outer marks: how many they are, which stands where, that
-- they pass the marks test, and which components lie inside them. Assumes nothing.
use Rattle.std.specs.Prelude.{◌≡◌, Bool, cond, List, [], ◌∷◌, ℕ, zero, suc, ◌+◌, ◌-◌, ◌*◌, ◌/◌, ◌^◌, ◌≤◌, ◌<◌, ltb, eqb, ℤ, pos, length, get_or}
use Rattle.std.proofs.Math.Path.{refl}
use Rattle.std.proofs.Common.{sym, ◌∙◌, inl, inr, mul_comm, mul-le-mul_right, mul-lt-mul_of_pos_right, div-lt_iff_lt-mul, eq-or-lt_of_le, arith}
use Rattle.std.proofs.Math.Bool.{true, false}
use borrow.Author.Tests.{le-leb, lt-ltb, le-ltb, ne_eqb}
use Rattle.std.specs.Int.Signed.{le_z, lt_z}
use Rattle.std.proofs.Math.Pow.{pow_pos, shr_mono}
use Rattle.limits.specs.Limits.{least_mark, greatest_mark, is_component, is_mark}
use Rattle.limits.specs.Tests.{Between, between}
use Rattle.signed.specs.Keys.{key_of, key_le, key_lt, key_component, key_mark, mark_small}
use Rattle.region.specs.Dimension.{not_above, good_dimension}
use Rattle.region.specs.Region.{first_mark, last_mark, in_marks}
use Rattle.region.specs.Within.{Within}
use Rattle.region.specs.Regions.{within_marks, last_mark_lem}
use Rattle.marking.specs.Made.{Outer, mark_at, marks_between, scale_ends, made_dimension}
use Rattle.marking.specs.InOrder.{counted_map, counted_map_length, Ordered}

-- ---- components and marks, by their keys

pub key_range : (z : ℤ) → is_component z ≡ true → Between (2 ^ 31 - 32768) (key_of z) (2 ^ 31 + 32767)
key_range z is = between (2 ^ 31 - 32768) (key_of z) (2 ^ 31 + 32767) (sym (key_component z) ∙ is)

pub key_is_mark : (z : ℤ) → 2 ^ 31 - 32768 ≤ key_of z → key_of z ≤ 2 ^ 31 + 32768 → is_mark z ≡ true
key_is_mark z low high = key_mark z ∙ rw (le-leb (2 ^ 31 - 32768) (key_of z) low) (le-leb (key_of z) (2 ^ 31 + 32768) high)

pub component_mark : (z : ℤ) → is_component z ≡ true → is_mark z ≡ true
component_mark z is =
    let range = key_range z is in
    key_is_mark z range.above (omega (arith, range.below))

mark_le : (a b : ℤ) → is_mark a ≡ true → is_mark b ≡ true → key_of a ≤ key_of b → le_z a b ≡ true
mark_le a b is-a is_b le = key_le a b (mark_small a is-a) (mark_small b is_b) ∙ le-leb (key_of a) (key_of b) le

mark_lt : (a b : ℤ) → is_mark a ≡ true → is_mark b ≡ true → key_of a < key_of b → lt_z a b ≡ true
mark_lt a b is-a is_b lt = key_lt a b (mark_small a is-a) (mark_small b is_b) ∙ lt-ltb (key_of a) (key_of b) lt

-- ---- a list of marks that is good mark by mark

good_by_marks : (marks : List ℤ) → ((i : ℕ) → i < length marks → is_mark (get_or marks i (pos 0)) ≡ true)
    → ((i : ℕ) → suc i < length marks → le_z (get_or marks i (pos 0)) (get_or marks (suc i) (pos 0)) ≡ true) → good_dimension marks ≡ true
unfolding good_dimension not_above
good_by_marks [] each rise = refl
good_by_marks (m ∷ []) each rise = rw (each 0 (omega arith))
good_by_marks (m ∷ next ∷ ms) each rise =
    rw (each 0 (omega arith), rise 0 (omega arith))
    (good_by_marks (next ∷ ms) (λ i within. each (suc i) (omega arith)) (λ i within. rise (suc i) (omega arith)))

-- ---- places

pub place_below : (i n w : ℕ) → i < 2 ^ w → 0 < n → i * n / 2 ^ w < n
place_below i n w below some = (div-lt_iff_lt-mul (pow_pos w)).1 (rw (mul_comm n (2 ^ w)) (mul-lt-mul_of_pos_right below some))

place_rises : (i j n w : ℕ) → i ≤ j → i * n / 2 ^ w ≤ j * n / 2 ^ w
place_rises i j n w le = shr_mono w (mul-le-mul_right n le)

-- ---- the marks

module _ (outer : Outer) (n w : ℕ) (ordered : List ℤ) where
  pub between_length : length (marks_between outer n w ordered) ≡ 2 ^ w + 1
  unfolding marks_between
  between_length = counted_map_length (mark_at outer n w ordered) (2 ^ w + 1)

  pub between_at : (i : ℕ) → i ≤ 2 ^ w → get_or (marks_between outer n w ordered) i (pos 0) ≡ mark_at outer n w ordered i
  unfolding marks_between
  between_at i most = counted_map (mark_at outer n w ordered) (2 ^ w + 1) i (omega arith)

  -- the first, an inner one, the last
  pub mark_first : mark_at outer n w ordered 0 ≡ outer.first
  unfolding mark_at
  mark_first = refl

  pub mark_inner : (i : ℕ) → 0 < i → i < 2 ^ w → mark_at outer n w ordered i ≡ get_or ordered (i * n / 2 ^ w) (pos 0)
  unfolding mark_at
  mark_inner i some below = rw (ne_eqb i 0 (omega arith), lt-ltb i (2 ^ w) below)

  pub mark_last : (i : ℕ) → 2 ^ w ≤ i → mark_at outer n w ordered i ≡ outer.last
  unfolding mark_at
  mark_last i past = rw (ne_eqb i 0 (omega (arith, pow_pos w)), le-ltb i (2 ^ w) past)

  pub between_first : first_mark (marks_between outer n w ordered) ≡ outer.first
  between_first = between_at 0 (omega arith) ∙ mark_first

  pub between_last : last_mark (marks_between outer n w ordered) ≡ outer.last
  between_last =
      last_mark_lem (marks_between outer n w ordered) (2 ^ w) (omega (arith, between_length))
      ∙ between_at (2 ^ w) (omega arith)
      ∙ mark_last (2 ^ w) (omega arith)

-- outer marks that no component lies beyond
pub record Around (n : ℕ) (ordered : List ℤ) (outer : Outer) : Type 0 where
  pub first_mark : is_mark outer.first ≡ true
  pub last_mark_lem : is_mark outer.last ≡ true
  pub above_first : (p : ℕ) → p < n → key_of outer.first ≤ key_of (get_or ordered p (pos 0))
  pub below_last : (p : ℕ) → p < n → key_of (get_or ordered p (pos 0)) ≤ key_of outer.last

module _ {outer : Outer} {n : ℕ} (w : ℕ) {ordered : List ℤ} (some : 0 < n) (is : Ordered n ordered) (around : Around n ordered outer) where
  abbrev mark : ℕ → ℤ
  mark i = mark_at outer n w ordered i

  -- the component at the place of region i's lower mark
  abbrev share : ℕ → ℤ
  share i = get_or ordered (i * n / 2 ^ w) (pos 0)

  mark_is_mark : (i : ℕ) → is_mark (mark i) ≡ true
  unfolding mark_at
  mark_is_mark i = go (eqb i 0) (ltb i (2 ^ w))
    where
      go : (s t : Bool) → is_mark (cond s outer.first (cond t (share i) outer.last)) ≡ true
      go true t = around.first_mark
      go false true = component_mark (share i) (is.components (i * n / 2 ^ w))
      go false false = around.last_mark_lem

  -- a region's lower mark is not above that component, and its upper mark not below
  lower_below : (i : ℕ) → i < 2 ^ w → key_of (mark i) ≤ key_of (share i)
  lower_below zero below = rw (mark_first outer n w ordered) (around.above_first (0 * n / 2 ^ w) (place_below 0 n w below some))
  lower_below (suc i) below = rw (mark_inner outer n w ordered (suc i) (omega arith) below) (omega arith)

  upper_above : (i : ℕ) → i < 2 ^ w → key_of (share i) ≤ key_of (mark (suc i))
  upper_above i below =
      elim (eq-or-lt_of_le below) [
        | inl e ↦
            rw (mark_last outer n w ordered (suc i) (omega arith)) (around.below_last (i * n / 2 ^ w) (place_below i n w below some))
        | inr more ↦
            rw (mark_inner outer n w ordered (suc i) (omega arith) more)
            (is.rises (i * n / 2 ^ w) (suc i * n / 2 ^ w) (place_rises i (suc i) n w (omega arith)) (place_below (suc i) n w more some))
      ]

  pub between_good : good_dimension (marks_between outer n w ordered) ≡ true
  between_good = good_by_marks (marks_between outer n w ordered) each rise
    where
      count : length (marks_between outer n w ordered) ≡ 2 ^ w + 1
      count = between_length outer n w ordered

      each : (i : ℕ) → i < length (marks_between outer n w ordered) → is_mark (get_or (marks_between outer n w ordered) i (pos 0)) ≡ true
      each i within = rw (between_at outer n w ordered i (omega (arith, count))) (mark_is_mark i)

      rise : (i : ℕ) → suc i < length (marks_between outer n w ordered)
          → le_z (get_or (marks_between outer n w ordered) i (pos 0)) (get_or (marks_between outer n w ordered) (suc i) (pos 0)) ≡ true
      rise i within =
          let below : i < 2 ^ w = omega (arith, count) in
          rw (between_at outer n w ordered i (omega arith), between_at outer n w ordered (suc i) below)
          (mark_le (mark i) (mark (suc i)) (mark_is_mark i) (mark_is_mark (suc i))
          (omega (arith, lower_below i below, upper_above i below)))

-- ---- between the ends of the scale

-- the keys of the ends
first_key : key_of least_mark ≡ 2 ^ 31 - 32768
unfolding key_of
first_key = refl

last_key : key_of greatest_mark ≡ 2 ^ 31 + 32768
unfolding key_of
last_key = refl

scale_around : {n : ℕ} {ordered : List ℤ} → Ordered n ordered → Around n ordered scale_ends
scale_around {ordered = ordered} is = record {
  first_mark = refl;
  last_mark_lem = refl;
  above_first = λ p within. rw first_key (key_range (get_or ordered p (pos 0)) (is.components p)).above;
  below_last = λ p within. omega (arith, last_key, (key_range (get_or ordered p (pos 0)) (is.components p)).below);
}

pub made_good : {n : ℕ} (w : ℕ) {ordered : List ℤ} → 0 < n → Ordered n ordered → good_dimension (made_dimension n w ordered) ≡ true
made_good w some is = between_good w some is (scale_around is)

-- every component lies between the ends, and so inside the marks
pub on_scale : (z : ℤ) → is_component z ≡ true → Within least_mark z greatest_mark
on_scale z is =
    let range = key_range z is in
    record {
      lower = mark_le least_mark z refl (component_mark z is) (rw first_key range.above);
      upper = mark_lt z greatest_mark (component_mark z is) refl (omega (arith, last_key, range.below));
    }

pub made_in : (n w : ℕ) (ordered : List ℤ) (z : ℤ) → is_component z ≡ true → in_marks (made_dimension n w ordered) z ≡ true
made_in n w ordered z is =
    within_marks (made_dimension n w ordered) z
    (rw (between_first scale_ends n w ordered, between_last scale_ends n w ordered) (on_scale z is))
