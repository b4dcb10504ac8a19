-- Laws of codes: packing and unpacking undo each other, and where a region number stands in its code. Assumes nothing.
use Rattle.std.specs.Prelude.{◌≡◌, Bool, cond, get_or, replicate}
use Rattle.std.proofs.Math.Path.{refl, sym, ap}
use Rattle.std.proofs.Common.{◌∙◌, le_of_suc-le-suc, suc-mul, mod-lt, div-add-mod', lit≤, length-drop}
use Rattle.std.proofs.Math.Bool.{true, false, and-eq-true_iff}
use mathlib.Core.List.{List, [], ◌∷◌, ◌++◌, append_assoc}
use Prim.Native.Nat.{ℕ, zero, suc, ◌+◌, ◌-◌, ◌*◌, ◌/◌, ◌%◌, ◌^◌, ◌≤◌, ◌<◌}
use Rattle.std.proofs.Math.Nat.{suc-add, add-suc, add_assoc, add-zero, zero-add, zero-mul, zero-div, zero-mod, mul-mod_left, mul-div_left, mod-eq_of_lt}
use native.Mathlib.Omega.{arith}
use borrow.Author.Tests.{ltb-true, lt-ltb, eqb-true, eqb-false}
use Rattle.std.proofs.Math.Arith.{digits_lt, digits_div, digits_mod}
use Rattle.std.proofs.Math.Dec.{eqb}
use Rattle.std.proofs.Math.ListN.{length, drop, length-append, drop_of_length-le}
use Rattle.std.proofs.Math.Seq.{drop_at, drop-drop}
use Rattle.layout.specs.Layout.{bits_of, region_count, first_bits}
use Rattle.layout.specs.Laws.{all_bits}
use Rattle.layout.specs.Runs.{Run, run_bits}
use Rattle.codes.specs.Bits.{low_bits, from_bits, byte_bits, bits_at, all_zero}
use Rattle.codes.specs.BitLaws.{Binary, none, binary_drop, binary_append, binary_low, binary_bytes, Bytes, padded, length_low}
use Rattle.codes.specs.BitLaws.{length_bytes, length_byte_bits, low_from, from_low, from_lt, from_zero, padded_add, padded_long}
use Rattle.codes.specs.BitLaws.{padded_same, zeros, bytes_same, bytes_of_lem, bits_bytes, bytes_bits, bits_at_lem, Same}
use Rattle.codes.specs.Codes.{next_column, joined, regions_fit, code_length, packed, split, unpacked, code_region, spare_zero}

-- ---- region numbers joined, and split again

module _ (d b : ℕ) where
  pub binary_joined : (t : ℕ) (regions : List ℕ) → Binary (joined d b t regions)
  unfolding joined
  binary_joined t [] = none
  binary_joined t (r ∷ rs) = binary_append (binary_low (bits_of d b (suc t)) r) (binary_joined (next_column d t) rs)

  split_joined : (t : ℕ) (regions rest : List ℕ) → regions_fit d b t regions ≡ true
      → split d b t (length regions) (joined d b t regions ++ rest) ≡ regions
  unfolding joined split regions_fit
  split_joined t [] rest fit = refl
  split_joined t (r ∷ rs) rest fit =
      let w = bits_of d b (suc t) in
      let fits = (and-eq-true_iff _ _).0 fit in
      rw (
        append_assoc,
        from_low w r (joined d b (next_column d t) rs ++ rest),
        mod-eq_of_lt (ltb-true r (2 ^ w) fits.0),
        drop_at (low_bits w r) (joined d b (next_column d t) rs ++ rest) w (length_low w r),
        split_joined (next_column d t) rs rest fits.1,
      )

  joined_split : (t count : ℕ) {bits : List ℕ} → Binary bits
      → joined d b t (split d b t count bits) ≡ padded (length (joined d b t (split d b t count bits))) bits
  unfolding joined split padded
  joined_split t zero h = refl
  joined_split t (suc count) {bits} h =
      let w = bits_of d b (suc t) in
      let rest = joined d b (next_column d t) (split d b (next_column d t) count (drop w bits)) in
      ap (λ (front : List ℕ). front ++ rest) (low_from w h)
      ∙ ap (λ (back : List ℕ). padded w bits ++ back) (joined_split (next_column d t) count (binary_drop w h))
      ∙ sym (rw (length-append (low_bits w (from_bits w bits)) rest, length_low w (from_bits w bits)) (padded_add w (length rest) bits))

  length_split : (t count : ℕ) (bits : List ℕ) → length (split d b t count bits) ≡ count
  unfolding split
  length_split t zero bits = refl
  length_split t (suc count) bits = ap suc (length_split (next_column d t) count (drop (bits_of d b (suc t)) bits))

  split_fit : (t count : ℕ) {bits : List ℕ} → Binary bits → regions_fit d b t (split d b t count bits) ≡ true
  unfolding split regions_fit
  split_fit t zero h = refl
  split_fit t (suc count) {bits} h =
      let w = bits_of d b (suc t) in
      (and-eq-true_iff _ _).1 (lt-ltb (from_bits w bits) (2 ^ w) (from_lt w h), split_fit (next_column d t) count (binary_drop w h))

-- ---- the place of region number p: it stands in column p % d, behind this many bits

abbrev before : ℕ → ℕ → ℕ → ℕ
before d b p = p / d * b + first_bits d b (p % d)

module _ (d b : ℕ) (some : 0 < d) where
  -- the next one's
  next : (q r : ℕ) → r < d → (next_column d r ≡ suc (q * d + r) % d)
      × (q * b + first_bits d b r + bits_of d b (suc r) ≡ before d b (suc (q * d + r)))
  unfolding first_bits
  next q r h = go (eqb (suc r) d) refl
    where
      go : (t : Bool) → eqb (suc r) d ≡ t → (cond t 0 (suc r) ≡ suc (q * d + r) % d)
          × (q * b + first_bits d b r + bits_of d b (suc r) ≡ before d b (suc (q * d + r)))
      go true e =
          let row : suc (q * d + r) ≡ suc q * d = rw (suc-mul q d) (omega (arith, eqb-true (suc r) d e)) in
          let whole : first_bits d b (suc r) ≡ b = ap (first_bits d b) (eqb-true (suc r) d e) ∙ all_bits d b some in
          rw (row, mul-mod_left (suc q) d, mul-div_left (suc q) some) (refl, rw (suc-mul q b) (omega arith))
      go false e =
          let inside : suc r < d = omega (arith, eqb-false (suc r) d e) in
          rw (← add-suc (q * d) r, digits_mod q inside, digits_div q inside) (refl, omega arith)

  pub next_column_lem : (p : ℕ) → next_column d (p % d) ≡ suc p % d
  next_column_lem p = (next (p / d) (p % d) (mod-lt p some)).0 ∙ rw div-add-mod'

  next_before : (p : ℕ) → before d b p + bits_of d b (suc (p % d)) ≡ before d b (suc p)
  next_before p = (next (p / d) (p % d) (mod-lt p some)).1 ∙ rw div-add-mod'

  length_from : (p : ℕ) (regions : List ℕ) → before d b p + length (joined d b (p % d) regions) ≡ before d b (p + length regions)
  unfolding joined
  length_from p [] = rw (add-zero (before d b p), add-zero p)
  length_from p (r ∷ rs) =
      let w = bits_of d b (suc (p % d)) in
      rw (
        length-append (low_bits w r) (joined d b (next_column d (p % d)) rs),
        length_low w r,
        next_column_lem p,
        ← add_assoc,
        next_before p,
        add-suc p (length rs),
        ← suc-add p (length rs),
      )
      (length_from (suc p) rs)

  split_from : (p q count : ℕ) (bits : List ℕ) → q < count
      → get_or (split d b (p % d) count (drop (before d b p) bits)) q 0
      ≡ from_bits (bits_of d b (suc ((p + q) % d))) (drop (before d b (p + q)) bits)
  unfolding split
  split_from p q zero bits h = absurd (omega arith)
  split_from p zero (suc count) bits h = rw add-zero
  split_from p (suc q) (suc count) bits h =
      rw (next_column_lem p, drop-drop, next_before p, add-suc p q, ← suc-add p q) (split_from (suc p) q count bits (le_of_suc-le-suc h))

  -- i rows of d numbers and t more have i codes of b bits before them, and the bits of t dimensions
  before_place : (i t : ℕ) → t < d → before d b (i * d + t) ≡ i * b + first_bits d b t
  before_place i t h = rw (digits_div i h, digits_mod i h)

  before_none : before d b 0 ≡ 0
  unfolding first_bits
  before_none = rw (zero-div d, zero-mod d, zero-mul b)

  pub length_joined : (n : ℕ) (regions : List ℕ) → length regions ≡ n * d → length (joined d b 0 regions) ≡ n * b
  unfolding first_bits
  length_joined n regions rows =
      let all =
      rw (
        before_none,
        zero-mod d,
        zero-add (length (joined d b 0 regions)),
        zero-add (length regions),
        rows,
        ← add-zero (n * d),
        before_place n 0 some,
      ) at (length_from 0 regions) in
      all ∙ add-zero (n * b)

  -- numbers behind others go on in the column where these end
  joined_append : (p : ℕ) (front back : List ℕ)
      → joined d b (p % d) (front ++ back) ≡ joined d b (p % d) front ++ joined d b ((p + length front) % d) back
  unfolding joined
  joined_append p [] back = rw add-zero
  joined_append p (r ∷ rs) back =
      rw (next_column_lem p, joined_append (suc p) rs back, add-suc p (length rs), ← suc-add p (length rs))
      (sym (append_assoc (low_bits (bits_of d b (suc (p % d))) r) (joined d b (suc p % d) rs) (joined d b ((suc p + length rs) % d) back)))

  -- behind whole rows they are joined from the first column on
  pub joined_rows : (n : ℕ) (front back : List ℕ) → length front ≡ n * d
      → joined d b 0 (front ++ back) ≡ joined d b 0 front ++ joined d b 0 back
  joined_rows n front back rows =
      rw (zero-mod d, zero-add (length front), rows, mul-mod_left n d) at (joined_append 0 front back)

-- ---- packed and unpacked

pub length_packed : (d b n : ℕ) (regions : List ℕ) → length (packed d b n regions) ≡ code_length b n
unfolding packed
length_packed d b n regions = length_bytes (code_length b n) (joined d b 0 regions)

pub length_unpacked : (d b n : ℕ) (codes : List ℕ) → length (unpacked d b n codes) ≡ n * d
unfolding unpacked
length_unpacked d b n codes = length_split d b 0 (n * d) (byte_bits codes)

pub packed_bytes : (d b n : ℕ) (regions : List ℕ) → Bytes (packed d b n regions)
unfolding packed
packed_bytes d b n regions = bytes_of_lem (code_length b n) (binary_joined d b 0 regions)

-- each number that is unpacked is one of its dimension's
pub unpacked_fit : (d b n : ℕ) (codes : List ℕ) → regions_fit d b 0 (unpacked d b n codes) ≡ true
unfolding unpacked
unpacked_fit d b n codes = split_fit d b 0 (n * d) (binary_bytes codes)

pub code_region_fits : (d b : ℕ) (codes : List ℕ) (i t : ℕ) → code_region d b codes i t < region_count d b (suc t)
unfolding code_region
code_region_fits d b codes i t = from_lt (bits_of d b (suc t)) (binary_drop (i * b + first_bits d b t) (binary_bytes codes))

-- the region that a code names for a dimension of a run
pub run_region : {d b before n w : ℕ} → Run d b before n w → (codes : List ℕ) (i t : ℕ) → t < n
    → code_region d b codes i (before + t) ≡ bits_at codes (i * b + first_bits d b before + t * w) w
unfolding code_region
run_region {d} {b} {before} {w = w} run codes i t below =
    let place : i * b + first_bits d b (before + t) ≡ i * b + first_bits d b before + t * w = omega (arith, run_bits run t (omega arith)) in
    rw (run.same t below, place) (sym (bits_at_lem codes (i * b + first_bits d b before + t * w) w run.few))

-- the spare bits, fewer than 8, are read as one number
pub spare_read : (b n : ℕ) (codes : List ℕ) → length codes ≡ code_length b n → eqb (bits_at codes (n * b) 8) 0 ≡ spare_zero b n codes
spare_read b n codes long =
    let bits = length_byte_bits codes in
    rw (bits_at_lem codes (n * b) 8 (lit≤ tt)) (from_zero 8 (drop (n * b) (byte_bits codes)) (simp length-drop (omega arith)))

module _ (d b n : ℕ) (some : 0 < d) where
  -- the bits of the bytes are those of the numbers, and then zeros
  packed_bits : (regions : List ℕ) → length regions ≡ n * d
      → byte_bits (packed d b n regions) ≡ joined d b 0 regions ++ replicate (code_length b n * 8 - n * b) 0
  unfolding packed
  packed_bits regions rows =
      let bits = length_joined d b some n regions rows in
      let room : n * b ≤ code_length b n * 8 = omega arith in
      bits_bytes (code_length b n) (binary_joined d b 0 regions)
      ∙ rw bits at (padded_long (code_length b n * 8) (joined d b 0 regions) (rw bits room))

  -- with zeros behind them they are those of the numbers alone
  pub packed_same : (regions : List ℕ) → length regions ≡ n * d → Same (byte_bits (packed d b n regions)) (joined d b 0 regions)
  unfolding packed all_zero
  packed_same regions rows =
      let bits = length_joined d b some n regions rows in
      let none : drop (code_length b n * 8) (joined d b 0 regions) ≡ [] =
      drop_of_length-le (joined d b 0 regions) {i = code_length b n * 8} (omega (arith, bits)) in
      rw (bits_bytes (code_length b n) (binary_joined d b 0 regions))
      (padded_same (code_length b n * 8) (joined d b 0 regions) (rw none refl))

  -- no spare bit is set
  pub packed_spare : (regions : List ℕ) → length regions ≡ n * d → spare_zero b n (packed d b n regions) ≡ true
  packed_spare regions rows =
      rw (
        packed_bits regions rows,
        drop_at (joined d b 0 regions) (replicate (code_length b n * 8 - n * b) 0) (n * b) (length_joined d b some n regions rows),
      )
      (zeros (code_length b n * 8 - n * b))

  pub unpacked_packed : (regions : List ℕ) → length regions ≡ n * d → regions_fit d b 0 regions ≡ true
      → unpacked d b n (packed d b n regions) ≡ regions
  unfolding unpacked
  unpacked_packed regions rows fit = rw (packed_bits regions rows, ← rows) (split_joined d b 0 regions _ fit)

  pub packed_unpacked : (codes : List ℕ) → Bytes codes → length codes ≡ code_length b n → spare_zero b n codes ≡ true
      → packed d b n (unpacked d b n codes) ≡ codes
  unfolding packed unpacked
  packed_unpacked codes bytes long spare =
      let bits = byte_bits codes in
      let joined-bits = length_joined d b some n (split d b 0 (n * d) bits) (length_split d b 0 (n * d) bits) in
      let whole : joined d b 0 (split d b 0 (n * d) bits) ≡ padded (n * b) bits =
      joined_split d b 0 (n * d) (binary_bytes codes) ∙ ap (λ (k : ℕ). padded k bits) joined-bits in
      rw (whole, bytes_same (code_length b n) (padded (n * b) bits) bits (padded_same (n * b) bits spare), ← long) (bytes_bits codes bytes)

  pub packed_injective : (one other : List ℕ) → length one ≡ n * d → length other ≡ n * d → regions_fit d b 0 one ≡ true
      → regions_fit d b 0 other ≡ true
      → packed d b n one ≡ packed d b n other → one ≡ other
  packed_injective one other rows other-rows fit other-fit same =
      sym (unpacked_packed one rows fit) ∙ ap (unpacked d b n) same ∙ unpacked_packed other other-rows other-fit

  -- the code of vector i has the bits from i·b on, and of these dimension t + 1 those from first_bits d b t on
  pub code_region_lem : (codes : List ℕ) (i t : ℕ) → i < n → t < d → code_region d b codes i t ≡ get_or (unpacked d b n codes) (i * d + t) 0
  unfolding code_region unpacked
  code_region_lem codes i t row column =
      let inside : i * d + t < n * d = digits_lt row column in
      let all = split_from d b some 0 (i * d + t) (n * d) (byte_bits codes) inside in
      sym (rw (before_none d b some, zero-mod d, zero-add (i * d + t), before_place d b some i t column, digits_mod i column) at all)
