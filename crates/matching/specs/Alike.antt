-- Inputs that begin with the same bytes: a record that stands within those is the same record in both. Assumes nothing.
use Rattle.std.specs.Prelude.{◌≡◌, refl, Bool, true, false, cond, List, [], ◌∷◌, ℕ, zero, suc, ◌+◌, ◌-◌, ◌≤◌, ◌<◌, eqb, length, get_or, take, drop}
use Rattle.std.proofs.Common.{sym, ◌∙◌, arith, le-ltb, ne_eqb, lit≤, length-take, length-drop, get_or-take, get_or-drop}
use Rattle.records.specs.Bytes.{from_low_first}
use Rattle.records.specs.Records.{vector_kind, formats, widths_among, widths_of, sum, record_length, split, kind_of, value_of}
use Rattle.records.specs.Frame.{frame_causes}

-- both have m bytes, and the first m of them are the same
pub record Alike (m : ℕ) (a b : List ℕ) : Type 0 where
  pub one_has : m ≤ length a
  pub other_has : m ≤ length b
  pub same : (i : ℕ) → i < m → get_or a i 0 ≡ get_or b i 0

-- what is cut off behind the first m bytes is not looked at
pub alike_take : (m : ℕ) (bytes : List ℕ) → m ≤ length bytes → Alike m bytes (take m bytes)
alike_take m bytes long = record {
  one_has = long;
  other_has = omega (arith, length-take m bytes);
  same = λ i h. sym (get_or-take m bytes i 0 h);
}

pub alike_drop : {m : ℕ} {a b : List ℕ} (p : ℕ) → Alike m a b → Alike (m - p) (drop p a) (drop p b)
alike_drop {m} {a} {b} p is = record {
  one_has = rw (length-drop p a) (omega (arith, is.one_has));
  other_has = rw (length-drop p b) (omega (arith, is.other_has));
  same = λ i h. get_or-drop p a i 0 ∙ is.same (p + i) (omega arith) ∙ sym (get_or-drop p b i 0);
}

-- ---- values

pub same_number : (w : ℕ) {m : ℕ} {a b : List ℕ} → Alike m a b → w ≤ m → from_low_first w a ≡ from_low_first w b
unfolding from_low_first
same_number zero is room = refl
same_number (suc w) {m} {a} {b} is room = rw (is.same 0 (omega arith), same_number w (alike_drop 1 is) (omega arith))

same_split : (ws : List ℕ) {m : ℕ} {a b : List ℕ} → Alike m a b → sum ws ≤ m → split ws a ≡ split ws b
unfolding split sum
same_split [] is room = refl
same_split (w ∷ ws) is room = rw (same_number w is (omega arith), same_split ws (alike_drop w is) (omega arith))

pub same_value : (kind i : ℕ) {m : ℕ} {a b : List ℕ} → Alike m a b → record_length kind ≤ m → value_of kind i a ≡ value_of kind i b
unfolding value_of record_length
same_value kind i is room = rw (same_split (widths_of kind) (alike_drop 1 is) (omega arith))

pub same_kind : {m : ℕ} {a b : List ℕ} → Alike m a b → 0 < m → kind_of a ≡ kind_of b
same_kind is some = is.same 0 some

-- ---- records

sum_cond : (t : Bool) (m : ℕ) (ws rest : List ℕ) → sum ws ≤ m → sum rest ≤ m → sum (cond t ws rest) ≤ m
sum_cond true m ws rest one other = one
sum_cond false m ws rest one other = other

-- no record is longer than a vector's
pub record_most : (kind : ℕ) → record_length kind ≤ record_length vector_kind
unfolding record_length sum widths_of widths_among formats
record_most kind =
    let most : sum (widths_of kind) ≤ 68 =
    sum_cond (eqb kind 1) 68 _ _ (lit≤ tt)
    (sum_cond (eqb kind 2) 68 _ _ (lit≤ tt)
    (sum_cond (eqb kind 3) 68 _ _ (lit≤ tt)
    (sum_cond (eqb kind 4) 68 _ _ (lit≤ tt)
    (sum_cond (eqb kind 5) 68 _ _ (lit≤ tt)
    (sum_cond (eqb kind 6) 68 _ _ (lit≤ tt) (sum_cond (eqb kind 7) 68 _ [] (lit≤ tt) (lit≤ tt))))))) in
    omega arith

pub same_frame : (placed : Bool) {m : ℕ} {a b : List ℕ} → Alike m a b → record_length (kind_of a) ≤ m
    → frame_causes placed a ≡ frame_causes placed b
unfolding frame_causes record_length
same_frame placed {m} {a} {b} is room =
    let some : 0 < m = omega arith in
    rw (
      ne_eqb (length a) 0 (λ e. omega (arith, is.one_has)),
      ne_eqb (length b) 0 (λ e. omega (arith, is.other_has)),
      le-ltb (length a) (record_length (kind_of a)) (omega (arith, is.one_has)),
      ← same_kind is some,
      le-ltb (length b) (record_length (kind_of a)) (omega (arith, is.other_has)),
    )
