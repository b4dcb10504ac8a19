-- Laws of buffers in parts: which part stands where, and buffers that are changed over part by part from the front. Assumes nothing.
use Rattle.std.specs.Prelude.{◌≡◌, refl, List, [], ◌∷◌, ◌++◌, drop, get_or, set}
use Rattle.std.proofs.Math.Path.{sym, ap}
use Rattle.std.proofs.Common.{◌∙◌, append_assoc, append-nil, zero-mul, mul-le-mul_right, le_of_eq, add-one, length-drop, length-take-le, take_all, take_at, drop_at, take-add, drop-drop}
use Prim.Native.Nat.{ℕ, zero, suc, ◌+◌, ◌*◌, ◌≤◌, ◌<◌}
use Rattle.std.proofs.Math.Nat.{suc-mul}
use native.Mathlib.Omega.{arith}
use Rattle.std.proofs.Math.ListN.{length, take, length-append}
use Rattle.std.proofs.Math.Seq.{drop-length, drop-append-add}
use Rattle.batch.specs.Parts.{part_at, parts_from, each_from, with_part}

-- ---- one element each

pub each_length : {A : Type 0} (element : ℕ → A) (i m : ℕ) → length (each_from element i m) ≡ m
unfolding each_from
each_length element i zero = refl
each_length element i (suc m) = ap suc (each_length element (suc i) m)

each_at : {A : Type 0} (element : ℕ → A) (i m j : ℕ) (none : A) → j < m → get_or (each_from element i m) j none ≡ element (i + j)
unfolding each_from
each_at element i zero j none below = absurd (omega arith)
each_at element i (suc m) zero none below = ap element (omega arith)
each_at element i (suc m) (suc j) none below =
    let same : suc i + j ≡ i + suc j = omega arith in
    each_at element (suc i) m j none (omega arith) ∙ ap element same

pub each_of : {A : Type 0} (element : ℕ → A) (m j : ℕ) (none : A) → j < m → get_or (each_from element 0 m) j none ≡ element j
each_of element m j none below =
    let same : 0 + j ≡ j = omega arith in
    each_at element 0 m j none below ∙ ap element same

-- ---- one part each

module _ {A : Type 0} (part : ℕ → List A) (size : ℕ) where
  parts_length_from : (i m : ℕ) → ((j : ℕ) → j < i + m → length (part j) ≡ size) → length (parts_from part i m) ≡ m * size
  unfolding parts_from
  parts_length_from i zero sizes = sym (zero-mul size)
  parts_length_from i (suc m) sizes =
      length-append (part i) (parts_from part (suc i) m)
      ∙ omega (arith, sizes i (omega arith), parts_length_from (suc i) m (λ j below. sizes j (omega arith)), suc-mul m size)

  parts_at_from : (i m j : ℕ) → ((t : ℕ) → t < i + m → length (part t) ≡ size) → j < m → part_at size (parts_from part i m) j ≡ part (i + j)
  unfolding parts_from
  parts_at_from i zero j sizes below = absurd (omega arith)
  parts_at_from i (suc m) zero sizes below =
      let here : i ≡ i + 0 = omega arith in
      rw (zero-mul size) (take_at (part i) (parts_from part (suc i) m) size (sizes i (omega arith))) ∙ ap part here
  parts_at_from i (suc m) (suc j) sizes below =
      let first : length (part i) ≡ size = sizes i (omega arith) in
      let place : suc j * size ≡ length (part i) + j * size = omega (arith, first, suc-mul j size) in
      let same : suc i + j ≡ i + suc j = omega arith in
      ap (λ (o : ℕ). take size (drop o (part i ++ parts_from part (suc i) m))) place
      ∙ ap (take size) (drop-append-add (part i) (parts_from part (suc i) m) (j * size))
      ∙ parts_at_from (suc i) m j (λ t less. sizes t (omega arith)) (omega arith)
      ∙ ap part same

  module _ (m : ℕ) (sizes : (j : ℕ) → j < m → length (part j) ≡ size) where
    sizes_from : (j : ℕ) → j < 0 + m → length (part j) ≡ size
    sizes_from j below = sizes j (omega arith)

    pub parts_length : length (parts_from part 0 m) ≡ m * size
    parts_length = parts_length_from 0 m sizes_from

    pub parts_at : (j : ℕ) → j < m → part_at size (parts_from part 0 m) j ≡ part j
    parts_at j below =
        let same : 0 + j ≡ j = omega arith in
        parts_at_from 0 m j sizes_from below ∙ ap part same

-- a part within a buffer of m of them has its size
pub part_ends : (size m i : ℕ) → i < m → i * size + size ≤ m * size
part_ends size m i below =
    let whole : suc i * size ≤ m * size = mul-le-mul_right size below in
    omega (arith, suc-mul i size)

pub part_length : {A : Type 0} (size m i : ℕ) (buffer : List A) → length buffer ≡ m * size → i < m → length (part_at size buffer i) ≡ size
part_length size m i buffer all below =
    length-take-le size (drop (i * size) buffer) (omega (arith, length-drop (i * size) buffer, part_ends size m i below))

-- ---- written over from the front

-- the first o elements are those of another list, the rest is as it was
abbrev pub changed : {A : Type 0} → ℕ → List A → List A → List A
changed o new old = take o new ++ drop o old

module _ {A : Type 0} (new old : List A) (same : length new ≡ length old) where
  pub changed_length : (o : ℕ) → o ≤ length old → length (changed o new old) ≡ length old
  changed_length o within =
      omega (arith, length-append (take o new) (drop o old), length-take-le o new (omega arith), length-drop o old)

  pub changed_all : (o : ℕ) → o ≡ length old → changed o new old ≡ new
  changed_all o all = rw (all, take_all (length old) new (le_of_eq same), drop-length old) (append-nil new)

  -- what is still to be changed is as it was
  pub changed_rest : (size o : ℕ) → o ≤ length old → take size (drop o (changed o new old)) ≡ take size (drop o old)
  changed_rest size o within = ap (take size) (drop_at (take o new) (drop o old) o (length-take-le o new (omega arith)))

  -- one part more
  pub changed_part : (size m i : ℕ) → length old ≡ m * size → i < m
      → with_part size i (part_at size new i) (changed (i * size) new old) ≡ changed ((i + 1) * size) new old
  changed_part size m i all below =
      let o = i * size in
      let within : o ≤ length old = omega (arith, part_ends size m i below) in
      let front : length (take o new) ≡ o = length-take-le o new (omega arith) in
      let behind : o + size ≡ (i + 1) * size = rw add-one (omega (arith, suc-mul i size)) in
      rw (take_at (take o new) (drop o old) o front, drop_at (take o new) (drop o old) o front, drop-drop size o old)
      (sym (append_assoc (take o new) (take size (drop o new)) (drop (o + size) old))
      ∙ ap (λ (l : List A). l ++ drop (o + size) old) (sym (take-add o size new))
      ∙ ap (λ (e : ℕ). take e new ++ drop e old) behind)

-- one element more
pub changed_one : {A : Type 0} (i : ℕ) (new old : List A) (none : A) → i < length new → i < length old
    → set (changed i new old) i (get_or new i none) ≡ changed (i + 1) new old
changed_one i new old none more room = rw add-one (go i new old more room)
  where
    go : (i : ℕ) (new old : List _) → i < length new → i < length old → set (changed i new old) i (get_or new i none) ≡ changed (suc i)
        new old
    go i [] old more room = absurd (omega arith)
    go i (x ∷ new) [] more room = absurd (omega arith)
    go zero (x ∷ new) (y ∷ old) more room = refl
    go (suc i) (x ∷ new) (y ∷ old) more room = ap (λ (r : List _). x ∷ r) (go i new old (omega arith) (omega arith))
