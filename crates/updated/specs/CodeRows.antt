-- The bits of codes after an addition and after a removal, and the regions that they name. Assumes nothing.
use Rattle.std.specs.Prelude.{◌≡◌, true, List, ◌++◌, ℤ, length, take, drop, replicate}
use Rattle.std.proofs.Common.{sym, ap, ◌∙◌, inl, inr, one-mul, suc-mul, mul-le-mul_right, eq-or-lt_of_le, le_of_suc-le-suc, length-append, take_at, drop_at, take_all, take-take, drop-drop, length-take-le}
use Prim.Native.Nat.{ℕ, zero, suc, ◌+◌, ◌-◌, ◌*◌, ◌≤◌, ◌<◌}
use native.Mathlib.Omega.{arith}
use Rattle.layout.specs.Layout.{bits_of, first_bits, code_length}
use Rattle.layout.specs.Laws.{all_bits}
use Rattle.codes.specs.Bits.{from_bits, bytes_of, byte_bits}
use Rattle.codes.specs.BitLaws.{Binary, Bytes, binary_take, binary_drop, binary_append, binary_bytes, length_byte_bits, length_bytes}
use Rattle.codes.specs.BitLaws.{bits_then_zeros, zeros, padded, padded_take, padded_same, bytes_same, bytes_bits, bytes_of_lem}
use Rattle.codes.specs.Codes.{code_region, spare_zero}
use Rattle.codes.specs.PackLaws.{binary_joined, length_joined}
use Rattle.splicing.specs.SpliceLaws.{from_take}
use Rattle.approximation.specs.Vectors.{vector_regions}
use Rattle.approximation.specs.OwnCodes.{length_regions}
use Rattle.updating.specs.Updated.{code_bits, vector_bits, added_codes, without, removed_codes}
use Rattle.updated.specs.ListRows.{row_at, drop_take, row_take, without_before, without_behind, length_without, without_last}

-- the bits of code i
abbrev pub code_at : ℕ → List ℕ → ℕ → List ℕ
code_at b codes i = row_at b (byte_bits codes) i

-- ---- codes with the same bits name the same regions

bits_within : (d b n t : ℕ) → t < n → first_bits d b (suc t) ≤ first_bits d b n
unfolding first_bits
bits_within d b zero t among = absurd (omega arith)
bits_within d b (suc n) t among =
    elim (eq-or-lt_of_le (le_of_suc-le-suc among)) [
      | inl e ↦ rw e (omega arith)
      | inr earlier ↦ omega (arith, bits_within d b n t earlier)
    ]

-- the region that a code names is read off its own bits
region_row : (d b : ℕ) → 0 < d → (codes : List ℕ) (i t : ℕ) → t < d
    → code_region d b codes i t ≡ from_bits (bits_of d b (suc t)) (drop (first_bits d b t) (code_at b codes i))
unfolding code_region first_bits
region_row d b some codes i t among =
    let w = bits_of d b (suc t) in
    let before = first_bits d b t in
    let behind = b - before in
    let own = drop (i * b) (byte_bits codes) in
    let most : before + w ≤ b = omega (arith, bits_within d b d t among, all_bits d b some) in
    let all : b ≡ before + behind = omega arith in
    let parts : drop before (take b own) ≡ take behind (drop before own) =
    ap (λ (n : ℕ). drop before (take n own)) all ∙ drop_take before behind own in
    ap (from_bits w) (sym (drop-drop before (i * b) (byte_bits codes)))
    ∙ sym (from_take w (drop before own))
    ∙ ap (from_bits w) (sym (take-take w behind (drop before own) (omega arith)))
    ∙ from_take w (take behind (drop before own))
    ∙ ap (from_bits w) (sym parts)

pub region_same : (d b : ℕ) → 0 < d → (one other : List ℕ) (i j : ℕ) → code_at b one i ≡ code_at b other j → (t : ℕ) → t < d
    → code_region d b one i t ≡ code_region d b other j t
region_same d b some one other i j same t among =
    region_row d b some one i t among
    ∙ ap (λ (bits : List ℕ). from_bits (bits_of d b (suc t)) (drop (first_bits d b t) bits)) same
    ∙ sym (region_row d b some other j t among)

-- ---- the codes of n vectors

module _ (b n : ℕ) (codes : List ℕ) (full : length codes ≡ code_length b n) where
  room : n * b ≤ length (byte_bits codes)
  room = rw (length_byte_bits codes, full) (omega arith)

  pub bits_length : length (code_bits b n codes) ≡ n * b
  bits_length = length-take-le (n * b) (byte_bits codes) room

  -- where no spare bit is set, their bits as bytes are the codes
  pub bits_codes : Bytes codes → spare_zero b n codes ≡ true → bytes_of (code_length b n) (code_bits b n codes) ≡ codes
  bits_codes bytes spare =
      rw (← padded_take (n * b) (byte_bits codes) room, ← full)
      (bytes_same (length codes) (padded (n * b) (byte_bits codes)) (byte_bits codes) (padded_same (n * b) (byte_bits codes) spare)
      ∙ bytes_bits codes bytes)

-- bits of n codes as bytes: their bits are these, and no spare bit is set
module _ (b n : ℕ) {bits : List ℕ} (binary : Binary bits) (size : length bits ≡ n * b) where
  made_bits : byte_bits (bytes_of (code_length b n) bits) ≡ bits ++ replicate (code_length b n * 8 - length bits) 0
  made_bits = bits_then_zeros (code_length b n) binary (omega arith)

  pub codes_bits : code_bits b n (bytes_of (code_length b n) bits) ≡ bits
  codes_bits = rw made_bits (take_at bits (replicate (code_length b n * 8 - length bits) 0) (n * b) size)

  pub codes_spare : spare_zero b n (bytes_of (code_length b n) bits) ≡ true
  codes_spare =
      rw (made_bits, drop_at bits (replicate (code_length b n * 8 - length bits) 0) (n * b) size)
      (zeros (code_length b n * 8 - length bits))

-- ---- a vector's code behind those of n

module _ (d b n : ℕ) (some : 0 < d) (marks : List ℤ) (codes : List ℕ) (vector : List ℤ) (full : length codes ≡ code_length b n)
    (size : length vector ≡ d) where
  abbrev new : List ℕ
  new = added_codes d b n marks codes vector

  abbrev more_bits : List ℕ
  more_bits = code_bits b n codes ++ vector_bits d b marks vector

  pub vector_bits_length : length (vector_bits d b marks vector) ≡ b
  vector_bits_length =
      length_joined d b some 1 (vector_regions d b marks vector) (length_regions d b marks 0 vector ∙ size ∙ sym (one-mul d)) ∙ one-mul b

  more_binary : Binary more_bits
  more_binary = binary_append (binary_take (n * b) (binary_bytes codes)) (binary_joined d b 0 (vector_regions d b marks vector))

  more_length : length more_bits ≡ suc n * b
  more_length =
      length-append (code_bits b n codes) (vector_bits d b marks vector)
      ∙ rw (bits_length b n codes full, vector_bits_length) (sym (suc-mul n b))

  pub added_bits : code_bits b (suc n) new ≡ code_bits b n codes ++ vector_bits d b marks vector
  unfolding added_codes
  added_bits = codes_bits b (suc n) more_binary more_length

  pub added_spare : spare_zero b (suc n) new ≡ true
  unfolding added_codes
  added_spare = codes_spare b (suc n) more_binary more_length

  pub added_length : length new ≡ code_length b (suc n)
  unfolding added_codes
  added_length = length_bytes (code_length b (suc n)) more_bits

  pub added_bytes : Bytes new
  unfolding added_codes
  added_bytes = bytes_of_lem (code_length b (suc n)) more_binary

  -- no earlier bit is changed
  pub earlier_bits : code_bits b n new ≡ code_bits b n codes
  earlier_bits =
      sym (take-take (n * b) (suc n * b) (byte_bits new) (omega (arith, suc-mul n b)))
      ∙ ap (take (n * b)) added_bits
      ∙ take_at (code_bits b n codes) (vector_bits d b marks vector) (n * b) (bits_length b n codes full)

  pub earlier_code : (i : ℕ) → i < n → code_at b new i ≡ code_at b codes i
  earlier_code i row =
      sym (row_take b n (byte_bits new) i row)
      ∙ ap (λ (bits : List ℕ). row_at b bits i) earlier_bits
      ∙ row_take b n (byte_bits codes) i row

  -- the last code is the new vector's
  pub last_code : code_at b new n ≡ vector_bits d b marks vector
  last_code =
      sym (row_take b (suc n) (byte_bits new) n (omega arith))
      ∙ rw (added_bits, drop_at (code_bits b n codes) (vector_bits d b marks vector) (n * b) (bits_length b n codes full))
      (take_all b (vector_bits d b marks vector) (omega (arith, vector_bits_length)))

  -- what is taken out again is the codes
  pub taken_back : Bytes codes → spare_zero b n codes ≡ true → removed_codes b (suc n) new n ≡ codes
  unfolding removed_codes
  taken_back bytes spare =
      let one : suc n - 1 ≡ n = omega arith in
      rw (
        one,
        added_bits,
        without_last b n (code_bits b n codes) (vector_bits d b marks vector) (bits_length b n codes full) vector_bits_length,
      )
      (bits_codes b n codes full bytes spare)

-- ---- code i taken out of n

module _ (b n : ℕ) (codes : List ℕ) (full : length codes ≡ code_length b n) (i : ℕ) (stored : i < n) where
  abbrev fewer : List ℕ
  fewer = removed_codes b n codes i

  fewer_binary : Binary (without b i (code_bits b n codes))
  fewer_binary =
      let bits : Binary (code_bits b n codes) = binary_take (n * b) (binary_bytes codes) in
      binary_append (binary_take (i * b) bits) (binary_drop (suc i * b) bits)

  fewer_length : length (without b i (code_bits b n codes)) ≡ (n - 1) * b
  fewer_length = length_without b n (code_bits b n codes) i (bits_length b n codes full) stored

  pub removed_bits : code_bits b (n - 1) fewer ≡ without b i (code_bits b n codes)
  unfolding removed_codes
  removed_bits = codes_bits b (n - 1) fewer_binary fewer_length

  pub removed_spare : spare_zero b (n - 1) fewer ≡ true
  unfolding removed_codes
  removed_spare = codes_spare b (n - 1) fewer_binary fewer_length

  pub removed_length : length fewer ≡ code_length b (n - 1)
  unfolding removed_codes
  removed_length = length_bytes (code_length b (n - 1)) (without b i (code_bits b n codes))

  pub removed_bytes : Bytes fewer
  unfolding removed_codes
  removed_bytes = bytes_of_lem (code_length b (n - 1)) fewer_binary

  there : suc i * b ≤ length (code_bits b n codes)
  there = rw (bits_length b n codes full) (mul-le-mul_right b stored)

  row_of_fewer : (j : ℕ) → j < n - 1 → code_at b fewer j ≡ row_at b (without b i (code_bits b n codes)) j
  row_of_fewer j row =
      sym (row_take b (n - 1) (byte_bits fewer) j row) ∙ ap (λ (bits : List ℕ). row_at b bits j) removed_bits

  -- earlier codes stay, and later ones move down by one
  pub code_before : (j : ℕ) → j < i → code_at b fewer j ≡ code_at b codes j
  code_before j earlier =
      row_of_fewer j (omega arith)
      ∙ without_before b (code_bits b n codes) i there j earlier
      ∙ row_take b n (byte_bits codes) j (omega arith)

  pub code_behind : (j : ℕ) → i ≤ j → j < n - 1 → code_at b fewer j ≡ code_at b codes (suc j)
  code_behind j later row =
      row_of_fewer j row
      ∙ without_behind b (code_bits b n codes) i there j later
      ∙ row_take b n (byte_bits codes) (suc j) (omega arith)
