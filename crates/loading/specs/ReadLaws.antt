-- Where the values of a library's records stand, and signed values from their bits. Assumes nothing.
use Rattle.std.specs.Prelude.{◌≡◌, refl, List, ℕ, zero, suc, ◌+◌, ◌-◌, ◌*◌, ◌^◌, ◌≤◌, ◌<◌, ltb, ℤ, pos, negsuc, length, get_or, take, replicate}
use Rattle.std.proofs.Common.{◌∙◌, add-zero, arith, lit<, get_or-drop, drop-drop}
use Rattle.std.specs.Int.Signed.{mag}
use Rattle.std.proofs.Math.ListN.{drop}
use Rattle.std.proofs.lemmas.List.{length-replicate, get_or-replicate}
use mir.Syntax.{w32}
use mir.Val.{to_z, sel}
use mir.ValLaws.{to_z-Fits}
use Rattle.limits.specs.Limits.{max_dimensions}
use Rattle.records.specs.Bytes.{from_low_first, AreBytes}
use Rattle.records.specs.ByteLaws.{bytes_drop}
use Rattle.records.specs.Records.{head_kind, mark_kind, vector_kind, widths_of, sum, value_of}
use Rattle.records.specs.RecordLaws.{value_at, value_below, head_widths, mark_widths, vector_widths}
use Rattle.library.specs.Library.{mark_place, head_value, mark_at, settings_at, vector_place}

-- ---- places

one_byte : (bytes : List ℕ) (at : ℕ) → from_low_first 1 (drop at bytes) ≡ get_or bytes at 0
unfolding from_low_first
one_byte bytes at = rw (get_or-drop at bytes 0 0, add-zero at) (omega arith)

pub head_d : (bytes : List ℕ) → head_value bytes 0 ≡ get_or bytes 1 0
unfolding head_value sum
head_d bytes = value_at head_kind 0 bytes (rw head_widths (lit< tt)) ∙ rw head_widths (one_byte bytes 1)

pub head_b : (bytes : List ℕ) → head_value bytes 1 ≡ get_or bytes 2 0
unfolding head_value sum
head_b bytes = value_at head_kind 1 bytes (rw head_widths (lit< tt)) ∙ rw head_widths (one_byte bytes 2)

pub head_n : (bytes : List ℕ) → head_value bytes 2 ≡ from_low_first 2 (drop 3 bytes)
unfolding head_value sum
head_n bytes = value_at head_kind 2 bytes (rw head_widths (lit< tt)) ∙ rw head_widths

pub mark_bits : (bytes : List ℕ) (i : ℕ) → mark_at bytes i ≡ to_z w32 (from_low_first 4 (drop (mark_place i + 1) bytes))
unfolding mark_at sum
mark_bits bytes i =
    rw (value_at mark_kind 0 (drop (mark_place i) bytes) (rw mark_widths (lit< tt)), mark_widths, drop-drop 1 (mark_place i) bytes)

pub settings_value : (m : ℕ) (bytes : List ℕ) (i : ℕ) → settings_at m bytes i ≡ from_low_first 4 (drop (vector_place m i + 1) bytes)
unfolding settings_at sum
settings_value m bytes i =
    value_at vector_kind 0 (drop (vector_place m i) bytes) (rw vector_widths (lit< tt))
    ∙ rw (vector_widths, drop-drop 1 (vector_place m i) bytes)

sum_twos : (n t : ℕ) → t ≤ n → sum (take t (replicate n 2)) ≡ 2 * t
unfolding sum
sum_twos n zero h = refl
sum_twos zero (suc t) h = absurd (omega arith)
sum_twos (suc n) (suc t) h = rw (sum_twos n t (omega arith)) (omega arith)

pub component_value : (bytes : List ℕ) (at t : ℕ) → t < max_dimensions
    → value_of vector_kind (suc t) (drop at bytes) ≡ from_low_first 2 (drop (at + 5 + 2 * t) bytes)
unfolding sum
component_value bytes at t few =
    let within : suc t < length (widths_of vector_kind) = rw vector_widths (omega (arith, length-replicate {A = ℕ} max_dimensions 2)) in
    let place : at + suc (4 + 2 * t) ≡ at + 5 + 2 * t = omega arith in
    value_at vector_kind (suc t) (drop at bytes) within
    ∙ rw (
      vector_widths,
      get_or-replicate {A = ℕ} max_dimensions t 2 0 few,
      sum_twos max_dimensions t (omega arith),
      drop-drop (suc (4 + 2 * t)) at bytes,
      place,
    )

-- ---- signed values

-- the number that bits stand for in two's complement, where those from half on are negative
abbrev pub twos_complement : ℕ → ℕ → ℤ
twos_complement half bits = sel (ltb bits half) (pos bits) (negsuc (2 * half - suc bits))

module _ (bytes : List ℕ) (are : AreBytes bytes) where
  pub mark_fits : (i : ℕ) → mag (mark_at bytes i) < 2 ^ 31
  unfolding mark_at
  mark_fits i =
      let rest = drop (mark_place i) bytes in
      let below = value_below mark_kind 0 rest (bytes_drop (mark_place i) bytes are) (rw mark_widths (lit< tt)) in
      (to_z-Fits w32 (value_of mark_kind 0 rest) (record { fits = rw mark_widths at below })).sfits

  pub component_below : (at t : ℕ) → t < max_dimensions → value_of vector_kind (suc t) (drop at bytes) < 2 ^ 16
  component_below at t few =
      let rest = drop at bytes in
      let within : suc t < length (widths_of vector_kind) = rw vector_widths (omega (arith, length-replicate {A = ℕ} max_dimensions 2)) in
      let two : get_or (widths_of vector_kind) (suc t) 0 ≡ 2 = rw vector_widths (get_or-replicate {A = ℕ} max_dimensions t 2 0 few) in
      rw two at (value_below vector_kind (suc t) rest (bytes_drop at bytes are) within)
