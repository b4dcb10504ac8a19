-- What the functions that move codes are given, and what they make of spliced bits. Assumes nothing.
use Rattle.std.specs.Prelude.{◌≡◌, true, List, ◌++◌, ℕ, suc, ◌-◌, ◌*◌, ◌≤◌, ◌<◌, ℤ, Ok}
use Rattle.std.proofs.Math.Path.{sym}
use Rattle.std.proofs.Common.{◌∙◌, one-mul, le_of_lt}
use Rattle.std.proofs.Math.Nat.{mul-le-mul_right}
use borrow.Author.Tests.{eq-eqb}
use Rattle.std.proofs.Math.ListN.{length, take, drop}
use Rattle.std.proofs.Math.Seq.{take-take}
use Rattle.refusal.specs.First.{first, first_append, outcome_accepted}
use Rattle.limits.specs.Limits.{max_vectors}
use Rattle.signed.specs.Components.{are_components}
use Rattle.layout.specs.Layout.{first_marks, code_length}
use Rattle.layout.specs.Stretch.{shape_causes, shape}
use Rattle.codes.specs.Bits.{byte_bits}
use Rattle.codes.specs.BitLaws.{bytes_same, same_drop, take_same, same_behind}
use Rattle.codes.specs.Codes.{joined, packed, spare_zero}
use Rattle.codes.specs.Pack.{length_causes, size_causes}
use Rattle.codes.specs.PackLaws.{packed_same}
use Rattle.splicing.specs.Splice.{spliced_bytes}
use Rattle.partition.specs.Marks.{good_marks}
use Rattle.approximation.specs.Vectors.{vectors_inside, vector_regions, vector_codes}
use Rattle.approximation.specs.VectorCauses.{locate_causes, pack_vectors_causes}
use Rattle.approximation.specs.OwnCodes.{length_regions}
use Rattle.updating.specs.Updated.{code_bits, added_codes, removed_codes}

-- A vector's code can be put behind those of n, into so many bytes.
pub record Appends (d b n : ℕ) (marks vector : List ℤ) (room : ℕ) : Type 0 where
  pub shaped : first (shape_causes d b) ≡ Ok tt
  pub few : n ≤ max_vectors
  pub exact : length marks ≡ first_marks d b d
  pub size : length vector ≡ d
  pub bytes : room ≡ code_length b (suc n)
  pub components : are_components vector ≡ true
  pub good : good_marks d b marks ≡ true
  pub inside : vectors_inside d b marks vector ≡ true

-- The code of number i can be taken out of n, into so many bytes.
pub record Cuts (d b n : ℕ) (codes : List ℕ) (i room : ℕ) : Type 0 where
  pub shaped : first (shape_causes d b) ≡ Ok tt
  pub few : n ≤ max_vectors
  pub stored : i < n
  pub bytes : room ≡ code_length b (n - 1)
  pub spare : spare_zero b n codes ≡ true

-- ---- an addition

module _ {d b n : ℕ} {marks vector : List ℤ} {room : ℕ} (at : Appends d b n marks vector room) where
  some : 0 < d
  some = (shape d b at.shaped).some

  -- The vector's code fits one code's bytes, and packing it by itself is not refused.
  pub packs_one : (size : ℕ) → size ≡ code_length b 1 → first (pack_vectors_causes d b 1 vector marks size) ≡ Ok tt
  unfolding first
  packs_one size is =
      let rows : length vector ≡ 1 * d = at.size ∙ sym (one-mul d) in
      let sized : first (size_causes d b 1 (length vector) size) ≡ Ok tt =
      first_append (shape_causes d b) (length_causes d b 1 (length vector) size)
      ∙ outcome_accepted _ _ at.shaped
      ∙ rw (eq-eqb (length vector) (1 * d) rows, eq-eqb size (code_length b 1) is) in
      first_append (size_causes d b 1 (length vector) size) (locate_causes d b vector marks)
      ∙ outcome_accepted _ _ sized
      ∙ rw (eq-eqb (length marks) (first_marks d b d) at.exact, at.components, at.good, at.inside)

  -- Its bits behind those of the codes are the codes with it.
  pub appended : (codes : List ℕ) {code last : List ℕ} → code ≡ vector_codes d b 1 marks vector
      → last ≡ spliced_bytes room codes (n * b) code 0 → last ≡ added_codes d b n marks codes vector
  unfolding added_codes
  appended codes is spliced =
      let before = code_bits b n codes in
      let regions = vector_regions d b marks vector in
      let rows : length regions ≡ 1 * d = length_regions d b marks 0 vector ∙ at.size ∙ sym (one-mul d) in
      spliced
      ∙ rw (is, at.bytes)
      (bytes_same (code_length b (suc n)) (before ++ byte_bits (packed d b 1 regions)) (before ++ joined d b 0 regions)
      (same_behind before (byte_bits (packed d b 1 regions)) (joined d b 0 regions) (packed_same d b 1 some regions rows)))

-- ---- a removal

module _ {d b n : ℕ} {codes : List ℕ} {i room : ℕ} (at : Cuts d b n codes i room) where
  -- The bits before those of number i, and those behind them, are the codes without it.
  pub cut_out : {last : List ℕ} → last ≡ spliced_bytes room codes (i * b) codes (suc i * b) → last ≡ removed_codes b n codes i
  unfolding removed_codes
  cut_out spliced =
      let bits = byte_bits codes in
      let among : i * b ≤ n * b = mul-le-mul_right b (le_of_lt at.stored) in
      let front : take (i * b) (code_bits b n codes) ≡ take (i * b) bits = take-take (i * b) (n * b) bits among in
      let behind = same_drop (suc i * b) (code_bits b n codes) bits (take_same (n * b) bits at.spare) in
      spliced
      ∙ rw (at.bytes, front)
      (sym (bytes_same (code_length b (n - 1)) (take (i * b) bits ++ drop (suc i * b) (code_bits b n codes))
      (take (i * b) bits ++ drop (suc i * b) bits)
      (same_behind (take (i * b) bits) (drop (suc i * b) (code_bits b n codes)) (drop (suc i * b) bits) behind)))
