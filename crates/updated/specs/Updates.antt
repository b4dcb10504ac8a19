-- What adding and removing promise (document 02, Slip 3); what follows from it for the vectors' own codes, for the search and for outer
-- marks is in proofs/Follows.antt. The statements can be read without the proofs; the laws behind them are in the other files of this
-- folder. Assumes nothing.
use Rattle.std.specs.Prelude.{◌≡◌, refl, Bool, true, false, cond, List, [], ◌∷◌, ℕ, suc, ◌-◌, ◌*◌, ◌≤◌, ◌<◌, ltb, ℤ, length, get_or, take, Ok}
use Rattle.std.proofs.Common.{sym, ap, ◌∙◌, mul-one, mul-le-mul_right, arith, ltb-true, ltb-false, take_all, drop_at}
use Rattle.std.proofs.Math.Bool.{and-eq-true_iff}
use Rattle.std.proofs.Math.ListN.{get_or-append}
use Rattle.std.proofs.lemmas.List.{get_or_at}
use Rattle.refusal.specs.First.{Row, first}
use Rattle.limits.specs.Limits.{max_vectors}
use Rattle.limits.specs.Tests.{between}
use Rattle.order.specs.Pair.{insert}
use Rattle.order.specs.Counted.{counted}
use Rattle.layout.specs.Stretch.{shape}
use Rattle.codes.specs.BitLaws.{Bytes}
use Rattle.codes.specs.Codes.{code_region}
use Rattle.cells.specs.Cells.{vector_at, no_empty_codes, Own}
use Rattle.approximation.specs.Vectors.{vector_codes}
use Rattle.approximation.specs.VectorCauses.{pack_vectors_causes}
use Rattle.approximation.specs.OwnCodes.{own_packed}
use Rattle.search.specs.Search.{Index, Query, distance_from, distance_in, scanned}
use Rattle.updating.specs.declared.Lengths.{Lengths}
use Rattle.updating.specs.Updated.{CodedLibrary, code_bits, added, without, removed, removed_codes}
use Rattle.updating.specs.UpdateCauses.{lengths_of, add_causes, remove_causes}
use Rattle.updating.specs.Accepted.{Addable, addable, Removable, removable}
use Rattle.updated.specs.ListRows.{row_front, row_one, without_before, without_behind, without_last}
use Rattle.updated.specs.CodeRows.{code_at, region_same, earlier_bits, earlier_code, taken_back}
use Rattle.updated.specs.CodeRows.{code_before, code_behind}
use Rattle.updated.specs.Fresh.{added_packed, removed_packed}
use Rattle.updated.specs.After.{packs, removes, added_measured, added_sound, removed_measured, removed_sound}
use Rattle.updated.specs.Renumbered.{scan_more, without_number, moved_up, scan_without, scan_all_without}

-- the region that code i of a library names for dimension t + 1
abbrev pub region_in : CodedLibrary → ℕ → ℕ → ℕ
region_in l i t = code_region l.d l.b l.codes i t

-- a library whose codes, in bytes, "were the patterns' own"
pub record OwnLibrary (l : CodedLibrary) : Type 0 where
  pub bytes : Bytes l.codes
  pub own : Own l.d l.b l.n l.marks l.codes l.vectors

-- the codes "that packing afresh would give", and the causes for which it would be refused
abbrev pub fresh_codes : CodedLibrary → List ℕ
fresh_codes l = vector_codes l.d l.b l.n l.marks l.vectors

abbrev pub fresh_causes : CodedLibrary → List Row
fresh_causes l = pack_vectors_causes l.d l.b l.n l.vectors l.marks (length l.codes)

-- what the search and the scan see of a library
abbrev pub index_in : CodedLibrary → Index
index_in l = record { d = l.d; b = l.b; n = l.n; marks = l.marks; codes = l.codes; vectors = l.vectors }

-- ---- an addition that is not refused

module _ (l : CodedLibrary) (vector : List ℤ) (room : Lengths) (accepted : first (add_causes l vector room) ≡ Ok tt) (setting : ℕ) where
  facts : Addable l vector room
  facts = addable l vector room accepted

  some : 0 < l.d
  some = (shape l.d l.b facts.library.shaped).some

  abbrev new : CodedLibrary
  new = added l vector setting

  -- "Adding puts the new pattern last ..
  pub adding_puts_last : vector_at l.d new.vectors l.n ≡ vector
  adding_puts_last =
      rw (drop_at l.vectors vector (l.n * l.d) facts.library.exact.of_vectors)
      (take_all l.d vector (omega (arith, facts.size)))

  pub adding_keeps_vectors : (i : ℕ) → i < l.n → vector_at l.d new.vectors i ≡ vector_at l.d l.vectors i
  adding_keeps_vectors = row_front l.d l.n l.vectors vector facts.library.exact.of_vectors

  pub adding_puts_setting_last : get_or new.settings l.n 0 ≡ setting
  adding_puts_setting_last = get_or_at l.settings setting [] 0 l.n facts.library.exact.of_settings

  pub adding_keeps_settings : (i : ℕ) → i < l.n → get_or new.settings i 0 ≡ get_or l.settings i 0
  adding_keeps_settings i row = get_or-append l.settings (setting ∷ []) 0 i (rw facts.library.exact.of_settings row)

  -- .. and changes no earlier code": bit for bit, and region by region.
  pub adding_keeps_bits : code_bits l.b l.n new.codes ≡ code_bits l.b l.n l.codes
  adding_keeps_bits = earlier_bits l.d l.b l.n some l.marks l.codes vector facts.library.exact.of_codes facts.size

  pub adding_keeps_regions : (i t : ℕ) → i < l.n → t < l.d → region_in new i t ≡ region_in l i t
  adding_keeps_regions i t row among =
      region_same l.d l.b some new.codes l.codes i i
      (earlier_code l.d l.b l.n some l.marks l.codes vector facts.library.exact.of_codes facts.size i row) t among

  -- "where the codes were the patterns' own, the library after it has those that packing afresh would give": packing is not refused, ..
  pub adding_packs : first (fresh_causes new) ≡ Ok tt
  adding_packs = packs new (added_measured l vector room accepted setting) (added_sound l vector room accepted setting)

  -- .. gives the codes after the addition, ..
  pub adding_is_fresh : OwnLibrary l → new.codes ≡ fresh_codes new
  adding_is_fresh is =
      added_packed l.d l.b some l.marks l.n l.codes l.vectors facts.library.exact.of_vectors
      (own_packed some facts.library.of_marks facts.contents.good facts.library.exact.of_vectors is.own is.bytes
      facts.library.exact.of_codes) vector

  -- What is removed after it was added is the old library, ..
  pub added_removed : Bytes l.codes → removed new l.n ≡ l
  added_removed bytes =
      let one : suc l.n - 1 ≡ l.n = omega arith in
      let spare = ((and-eq-true_iff (no_empty_codes l.d l.b l.marks l.codes l.n) _).0 facts.contents.named).1 in
      let codes : removed_codes l.b (suc l.n) new.codes l.n ≡ l.codes =
      taken_back l.d l.b l.n some l.marks l.codes vector facts.library.exact.of_codes facts.size bytes spare in
      let settings : without 1 l.n new.settings ≡ l.settings =
      without_last 1 l.n l.settings (setting ∷ []) (facts.library.exact.of_settings ∙ sym (mul-one l.n)) refl in
      let vectors : without l.d l.n new.vectors ≡ l.vectors =
      without_last l.d l.n l.vectors vector facts.library.exact.of_vectors facts.size in
      λ i. record {
        d = l.d;
        b = l.b;
        n = one i;
        marks = l.marks;
        codes = codes i;
        settings = settings i;
        vectors = vectors i;
      }

  -- .. and this removal is not refused.
  pub added_removable : first (remove_causes new l.n (lengths_of l)) ≡ Ok tt
  added_removable =
      let one : suc l.n - 1 ≡ l.n = omega arith in
      let counted = between 1 l.n max_vectors facts.library.counted in
      removes new l.n (lengths_of l) (added_measured l vector room accepted setting) (added_sound l vector room accepted setting)
      (rw one facts.library.exact) (omega arith) (omega (arith, counted.above))

  -- A scan of the new library gives what a scan of the old one gives, with the new vector's pair put in, cut to k, ..
  pub adding_scan : (query : Query) (k : ℕ) → scanned (index_in new) query k
      ≡ take k (insert (record { key = distance_from (index_in l) query vector; number = l.n }) (scanned (index_in l) query k))
  adding_scan query k =
      scan_more k (distance_in (index_in l) query) (distance_in (index_in new) query) l.n
      (λ j m. ap (distance_from (index_in l) query) (adding_keeps_vectors j (omega (arith, (counted 0 l.n m).below))))
      ∙ rw adding_puts_last

-- ---- a removal that is not refused

module _ (l : CodedLibrary) (i : ℕ) (room : Lengths) (accepted : first (remove_causes l i room) ≡ Ok tt) where
  known : Removable l i room
  known = removable l i room accepted

  positive : 0 < l.d
  positive = (shape l.d l.b known.library.shaped).some

  abbrev left : CodedLibrary
  left = removed l i

  whole : suc i * l.d ≤ length l.vectors
  whole = rw known.library.exact.of_vectors (mul-le-mul_right l.d known.stored)

  -- "removing moves later patterns, settings and codes down by one", and leaves the earlier ones: vector by vector, ..
  pub removing_keeps_vectors : (j : ℕ) → j < i → vector_at l.d left.vectors j ≡ vector_at l.d l.vectors j
  removing_keeps_vectors = without_before l.d l.vectors i whole

  pub removing_moves_vectors : (j : ℕ) → i ≤ j → vector_at l.d left.vectors j ≡ vector_at l.d l.vectors (suc j)
  removing_moves_vectors = without_behind l.d l.vectors i whole

  -- .. settings number by settings number, ..
  one_setting : suc i * 1 ≤ length l.settings
  one_setting = rw (known.library.exact.of_settings, mul-one (suc i)) known.stored

  pub removing_keeps_settings : (j : ℕ) → j < i → get_or left.settings j 0 ≡ get_or l.settings j 0
  removing_keeps_settings j earlier =
      sym (row_one left.settings j 0)
      ∙ ap (λ (row : List ℕ). get_or row 0 0) (without_before 1 l.settings i one_setting j earlier)
      ∙ row_one l.settings j 0

  pub removing_moves_settings : (j : ℕ) → i ≤ j → get_or left.settings j 0 ≡ get_or l.settings (suc j) 0
  removing_moves_settings j later =
      sym (row_one left.settings j 0)
      ∙ ap (λ (row : List ℕ). get_or row 0 0) (without_behind 1 l.settings i one_setting j later)
      ∙ row_one l.settings (suc j) 0

  -- .. code by code, bit for bit, ..
  pub removing_keeps_bits : (j : ℕ) → j < i → code_at l.b left.codes j ≡ code_at l.b l.codes j
  removing_keeps_bits = code_before l.b l.n l.codes known.library.exact.of_codes i known.stored

  pub removing_moves_bits : (j : ℕ) → i ≤ j → j < left.n → code_at l.b left.codes j ≡ code_at l.b l.codes (suc j)
  removing_moves_bits = code_behind l.b l.n l.codes known.library.exact.of_codes i known.stored

  -- .. and region by region.
  pub removing_keeps_regions : (j t : ℕ) → j < i → t < l.d → region_in left j t ≡ region_in l j t
  removing_keeps_regions j t earlier among =
      region_same l.d l.b positive left.codes l.codes j j (removing_keeps_bits j earlier) t among

  pub removing_moves_regions : (j t : ℕ) → i ≤ j → j < left.n → t < l.d → region_in left j t ≡ region_in l (suc j) t
  removing_moves_regions j t later row among =
      region_same l.d l.b positive left.codes l.codes j (suc j) (removing_moves_bits j later row) t among

  -- "where the codes were the patterns' own, the library after it has those that packing afresh would give": packing is not refused, ..
  pub removing_packs : first (fresh_causes left) ≡ Ok tt
  removing_packs = packs left (removed_measured l i room accepted) (removed_sound l i room accepted)

  -- .. gives the codes after the removal, ..
  pub removing_is_fresh : OwnLibrary l → left.codes ≡ fresh_codes left
  removing_is_fresh is =
      removed_packed l.d l.b positive l.marks l.n l.codes l.vectors known.library.exact.of_vectors
      (own_packed positive known.library.of_marks known.contents.good known.library.exact.of_vectors is.own is.bytes
      known.library.exact.of_codes) i known.stored

  -- a number's vector is that of the number as it was before
  moved_vector : (j : ℕ) → vector_at l.d left.vectors j ≡ vector_at l.d l.vectors (moved_up i j)
  moved_vector j = go (ltb j i) refl
    where
      go : (t : Bool) → ltb j i ≡ t → vector_at l.d left.vectors j ≡ vector_at l.d l.vectors (cond t j (suc j))
      go true e = removing_keeps_vectors j (ltb-true j i e)
      go false e = removing_moves_vectors j (ltb-false j i e)

  -- A scan over all of the library after it gives what a scan over all of the old one gives, without number i, numbers above i less one.
  -- A scan for any k gives what one for k + 1 gives so, cut to k, ..
  pub removing_scan_all : (query : Query) → scanned (index_in left) query left.n ≡ without_number i (scanned (index_in l) query l.n)
  removing_scan_all query =
      scan_all_without i (distance_in (index_in l) query) (distance_in (index_in left) query)
      (λ j. ap (distance_from (index_in l) query) (moved_vector j)) l.n known.stored

  pub removing_scan : (query : Query) (k : ℕ)
      → scanned (index_in left) query k ≡ take k (without_number i (scanned (index_in l) query (suc k)))
  removing_scan query k =
      scan_without i (distance_in (index_in l) query) (distance_in (index_in left) query)
      (λ j. ap (distance_from (index_in l) query) (moved_vector j)) l.n known.stored k
