-- What follows from the promises of adding and removing (specs/Updates.antt): the codes after them are the vectors' own where the old ones
-- were, so the search gives what is due; and 8 never occurs in adding where the outer marks are at the ends of the scale. Assumes nothing.
use Rattle.std.specs.Prelude.{◌≡◌, List, ℕ, suc, ◌-◌, ◌<◌, ℤ, take, Ok, Err}
use Rattle.std.proofs.Common.{◌∙◌}
use Rattle.refusal.specs.declared.Refusal.TheVariants.{Outside}
use Rattle.refusal.specs.First.{first}
use Rattle.order.specs.Pair.{insert}
use Rattle.layout.specs.Stretch.{shape}
use Rattle.approximation.specs.OwnCodes.{own_codes}
use Rattle.search.specs.Search.{Query, distance_from, searched}
use Rattle.search.specs.Theorems.{search_is_scan}
use Rattle.marking.specs.Made.{made_marks}
use Rattle.updating.specs.declared.Lengths.{Lengths}
use Rattle.updating.specs.Updated.{CodedLibrary, added, removed}
use Rattle.updating.specs.UpdateCauses.{add_causes, remove_causes}
use Rattle.updating.specs.Accepted.{Addable, addable, Removable, removable}
use Rattle.updated.specs.CodeRows.{added_bytes}
use Rattle.updated.specs.CodeRows.{removed_bytes}
use Rattle.updated.specs.After.{added_measured, added_sound, removed_measured, removed_sound}
use Rattle.updated.specs.Renumbered.{without_number}
use Rattle.updated.specs.OuterMarks.{EndsOfScale, made_ends}
use Rattle.updated.specs.Updates.{OwnLibrary, index_in, adding_is_fresh, adding_scan, removing_is_fresh, removing_scan}
use Rattle.updated.proofs.NeverOutside.{never_outside}

-- ---- an addition that is not refused

module _ (l : CodedLibrary) (vector : List ℤ) (room : Lengths) (accepted : first (add_causes l vector room) ≡ Ok tt) (setting : ℕ) where
  facts : Addable l vector room
  facts = addable l vector room accepted

  some : 0 < l.d
  some = (shape l.d l.b facts.library.shaped).some

  abbrev new : CodedLibrary
  new = added l vector setting

  -- The codes after the addition, which are those of packing afresh, are the vectors' own where the old ones were.
  pub adding_keeps_own : OwnLibrary l → OwnLibrary new
  adding_keeps_own is = record {
    bytes = added_bytes l.d l.b l.n some l.marks l.codes vector facts.library.exact.of_codes facts.size;
    own = rw (adding_is_fresh l vector room accepted setting is)
        (own_codes l.d l.b (suc l.n) some l.marks new.vectors
        (added_measured l vector room accepted setting).exact.of_vectors (added_sound l vector room accepted setting).inside);
  }

  -- A search of the new library gives what a search of the old one gives, with the new vector's pair put in, cut to k, where the codes were
  -- the vectors' own.
  pub adding_search : OwnLibrary l → (query : Query) (k : ℕ) → (searched (index_in new) query k).best
      ≡ take k (insert (record { key = distance_from (index_in l) query vector; number = l.n }) (searched (index_in l) query k).best)
  adding_search is query k =
      search_is_scan (index_in new) query k (adding_keeps_own is).own
      ∙ adding_scan l vector room accepted setting query k
      ∙ rw (search_is_scan (index_in l) query k is.own)

-- ---- a removal that is not refused

module _ (l : CodedLibrary) (i : ℕ) (room : Lengths) (accepted : first (remove_causes l i room) ≡ Ok tt) where
  known : Removable l i room
  known = removable l i room accepted

  positive : 0 < l.d
  positive = (shape l.d l.b known.library.shaped).some

  abbrev left : CodedLibrary
  left = removed l i

  -- The codes after the removal, which are those of packing afresh, are the vectors' own where the old ones were.
  pub removing_keeps_own : OwnLibrary l → OwnLibrary left
  removing_keeps_own is = record {
    bytes = removed_bytes l.b l.n l.codes known.library.exact.of_codes i known.stored;
    own = rw (removing_is_fresh l i room accepted is)
        (own_codes l.d l.b (l.n - 1) positive l.marks left.vectors
        (removed_measured l i room accepted).exact.of_vectors (removed_sound l i room accepted).inside);
  }

  -- A search of the library after it for any k gives what a search of the old one for k + 1 gives, without number i, numbers above i less
  -- one, cut to k, where the codes were the vectors' own.
  pub removing_search : OwnLibrary l → (query : Query) (k : ℕ)
      → (searched (index_in left) query k).best ≡ take k (without_number i (searched (index_in l) query (suc k)).best)
  removing_search is query k =
      search_is_scan (index_in left) query k (removing_keeps_own is).own
      ∙ removing_scan l i room accepted query k
      ∙ rw (search_is_scan (index_in l) query (suc k) is.own)

-- ---- outer marks at the ends of the scale

-- "8 never occurs in adding to a library whose outer marks are those of Slip 2", whatever the vector, the buffers and the rest of the
-- library.
pub adding_never_outside : (l : CodedLibrary) → EndsOfScale l.d l.b l.marks → (vector : List ℤ) (room : Lengths)
    → ¬ (first (add_causes l vector room) ≡ Err Outside)
adding_never_outside = never_outside

-- Marks that are made from any vectors have such outer marks.
pub made_marks_end : (d b n : ℕ) (vectors : List ℤ) → EndsOfScale d b (made_marks d b n vectors)
made_marks_end = made_ends
