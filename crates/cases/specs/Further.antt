-- Cases for document 02, which spells out P10 alone: how many dimensions have to be present, a search with one absent, a library remade, a
-- vector added and one removed. What the theorems about Slips 2 and 3 ask of a library holds of a library here. Assumes nothing.
use Rattle.std.specs.Prelude.{◌≡◌, refl, List, [], ◌∷◌, ℕ, ℤ, pos, negsuc, Ok}
use Rattle.std.proofs.Common.{lit<}
use Rattle.refusal.specs.Refusal.{status_of}
use Rattle.refusal.specs.First.{first}
use Rattle.presence.specs.Presence.{factor_at, factors_from, factors_of, present_count}
use Rattle.signed.specs.Keys.{key_of}
use Rattle.signed.specs.Components.{are_components}
use Rattle.order.specs.Pair.{Pair, below, insert, sort, keyed, ranked, numbers_of, count_from}
use Rattle.order.specs.Rank.{ranking}
use Rattle.selection.specs.Reading.{unread, least_pair, goes_on, read_next, reading, read}
use Rattle.layout.specs.Layout.{bits_of, first_bits, first_marks}
use Rattle.region.specs.Dimension.{not_above, good_dimension}
use Rattle.region.specs.Region.{region_of, in_region, in_marks}
use Rattle.partition.specs.Marks.{dimension_marks, good_first}
use Rattle.marking.specs.Made.{column, in_order, mark_at, marks_between, first_between}
use Rattle.codes.specs.Bits.{low_bits, from_bits, bytes_of, byte_bits, all_zero}
use Rattle.codes.specs.Codes.{joined, packed, code_region}
use Rattle.codes.specs.PackLaws.{packed_bytes}
use Rattle.cells.specs.Cells.{in_first, has_value, none_empty, no_empty_codes}
use Rattle.approximation.specs.Vectors.{regions_from, vector_regions, inside_from}
use Rattle.approximation.specs.OwnCodes.{own_codes}
use Rattle.updating.specs.Updated.{CodedLibrary, added, added_codes, removed, removed_codes}
use Rattle.updating.specs.UpdateCauses.{lengths_of, add_causes, remove_causes}
use Rattle.step.specs.Step.{shortest}
use Rattle.distance.specs.Distance.{first_weighed}
use Rattle.distance.specs.Bounds.{first_weighed_bound}
use Rattle.search.specs.Search.{Index, Query, searched, search_causes, in_own_cells}
use Rattle.search.specs.Ready.{room_of}
use Rattle.remade.specs.Remade.{FormerLibrary, remade}
use Rattle.updated.specs.Updates.{OwnLibrary}
use Rattle.cases.specs.Cases.{Case, codes, finds, Holds, at, library_a}

-- ---- kinds of case

-- one case: what is asked, and what document 01 says, or document 02 where it changes that
pub data FurtherCase : Type 0 where
  -- a case of document 01's kinds
  plain : Case → FurtherCase
  -- the search of a library for the k nearest, by a query with its word, gives these pairs (distance, number) and this read list
  finds_present : Index → Query → ℕ → List Pair → List ℕ → FurtherCase
  -- the search of a library for the k nearest is refused with this number
  turns_away : Index → Query → ℕ → ℕ → FurtherCase
  -- a library with a vector of this setting added is the other one
  grows : CodedLibrary → List ℤ → ℕ → CodedLibrary → FurtherCase
  -- a library with the vector of this number removed is the other one
  shrinks : CodedLibrary → ℕ → CodedLibrary → FurtherCase

-- a case holds: the call that it speaks of is not refused where it gives something, and gives what is said
abbrev pub FurtherHolds : FurtherCase → Type 0
FurtherHolds (plain c) = Holds c
FurtherHolds (finds_present l query k entries reads) =
    (first (search_causes l query k (room_of k l.n)) ≡ Ok tt) × (searched l query k ≡ record { best = entries; reads = reads })
FurtherHolds (turns_away l query k number) = status_of (first (search_causes l query k (room_of k l.n))) ≡ number
FurtherHolds (grows l vector setting new) = (first (add_causes l vector (lengths_of new)) ≡ Ok tt) × (added l vector setting ≡ new)
FurtherHolds (shrinks l i left) = (first (remove_causes l i (lengths_of left)) ≡ Ok tt) × (removed l i ≡ left)

abbrev pub AllFurther : List FurtherCase → Type 0
AllFurther [] = Unit {0}
AllFurther (c ∷ cs) = FurtherHolds c × AllFurther cs

-- ---- libraries

-- five dimensions of two regions each, the least number of dimensions of which one can be absent
abbrev pub library_five : Index
library_five = record {
  d = 5;
  b = 5;
  n = 3;
  marks = pos 0 ∷ pos 4 ∷ pos 10 ∷ pos 0 ∷ pos 4 ∷ pos 10 ∷ pos 0 ∷ pos 4 ∷ pos 10 ∷ pos 0 ∷ pos 4 ∷ pos 10 ∷ pos 0 ∷ pos 4 ∷ pos 10 ∷ [];
  codes = 0x45 ∷ 0xC0 ∷ [];
  vectors =
      pos 1 ∷ pos 9 ∷ pos 1 ∷ pos 1 ∷ pos 1 ∷ pos 5 ∷ pos 1 ∷ pos 5 ∷ pos 5 ∷ pos 5 ∷ pos 1 ∷ pos 0 ∷ pos 1 ∷ pos 1 ∷ pos 2 ∷ [];
}

-- three dimensions without bits
abbrev pub library_three : Index
library_three = record {
  d = 3;
  b = 0;
  n = 1;
  marks = pos 0 ∷ pos 9 ∷ pos 0 ∷ pos 9 ∷ pos 0 ∷ pos 9 ∷ [];
  codes = [];
  vectors = pos 1 ∷ pos 2 ∷ pos 3 ∷ [];
}

-- library A's vectors under the marks that 01's rule makes from them (P10, before Slip 2), with their codes
abbrev pub former_a : Index
former_a = record {
  d = 2;
  b = 3;
  n = 5;
  marks = pos 1 ∷ pos 2 ∷ pos 4 ∷ pos 13 ∷ pos 19 ∷ pos 1 ∷ pos 3 ∷ pos 11 ∷ [];
  codes = 0x2E ∷ 0xFC ∷ [];
  vectors = library_a.vectors;
}

-- the same remade, with P10's marks and the same codes
abbrev pub remade_a : Index
remade_a = record {
  d = 2;
  b = 3;
  n = 5;
  marks = negsuc 32767 ∷ pos 2 ∷ pos 4 ∷ pos 13 ∷ pos 32768 ∷ negsuc 32767 ∷ pos 3 ∷ pos 32768 ∷ [];
  codes = former_a.codes;
  vectors = library_a.vectors;
}

-- library A with its settings, with vector (12, 6) added, and without vector 0
abbrev pub coded_a : CodedLibrary
coded_a = record {
  d = 2;
  b = 3;
  n = 5;
  marks = library_a.marks;
  codes = library_a.codes;
  settings = 101 ∷ 102 ∷ 103 ∷ 104 ∷ 105 ∷ [];
  vectors = library_a.vectors;
}

abbrev pub with_one_more : CodedLibrary
with_one_more = record {
  d = 2;
  b = 3;
  n = 6;
  marks = library_a.marks;
  codes = 0x01 ∷ 0xDD ∷ 0x40 ∷ [];
  settings = 101 ∷ 102 ∷ 103 ∷ 104 ∷ 105 ∷ 106 ∷ [];
  vectors = pos 1 ∷ pos 3 ∷ pos 2 ∷ pos 3 ∷ pos 4 ∷ pos 10 ∷ pos 13 ∷ pos 6 ∷ pos 18 ∷ pos 1 ∷ pos 12 ∷ pos 6 ∷ [];
}

abbrev pub without_first : CodedLibrary
without_first = record {
  d = 2;
  b = 3;
  n = 4;
  marks = library_a.marks;
  codes = 0x0E ∷ 0xE0 ∷ [];
  settings = 102 ∷ 103 ∷ 104 ∷ 105 ∷ [];
  vectors = pos 2 ∷ pos 3 ∷ pos 4 ∷ pos 10 ∷ pos 13 ∷ pos 6 ∷ pos 18 ∷ pos 1 ∷ [];
}

-- ---- the table

-- a query whose word says which dimensions are present
abbrev pub present : ℕ → List ℤ → Query
present word components = record { components = components; word = word }

abbrev pub query_five : List ℤ
query_five = pos 1 ∷ pos 0 ∷ pos 1 ∷ pos 1 ∷ pos 1 ∷ []

abbrev pub query_three : List ℤ
query_three = pos 1 ∷ pos 2 ∷ pos 4 ∷ []

abbrev pub further_table : List FurtherCase
further_table =
    -- Slip 1: "At least four must be present": of five dimensions all are, all but the second, all but two. Where the second is absent,
    -- vector 0, which differs from the query there alone, is the nearest.
    plain (codes library_five)
    ∷ plain (finds library_five query_five 2 (at 1 2 ∷ at 65 1 ∷ []) (2 ∷ 0 ∷ 1 ∷ []))
    ∷ finds_present library_five (present 29 query_five) 2 (at 0 0 ∷ at 1 2 ∷ []) (0 ∷ 2 ∷ [])
    ∷ turns_away library_five (present 28 query_five) 2 18
    -- ".. or all d where d is below four"
    ∷ finds_present library_three (present 7 query_three) 1 (at 1 0 ∷ []) (0 ∷ [])
    ∷ turns_away library_three (present 6 query_three) 1 18
    -- Slip 2: "codes and neighbours of a library remade so are the old ones; its reads may grow"
    ∷ plain (codes former_a)
    ∷ plain (codes remade_a)
    ∷ plain (finds former_a (pos 20 ∷ pos 1 ∷ []) 1 (at 4 4 ∷ []) (4 ∷ []))
    ∷ plain (finds remade_a (pos 20 ∷ pos 1 ∷ []) 1 (at 4 4 ∷ []) (4 ∷ 3 ∷ []))
    -- Slip 3: "Adding puts the new pattern last and changes no earlier code, and removing moves later patterns, settings and codes down by
    -- one"
    ∷ grows coded_a (pos 12 ∷ pos 6 ∷ []) 106 with_one_more
    ∷ shrinks coded_a 0 without_first
    ∷ []

pub further_hold : AllFurther further_table
unfolding first key_of below insert sort keyed ranked numbers_of count_from ranking unread least_pair goes_on read_next reading read bits_of first_bits first_marks dimension_marks region_of low_bits from_bits bytes_of byte_bits joined packed code_region regions_from factor_at factors_from factors_of present_count first_weighed shortest first_weighed_bound are_components good_first not_above good_dimension in_marks in_region inside_from all_zero in_first has_value none_empty no_empty_codes in_own_cells added_codes removed_codes
further_hold = (
  (refl, refl),
  (
    (refl, refl),
    (
      (refl, refl),
      (refl, ((refl, refl), (refl, ((refl, refl), ((refl, refl), ((refl, refl), ((refl, refl), ((refl, refl), ((refl, refl), tt))))))))),
    ),
  ),
)

-- ---- what the theorems ask of a library

-- Slip 2's: marks by 01's rule and own codes
pub former_library : FormerLibrary former_a
unfolding first are_components key_of below insert sort keyed ranked numbers_of count_from ranking bits_of first_marks column in_order mark_at marks_between first_between dimension_marks region_of in_marks in_region inside_from regions_from low_bits from_bits bytes_of joined packed
former_library = record {
  makeable = refl;
  marks = refl;
  bytes = packed_bytes 2 3 5 (vector_regions 2 3 former_a.marks former_a.vectors);
  size = refl;
  own = own_codes 2 3 5 (lit< tt) former_a.marks former_a.vectors refl refl;
}

-- it is remade to the library above
pub former_remade : remade former_a ≡ remade_a
unfolding key_of below insert sort keyed ranked numbers_of count_from ranking bits_of first_marks column in_order mark_at marks_between first_between dimension_marks region_of in_region regions_from low_bits from_bits bytes_of joined packed
former_remade = refl

-- Slip 3's: own codes
pub own_library : OwnLibrary coded_a
unfolding regions_from dimension_marks bits_of first_marks region_of in_marks in_region inside_from low_bits from_bits bytes_of joined packed
own_library = record {
  bytes = packed_bytes 2 3 5 (vector_regions 2 3 coded_a.marks coded_a.vectors);
  own = own_codes 2 3 5 (lit< tt) coded_a.marks coded_a.vectors refl refl;
}
