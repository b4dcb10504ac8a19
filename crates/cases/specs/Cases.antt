-- Document 01's cases P1 to P12, P10 as document 02, Slip 2, has it, as one table under one statement. Assumes nothing.
use Rattle.std.specs.Prelude.{◌≡◌, refl, List, [], ◌∷◌, ℕ, ℤ, pos, negsuc, length, Float, Ok}
use Rattle.std.specs.Float.{binary32}
use Rattle.std.specs.Float.Ieee.{of_bits, odd, of_fields, is_nan}
use Rattle.refusal.specs.First.{first}
use Rattle.reading.specs.declared.Reading.{Reading}
use Rattle.reading.specs.declared.Reading.TheVariants.{Fresh, Held}
use Rattle.reading.specs.Component.{rounded}
use Rattle.reading.specs.Intake.{value_intake, intake_of, intake_number}
use Rattle.presence.specs.Presence.{factor_at, factors_from, factors_of, present_count}
use Rattle.signed.specs.Keys.{key_of}
use Rattle.signed.specs.Components.{are_components}
use Rattle.order.specs.Pair.{Pair, below, insert, sort, keyed, ranked, numbers_of, count_from}
use Rattle.order.specs.Rank.{ranking}
use Rattle.selection.specs.Reading.{scan, unread, least_pair, goes_on, read_next, reading, read}
use Rattle.layout.specs.Layout.{bits_of, first_bits, first_marks}
use Rattle.region.specs.Dimension.{not_above, good_dimension}
use Rattle.region.specs.Region.{region_of, in_region, in_marks}
use Rattle.partition.specs.Marks.{dimension_marks, good_first}
use Rattle.marking.specs.Making.{make_causes}
use Rattle.marking.specs.Made.{column, in_order, mark_at, marks_between, first_between, made_marks}
use Rattle.remade.specs.Former.{former_marks}
use Rattle.codes.specs.Bits.{low_bits, from_bits, bytes_of, byte_bits, all_zero}
use Rattle.codes.specs.Codes.{joined, packed, code_region}
use Rattle.cells.specs.Cells.{in_first, has_value, none_empty, no_empty_codes}
use Rattle.approximation.specs.Vectors.{regions_from, vector_codes, inside_from}
use Rattle.approximation.specs.VectorCauses.{pack_vectors_causes}
use Rattle.step.specs.Step.{shortest}
use Rattle.distance.specs.Distance.{first_weighed}
use Rattle.distance.specs.Bounds.{first_weighed_bound}
use Rattle.search.specs.Search.{Index, searched, search_causes, in_own_cells}
use Rattle.search.specs.Plain.{full_query}
use Rattle.search.specs.Ready.{room_of}

-- one case: what is asked, and what document 01 says
pub data Case : Type 0 where
  -- the intake of a reading gives this component
  gives : Reading → ℤ → Case
  -- the intake of a reading refuses with this number
  refuses : Reading → ℕ → Case
  -- the codes of a library's vectors under its marks are its codes
  codes : Index → Case
  -- the marks made from a library's vectors
  makes : Index → List ℤ → Case
  -- the marks that document 01's rule makes from them, which no call makes any more
  made_formerly : Index → List ℤ → Case
  -- the search of a library for the k nearest, with every dimension present, gives these pairs (distance, number) and this read list
  finds : Index → List ℤ → ℕ → List Pair → List ℕ → Case

-- a case holds: the call that it speaks of is not refused where it gives something, and gives what document 01 says
abbrev pub Holds : Case → Type 0
Holds (gives reading component) = intake_of reading ≡ Ok component
Holds (refuses reading number) = intake_number (intake_of reading) ≡ number
Holds (codes l) =
    (first (pack_vectors_causes l.d l.b l.n l.vectors l.marks (length l.codes)) ≡ Ok tt)
    × (vector_codes l.d l.b l.n l.marks l.vectors ≡ l.codes)
Holds (makes l marks) =
    (first (make_causes l.d l.b l.n l.vectors (length marks)) ≡ Ok tt) × (made_marks l.d l.b l.n l.vectors ≡ marks)
Holds (made_formerly l marks) = former_marks l.d l.b l.n l.vectors ≡ marks
Holds (finds l query k entries reads) =
    (first (search_causes l (full_query l query) k (room_of k l.n)) ≡ Ok tt)
    × (searched l (full_query l query) k ≡ record { best = entries; reads = reads })

abbrev pub All : List Case → Type 0
All [] = Unit {0}
All (c ∷ cs) = Holds c × All cs

-- the value of a pattern
abbrev pub value : ℕ → Float
value bits = of_bits binary32 bits

-- a pair (distance, number)
abbrev pub at : ℕ → ℕ → Pair
at distance number = record { key = distance; number = number }

-- document 01's library A
abbrev pub library_a : Index
library_a = record {
  d = 2;
  b = 3;
  n = 5;
  marks = pos 0 ∷ pos 3 ∷ pos 9 ∷ pos 16 ∷ pos 21 ∷ pos 0 ∷ pos 5 ∷ pos 11 ∷ [];
  codes = 0x01 ∷ 0xDC ∷ [];
  vectors = pos 1 ∷ pos 3 ∷ pos 2 ∷ pos 3 ∷ pos 4 ∷ pos 10 ∷ pos 13 ∷ pos 6 ∷ pos 18 ∷ pos 1 ∷ [];
}

-- the library of P12, whose codes are those of its vectors: regions 0 and 1
abbrev pub library_p12 : Index
library_p12 = record { d = 1; b = 1; n = 2; marks = pos 0 ∷ pos 4 ∷ pos 10 ∷ []; codes = 0x40 ∷ []; vectors = pos 3 ∷ pos 7 ∷ [] }

abbrev pub table : List Case
table =
    -- P1
    gives (Fresh (value 0x3F800000)) (pos 256)
    -- P2: a half, to even
    ∷ gives (Fresh (value 0x3B000000)) (pos 0)
    -- P3
    ∷ gives (Fresh (value 0x3BC00000)) (pos 2)
    -- P4
    ∷ gives (Fresh (value 0x42FFFEFF)) (pos 32767)
    -- P5
    ∷ refuses (Fresh (value 0x42FFFF00)) 15
    -- P6: -32768
    ∷ gives (Fresh (value 0xC3000000)) (negsuc 32767)
    -- P7
    ∷ refuses (Fresh (value 0x7FC00000)) 14
    -- P8
    ∷ refuses (Held (value 0x3F800000) 21) 13
    ∷ gives (Held (value 0x3F800000) 20) (pos 256)
    -- P9, and the same for the library of P12
    ∷ codes library_a
    ∷ codes library_p12
    -- P10: "-32768 2 4 13 32768 and -32768 3 32768", and before Slip 2 "1 2 4 13 19 and 1 3 11"
    ∷ makes library_a (negsuc 32767 ∷ pos 2 ∷ pos 4 ∷ pos 13 ∷ pos 32768 ∷ negsuc 32767 ∷ pos 3 ∷ pos 32768 ∷ [])
    ∷ made_formerly library_a (pos 1 ∷ pos 2 ∷ pos 4 ∷ pos 13 ∷ pos 19 ∷ pos 1 ∷ pos 3 ∷ pos 11 ∷ [])
    -- P11
    ∷ finds library_a (pos 12 ∷ pos 6 ∷ []) 1 (at 1 3 ∷ []) (3 ∷ [])
    ∷ finds library_a (pos 12 ∷ pos 6 ∷ []) 2 (at 1 3 ∷ at 61 4 ∷ []) (3 ∷ 2 ∷ 4 ∷ [])
    -- P12
    ∷ finds library_p12 (pos 5 ∷ []) 1 (at 4 0 ∷ []) (1 ∷ 0 ∷ [])
    ∷ []

pub cases_hold : All table
unfolding first intake_of value_intake rounded of_bits of_fields odd is_nan key_of below insert sort keyed ranked numbers_of count_from ranking scan unread least_pair goes_on read_next reading read bits_of first_bits first_marks dimension_marks region_of column in_order mark_at marks_between first_between low_bits from_bits bytes_of byte_bits joined packed code_region regions_from factor_at factors_from factors_of present_count first_weighed shortest first_weighed_bound are_components good_first not_above good_dimension in_marks in_region inside_from all_zero in_first has_value none_empty no_empty_codes in_own_cells
cases_hold = (
  refl,
  (
    refl,
    (
      refl,
      (
        refl,
        (
          refl,
          (
            refl,
            (
              refl,
              (
                refl,
                (
                  refl,
                  ((refl, refl), ((refl, refl), ((refl, refl), (refl, ((refl, refl), ((refl, refl), ((refl, refl), tt))))))),
                ),
              ),
            ),
          ),
        ),
      ),
    ),
  ),
)
