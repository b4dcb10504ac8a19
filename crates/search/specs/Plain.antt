-- Document 01's own scan and search, of a query without a presence word, and the theorems that the full word gives them: "With every
-- dimension present it gives the old search's result" (document 02, Slip 1). Assumes nothing.
use Rattle.std.specs.Prelude.{◌≡◌, refl, Bool, true, false, not, List, [], ◌∷◌, ◌++◌, ℕ, ◌≤◌, ℤ}
use Rattle.std.proofs.Common.{sym, ap, ◌∙◌, arith}
use Rattle.refusal.specs.declared.Refusal.TheVariants.{Dimension, Count, Neighbours, Cell}
use Rattle.refusal.specs.First.{Row, ◌⇒◌, first, first_here}
use Rattle.limits.specs.Limits.{max_dimensions, is_dimension_count, is_vector_count, is_neighbour_count}
use Rattle.limits.specs.Tests.{between}
use Rattle.presence.specs.Presence.{factors_of, full_word}
use Rattle.presence.specs.PresenceLaws.{factor_at_lem, full_factor, full_passes}
use Rattle.order.specs.Pair.{Pair}
use Rattle.selection.specs.Reading.{Reading, scan, read}
use Rattle.layout.specs.Stretch.{shape_causes}
use Rattle.cells.specs.Cells.{vector_at}
use Rattle.distance.specs.Distance.{distance_of}
use Rattle.distance.specs.Bounds.{lower_of, upper_of}
use Rattle.distance.specs.Full.{Full, full_distance, full_bound}
use Rattle.step.specs.Step.{shortest, longest}
use Rattle.scan.specs.Ranked.{scan_agree, read_agree}
use Rattle.search.specs.Search.{Index, Query, Room, numbers_in, distance_from, distance_in, low_in, high_in}
use Rattle.search.specs.Search.{in_own_cells, scanned, searched, buffer_causes, search_causes}
use Rattle.search.specs.Accepted.{word_told}

-- ---- without a word

-- a vector's distance from the query, and its cell's least and greatest distance, over all dimensions
abbrev pub plain_distance_in : Index → List ℤ → ℕ → ℕ
plain_distance_in l components i = distance_of l.d components (vector_at l.d l.vectors i)

abbrev pub plain_low_in : Index → List ℤ → ℕ → ℕ
plain_low_in l components i = lower_of l.d l.b l.marks l.codes components i

abbrev pub plain_high_in : Index → List ℤ → ℕ → ℕ
plain_high_in l components i = upper_of l.d l.b l.marks l.codes components i

-- the full scan's answer and the reading order's outcome
abbrev pub plain_scanned : Index → List ℤ → ℕ → List Pair
plain_scanned l components k = scan k (plain_distance_in l components) (numbers_in l)

abbrev pub plain_searched : Index → List ℤ → ℕ → Reading
plain_searched l components k = read k (plain_low_in l components) (plain_distance_in l components) (numbers_in l)

-- ---- with every dimension present

-- the query of these components, all present
abbrev pub full_query : Index → List ℤ → Query
full_query l components = record { components = components; word = full_word l.d }

-- document 01's causes of the search: 1, 2, 3, 4, those of the buffers, which look at no word (5, 6, 7, 9), 10
abbrev pub plain_causes : Index → List ℤ → ℕ → Room → List Row
plain_causes l components k room =
    shape_causes l.d l.b
    ++ ((not (is_vector_count l.n) ⇒ Count)
    ∷ (not (is_neighbour_count l.n k) ⇒ Neighbours)
    ∷ (buffer_causes l (full_query l components) k room
    ++ ((not (in_own_cells l (plain_searched l components k).reads) ⇒ Cell) ∷ [])))

full_factors : (d : ℕ) → d ≤ max_dimensions → Full (factors_of (full_word d)) d
full_factors d few = record { each = λ t h. factor_at_lem (full_word d) t (omega arith) ∙ full_factor d t h }

module _ (l : Index) (components : List ℤ) (few : l.d ≤ max_dimensions) where
  pub full_word_distance : (vector : List ℤ) → distance_from l (full_query l components) vector ≡ distance_of l.d components vector
  full_word_distance vector = full_distance (factors_of (full_word l.d)) components vector l.d (full_factors l.d few)

  pub full_word_lower : (i : ℕ) → low_in l (full_query l components) i ≡ plain_low_in l components i
  full_word_lower i =
      full_bound shortest l.d l.b l.marks l.codes (factors_of (full_word l.d)) components i l.d (full_factors l.d few)

  pub full_word_upper : (i : ℕ) → high_in l (full_query l components) i ≡ plain_high_in l components i
  full_word_upper i =
      full_bound longest l.d l.b l.marks l.codes (factors_of (full_word l.d)) components i l.d (full_factors l.d few)

  pub full_word_scan : (k : ℕ) → scanned l (full_query l components) k ≡ plain_scanned l components k
  full_word_scan k =
      scan_agree k (plain_distance_in l components) (distance_in l (full_query l components)) (numbers_in l)
      (λ i m. full_word_distance (vector_at l.d l.vectors i))

  pub full_word_search : (k : ℕ) → searched l (full_query l components) k ≡ plain_searched l components k
  full_word_search k =
      read_agree k (plain_low_in l components) (low_in l (full_query l components)) (plain_distance_in l components)
      (distance_in l (full_query l components)) (numbers_in l) (λ i m. full_word_lower i)
      (λ i m. full_word_distance (vector_at l.d l.vectors i))

-- 19 and 18 never hold: the search refuses for document 01's causes alone, in their order
counted_accepted : (l : Index) (components : List ℤ) (k : ℕ) (room : Room) → is_dimension_count l.d ≡ true
    → first (search_causes l (full_query l components) k room) ≡ first (plain_causes l components k room)
unfolding first
counted_accepted l components k room is =
    let few = (between 1 l.d max_dimensions is).below in
    let word = word_told l.d (full_word l.d) (full_passes l.d few) in
    rw (word.0, word.1, full_word_search l components few k) refl

pub full_word_accepted : (l : Index) (components : List ℤ) (k : ℕ) (room : Room)
    → first (search_causes l (full_query l components) k room) ≡ first (plain_causes l components k room)
full_word_accepted l components k room = go (is_dimension_count l.d) refl
  where
    go : (counts : Bool) → is_dimension_count l.d ≡ counts
        → first (search_causes l (full_query l components) k room) ≡ first (plain_causes l components k room)
    go true is = counted_accepted l components k room is
    go false none = first_here Dimension _ (ap not none) ∙ sym (first_here Dimension _ (ap not none))
