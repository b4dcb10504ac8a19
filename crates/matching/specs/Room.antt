-- No text is longer than the bound for which the output is lent. Assumes nothing.
use Rattle.std.specs.Prelude.{◌≡◌, refl, true, ◌&&◌, List, [], ◌∷◌, ℕ, zero, suc, ◌+◌, ◌*◌, ◌^◌, ◌≤◌, ◌<◌, leb, ℤ, pos, negsuc, length, get_or, drop, Ok, Err}
use Rattle.std.proofs.Math.Bool.{and-eq-true_iff}
use mathlib.Core.List.Memᴰ
use Rattle.std.proofs.Common.{suc-mul, mul-le-mul, mul-le-mul_right, le_trans, arith, leb-true, lit<, length-append}
use Rattle.std.proofs.Math.Decide.{dec_lt}
use Rattle.std.proofs.lemmas.Bool.{not-false}
use Rattle.std.specs.Int.Signed.{mag, le_z}
use Rattle.refusal.specs.declared.Refusal.{Refusal}
use Rattle.refusal.specs.declared.Refusal.TheVariants.{Dimension, Bits, Count, Neighbours, Length, Component, Mark, Outside, Code, Cell}
use Rattle.refusal.specs.declared.Refusal.TheVariants.{Kind, Truncated, Stale, NotANumber, OutOfRange, Trailing, Misplaced}
use Rattle.refusal.specs.declared.Refusal.TheVariants.{TooFewPresent, PresenceBit, Full, NotRemovable, TooManyQueries}
use Rattle.refusal.specs.Refusal.{Verdict}
use Rattle.refusal.specs.Refusal.{number_of}
use Rattle.refusal.specs.First.{first, outcome, passed}
use Rattle.limits.specs.Limits.{max_dimensions, max_vectors, least_component, is_component}
use Rattle.limits.specs.Tests.{between}
use Rattle.presence.specs.Presence.{factors_of}
use Rattle.presence.specs.PresenceLaws.{factors_le}
use Rattle.signed.specs.Components.{are_components, component_at_lem}
use Rattle.order.specs.Pair.{Pair}
use Rattle.order.specs.Members.{◌∈◌}
use Rattle.order.specs.Counted.{counted_length}
use Rattle.selection.proofs.Theorems.{reads_count, best_length, best_entries}
use Rattle.cells.specs.Cells.{vector_at}
use Rattle.cells.specs.CellLaws.{vector_component}
use Rattle.step.specs.Step.{gap, weighed, squared_le}
use Rattle.step.specs.Places.{gap_size}
use Rattle.distance.specs.Distance.{first_weighed, weighed_distance}
use Rattle.search.specs.Search.{Index as Searchable, Query, numbers_in, distance_in, low_in, searched}
use Rattle.records.specs.Bytes.{AreBytes}
use Rattle.records.specs.ByteLaws.{bytes_drop}
use Rattle.records.specs.Records.{vector_kind}
use Rattle.records.specs.RecordLaws.{value_below, vector_widths}
use Rattle.records.specs.RowLaws.{both}
use Rattle.library.specs.EachLaws.{tabulate_past}
use Rattle.library.specs.Read.{settings_read, setting_read}
use Rattle.library.specs.Library.{Library, mark_total, vector_place, settings_at, read_library}
use Rattle.loading.specs.Load.{records_causes as library_causes}
use Rattle.query.specs.Query.{present_causes_of}
use Rattle.query.specs.QueryLaws.{present_components}
use Rattle.text.specs.TextLaws.{decimal_length}
use Rattle.text.specs.Text.{line}
use Rattle.matching.specs.Answer.{searchable, refused_text, entry_line, entry_lines, answer_text}
use Rattle.matching.specs.Lines.{best_below}
use Rattle.matching.specs.Match.{behind, k_length, k_of, read_query, k_causes, causes_with, match_text, text_room}
use Rattle.loading.specs.Loaded.{shaped, loaded_count, loaded_components}

-- ---- distances

component_size : (z : ℤ) → is_component z ≡ true → mag z ≤ 32767
component_size (pos n) is = leb-true n 32767 is
component_size (negsuc n) is = leb-true n 32767 ((and-eq-true_iff (le_z least_component (negsuc n)) true).0 is).0

first_distance_lem : (factors : List ℕ) → ((t : ℕ) → get_or factors t 0 ≤ 1) → (query vector : List ℤ) (d : ℕ)
    → ((t : ℕ) → t < d → is_component (get_or query t (pos 0)) ≡ true) → ((t : ℕ) → t < d → is_component (get_or vector t (pos 0)) ≡ true)
    → first_weighed factors query vector d ≤ d * (65535 * 65535)
unfolding first_weighed
first_distance_lem factors few query vector zero of_query of-vector = omega arith
first_distance_lem factors few query vector (suc t) of_query of-vector =
    let before = first_distance_lem factors few query vector t (λ i h. of_query i (omega arith)) (λ i h. of-vector i (omega arith)) in
    let q = get_or query t (pos 0) in
    let z = get_or vector t (pos 0) in
    let near : gap q z ≤ 65535 =
    omega (arith, gap_size q z, component_size q (of_query t (omega arith)), component_size z (of-vector t (omega arith))) in
    let here : weighed (get_or factors t 0) (gap q z) ≤ 65535 * 65535 = squared_le (mul-le-mul {n₂ = 1} {m₂ = 65535} (few t) near) in
    omega arith

distance_below : (d i word : ℕ) (query vectors : List ℤ) → d ≤ max_dimensions → are_components query ≡ true → are_components vectors ≡ true
    → weighed_distance d (factors_of word) query (vector_at d vectors i) < 10 ^ 12
distance_below d i word query vectors few of_query of_vectors =
    let sum = first_distance_lem (factors_of word) (factors_le word) query (vector_at d vectors i) d (λ t h. component_at_lem query of_query t)
    (λ t h. rw (vector_component d vectors i t h) (component_at_lem vectors of_vectors (i * d + t))) in
    let most : d * (65535 * 65535) ≤ max_dimensions * (65535 * 65535) = mul-le-mul_right (65535 * 65535) few in
    omega arith

-- ---- lines

-- an entry whose line has room
record Short (p : Pair) : Type 0 where
  number : p.number < 10 ^ 3
  distance : p.key < 10 ^ 12

entry_room : (settings : List ℕ) (p : Pair) → ((i : ℕ) → get_or settings i 0 < 10 ^ 10) → Short p → length (entry_line settings p) ≤ 28
unfolding line
entry_room settings p small is =
    let s = get_or settings p.number 0 in
    let number = decimal_length 2 p.number is.number in
    let setting = decimal_length 9 s (small p.number) in
    let distance = decimal_length 11 p.key is.distance in
    simp length-append (omega arith)

entries_room : (settings : List ℕ) (ps : List Pair) → ((i : ℕ) → get_or settings i 0 < 10 ^ 10) → ((p : Pair) → p ∈ ps → Short p)
    → length (entry_lines settings ps) ≤ length ps * 28
unfolding entry_lines
entries_room settings [] small short = omega arith
entries_room settings (p ∷ ps) small short =
    let here = entry_room settings p small (short p (Memᴰ.head refl)) in
    let rest = entries_room settings ps small (λ q m. short q (Memᴰ.tail m)) in
    rw (length-append (entry_line settings p) (entry_lines settings ps)) (omega (arith, suc-mul (length ps) 28))

first_room : (k count : ℕ) → k < 10 ^ 3 → count < 10 ^ 3 → length (line k (count ∷ [])) ≤ 8
unfolding line
first_room k count few less =
    let one = decimal_length 2 k few in
    let two = decimal_length 2 count less in
    simp length-append (omega arith)

number_small : (cause : Refusal) → number_of cause < 10 ^ 2
number_small Dimension = lit< tt
number_small Bits = lit< tt
number_small Count = lit< tt
number_small Neighbours = lit< tt
number_small Length = lit< tt
number_small Component = lit< tt
number_small Mark = lit< tt
number_small Outside = lit< tt
number_small Code = lit< tt
number_small Cell = lit< tt
number_small Kind = lit< tt
number_small Truncated = lit< tt
number_small Stale = lit< tt
number_small NotANumber = lit< tt
number_small OutOfRange = lit< tt
number_small Trailing = lit< tt
number_small Misplaced = lit< tt
number_small TooFewPresent = lit< tt
number_small PresenceBit = lit< tt
number_small Full = lit< tt
number_small NotRemovable = lit< tt
number_small TooManyQueries = lit< tt

refused_room : (cause : Refusal) → length (refused_text cause) ≤ text_room
unfolding line
refused_room cause =
    let number = decimal_length 1 (number_of cause) (number_small cause) in
    simp length-append (omega arith)

-- ---- the answer

settings_below : (bytes : List ℕ) → AreBytes bytes → (i : ℕ) → get_or (read_library bytes).settings i 0 < 10 ^ 10
settings_below bytes are i = go (dec_lt i (read_library bytes).n)
  where
    go : Dec (i < (read_library bytes).n) → get_or (read_library bytes).settings i 0 < 10 ^ 10
    go (yes less) =
        let l = read_library bytes in
        let place = vector_place (mark_total l.d l.b) i in
        let below : settings_at (mark_total l.d l.b) bytes i < 2 ^ 32 =
        unfold settings_at in rw vector_widths at
        (value_below vector_kind 0 (drop place bytes) (bytes_drop place bytes are) (rw vector_widths (lit< tt))) in
        rw (setting_read bytes i less) (omega arith)
    go (no more) =
        let l = read_library bytes in
        rw (settings_read bytes, tabulate_past l.n (settings_at (mark_total l.d l.b) bytes) 0 i (omega arith)) (lit< tt)

module _ (bytes : List ℕ) (accepted : first (library_causes (read_library bytes) bytes) ≡ Ok tt) (are : AreBytes bytes)
    (query : Query) (of_query : are_components query.components ≡ true) (k : ℕ) (some : k ≤ (read_library bytes).n) where
  abbrev l : Library
  l = read_library bytes

  abbrev s : Searchable
  s = searchable l

  few : l.n ≤ max_vectors
  few = (between 1 l.n max_vectors (loaded_count bytes accepted)).below

  count_few : length (searched s query k).reads ≤ l.n
  count_few = omega (arith, reads_count k (low_in s query) (distance_in s query) (numbers_in s), counted_length 0 l.n)

  best_few : length (searched s query k).best ≤ l.n
  best_few = omega (arith, best_length k (low_in s query) (distance_in s query) (numbers_in s), counted_length 0 l.n)

  short : (p : Pair) → p ∈ (searched s query k).best → Short p
  short p m =
      let entry = best_entries k (low_in s query) (distance_in s query) (numbers_in s) m in
      record {
        number = omega (arith, best_below s query k p m, few);
        distance = rw entry.its_key
            (distance_below l.d p.number query.word query.components l.components (shaped bytes accepted).few of_query
            (loaded_components bytes accepted));
      }

  answer_room : length (answer_text l query k) ≤ text_room
  answer_room =
      let one = first_room k (length (searched s query k).reads) (omega (arith, few)) (omega (arith, count_few, few)) in
      let entries = entries_room l.settings (searched s query k).best (settings_below bytes are) short in
      let most : length (searched s query k).best * 28 ≤ max_vectors * 28 = mul-le-mul_right 28 (le_trans best_few few) in
      rw (length-append (line k (length (searched s query k).reads ∷ [])) (entry_lines l.settings (searched s query k).best))
      (omega arith)

-- no text is longer
pub text_room_lem : (input : List ℕ) → AreBytes input → length (match_text input) ≤ text_room
unfolding match_text
text_room_lem input are = go (first (causes_with l input)) refl
  where
    l : Library
    l = read_library input

    go : (v : Verdict) → first (causes_with l input) ≡ v
        → length (outcome v
        (answer_text l (read_query l.d (drop k_length (behind l input))) (k_of (behind l input))) refused_text) ≤ text_room
    go (Ok _) e =
        let library = both (library_causes l input) _ e in
        let rest = both (k_causes l.n (behind l input)) (present_causes_of l.d (drop k_length (behind l input))) library.back in
        let neighbours = passed _ Neighbours [] (passed _ Truncated _ rest.front).rest in
        let k = k_of (behind l input) in
        answer_room input library.front are (read_query l.d (drop k_length (behind l input)))
        (present_components l.d (drop k_length (behind l input)) rest.back) k
        (between 1 k l.n (not-false (leb 1 k && leb k l.n) neighbours.fails)).below
    go (Err cause) e = refused_room cause
