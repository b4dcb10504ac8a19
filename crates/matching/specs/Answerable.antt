-- Behind a match whose rows pass nothing else can refuse: packing takes the library, and the search takes it with the codes that packing
-- gave and the query. Assumes nothing.
use Rattle.std.specs.Prelude.{◌≡◌, true, not, ◌&&◌, List, [], ◌∷◌, ◌++◌, ℕ, ◌*◌, ◌<◌, leb, length, drop, Ok}
use Rattle.std.proofs.Math.Path.{refl}
use Rattle.std.proofs.Common.{ap, ◌∙◌}
use mathlib.Core.List.Memᴰ
use borrow.Author.Tests.{not-false, eq-eqb}
use Rattle.refusal.specs.First.{first, outcome_accepted, passed}
use Rattle.limits.specs.Limits.{is_dimension_count, is_bits}
use Rattle.presence.specs.Presence.{word_causes}
use Rattle.signed.specs.Components.{are_components}
use Rattle.order.specs.Pair.{Pair}
use Rattle.order.specs.Members.{◌∈◌}
use Rattle.layout.specs.Layout.{first_marks}
use Rattle.codes.specs.Codes.{code_length}
use Rattle.codes.specs.PackLaws.{length_packed}
use Rattle.approximation.specs.VectorCauses.{pack_vectors_causes}
use Rattle.approximation.specs.OwnCodes.{own_good}
use Rattle.search.specs.Search.{Query, in_own_cells, scanned, searched, search_causes}
use Rattle.search.specs.Search.{Index as Searchable}
use Rattle.search.specs.Ready.{room_of}
use Rattle.search.specs.Accepted.{accepts, lengths_exact}
use Rattle.search.specs.Settled.{OwnCodes}
use Rattle.search.specs.Theorems.{search_is_scan}
use Rattle.records.specs.RowLaws.{both}
use Rattle.library.specs.Library.{Library, read_library}
use Rattle.loading.specs.Load.{records_causes as library_causes}
use Rattle.text.specs.Text.{line}
use Rattle.matching.specs.Answer.{searchable, refused_text, entry_lines}
use Rattle.matching.specs.Lines.{read_below}
use Rattle.matching.specs.Match.{behind, k_length, k_of, read_query, match_causes, match_text}
use Rattle.loading.specs.Loaded.{loaded_shape, loaded_count, marks_count, components_count, loaded_marks, loaded_components}
use Rattle.matching.specs.Packed.{packed_inside, packed_own}

-- ---- cells

cells_own : (s : Searchable) → OwnCodes s → (is : List ℕ) → ((i : ℕ) → i ∈ is → i < s.n) → in_own_cells s is ≡ true
unfolding in_own_cells
cells_own s own [] among = refl
cells_own s own (i ∷ is) among =
    rw ((own.cells i (among i (Memᴰ.head refl))).inside, cells_own s own is (λ j m. among j (Memᴰ.tail m)))

-- ---- a library whose records pass

module _ (bytes : List ℕ) (accepted : first (library_causes (read_library bytes) bytes) ≡ Ok tt) where
  abbrev l : Library
  l = read_library bytes

  dimensions : is_dimension_count l.d ≡ true
  dimensions = not-false _ (passed (not (is_dimension_count l.d)) _ _ (loaded_shape bytes accepted)).fails

  bits : is_bits l.d l.b ≡ true
  bits =
      not-false _
      (passed (not (is_bits l.d l.b)) _ _ (passed (not (is_dimension_count l.d)) _ _ (loaded_shape bytes accepted)).rest).fails

  pub packs : first (pack_vectors_causes l.d l.b l.n l.components l.marks (code_length l.b l.n)) ≡ Ok tt
  unfolding first
  packs =
      rw (
        dimensions,
        bits,
        loaded_count bytes accepted,
        eq-eqb (length l.components) (l.n * l.d) (components_count bytes accepted),
        eq-eqb (code_length l.b l.n) (code_length l.b l.n) refl,
        eq-eqb (length l.marks) (first_marks l.d l.b l.d) (marks_count bytes accepted),
        loaded_components bytes accepted,
        loaded_marks bytes accepted,
        packed_inside bytes accepted,
      )

  pub searches : (query : Query) (k : ℕ) → length query.components ≡ l.d → are_components query.components ≡ true
      → first (word_causes l.d query.word) ≡ Ok tt → leb 1 k && leb k l.n ≡ true
      → first (search_causes (searchable l) query k (room_of k l.n)) ≡ Ok tt
  searches query k size components word neighbours =
      let s = searchable l in
      let own = packed_own bytes accepted in
      accepts s query k (room_of k l.n)
      (record {
        dimensions = dimensions;
        bits = bits;
        count = loaded_count bytes accepted;
        neighbours = neighbours;
        word = word;
        lengths = lengths_exact s query k (room_of k l.n) (record {
          of_query = size;
          of_marks = marks_count bytes accepted;
          of_codes = length_packed l.d l.b l.n _;
          of_vectors = components_count bytes accepted;
          of_entries = refl;
          of_reads = refl;
        });
        components = components;
        marks = loaded_marks bytes accepted;
        codes = own_good own;
        cells = cells_own s own (searched s query k).reads (read_below s query k);
      })

  entries_are_the_scan : (query : Query) (k : ℕ) → (searched (searchable l) query k).best ≡ scanned (searchable l) query k
  entries_are_the_scan query k = search_is_scan (searchable l) query k (packed_own bytes accepted)

-- ---- the theorem

-- A match that is accepted prints k, how many vectors were read, and a line for each entry of the full scan's answer, over the dimensions
-- that are present.
pub printed_is_the_scan : (input : List ℕ) → first (match_causes input) ≡ Ok tt
    → let l = read_library input in
    let rest = behind l input in
    let k = k_of rest in
    let query = read_query l.d (drop k_length rest) in
    match_text input
    ≡ line k (length (searched (searchable l) query k).reads ∷ []) ++ entry_lines l.settings (scanned (searchable l) query k)
unfolding match_text match_causes
printed_is_the_scan input accepted =
    let l = read_library input in
    let rest = behind l input in
    let k = k_of rest in
    let query = read_query l.d (drop k_length rest) in
    let library = (both (library_causes l input) _ accepted).front in
    outcome_accepted _ refused_text accepted
    ∙ ap (λ (ps : List Pair). line k (length (searched (searchable l) query k).reads ∷ []) ++ entry_lines l.settings ps)
    (entries_are_the_scan input library query k)
