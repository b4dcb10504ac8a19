-- A match (document 01, "The program"): "Standard input: a library, k (2 bytes), a query." What comes out is one text, and this is all of
-- it. Assumes nothing.
use Rattle.std.specs.Prelude.{not, ◌&&◌, List, [], ◌∷◌, ◌++◌, ℕ, ◌+◌, ◌*◌, leb, ltb, eqb, length, drop, Ok, Err, Result}
use Rattle.refusal.specs.declared.Refusal.{Refusal}
use Rattle.refusal.specs.declared.Refusal.TheVariants.{Neighbours, Length, Truncated}
use Rattle.refusal.specs.Refusal.{Verdict}
use Rattle.refusal.specs.First.{Row, ◌⇒◌, first, outcome}
use Rattle.limits.specs.Limits.{max_neighbours}
use Rattle.records.specs.Bytes.{from_low_first}
use Rattle.library.specs.Library.{Library, library_length, read_library}
use Rattle.loading.specs.Load.{records_causes as library_causes}
use Rattle.search.specs.Search.{Query}
use Rattle.query.specs.Query.{present_causes_of, components_of, word_of}
use Rattle.matching.specs.Answer.{refused_text, answer_text}

-- ---- what stands where

-- the bytes behind the library that the input begins with
abbrev pub behind : Library → List ℕ → List ℕ
behind l input = drop (library_length l.d l.b l.n) input

-- k: the first two of them
abbrev pub k_length : ℕ
k_length = 2

abbrev pub k_of : List ℕ → ℕ
k_of rest = from_low_first k_length rest

-- the query of d readings, by the second intake (document 02, Slip 1: "The kit program goes over to both and no longer gives 13.")
abbrev pub read_query : ℕ → List ℕ → Query
read_query d bytes = record { components = components_of d bytes; word = word_of d bytes }

-- ---- causes

-- "input ending before both bytes of k gives 12"; then 4
abbrev pub k_causes : ℕ → List ℕ → List Row
k_causes n rest = (ltb (length rest) k_length ⇒ Truncated) ∷ (not (leb 1 (k_of rest) && leb (k_of rest) n) ⇒ Neighbours) ∷ []

-- those of a library's records, of k and of the query's d records, left to right, then 18
abbrev pub causes_with : Library → List ℕ → List Row
causes_with l input = library_causes l input ++ (k_causes l.n (behind l input) ++ present_causes_of l.d (drop k_length (behind l input)))

unfoldable pub match_causes : List ℕ → List Row
match_causes input = causes_with (read_library input) input

-- ---- text

-- the answer, or "its first fault from the left"
abbrev pub text_with : Library → List ℕ → List ℕ
text_with l input =
    outcome (first (causes_with l input))
    (answer_text l (read_query l.d (drop k_length (behind l input))) (k_of (behind l input)))
    refused_text

unfoldable pub match_text : List ℕ → List ℕ
match_text input = text_with (read_library input) input

-- ---- the output

-- the output is lent at an upper bound on the length of a text: line one has two counts, and each of its entries a number, settings and a
-- distance, of at most 3, 3, 3, 10 and 12 digits, each with the byte behind it
abbrev pub text_room : ℕ
text_room = (4 + 4) + max_neighbours * (4 + 11 + 13)

abbrev pub room_causes : ℕ → List Row
room_causes room = (not (eqb room text_room) ⇒ Length) ∷ []

-- how many bytes the text has; refused, none is written
abbrev pub printed : Verdict → List ℕ → Result ℕ Refusal
printed verdict text = outcome verdict (Ok (length text)) Err
