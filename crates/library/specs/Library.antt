-- A library and its bytes (document 01, "Library file"). Assumes nothing.
use Rattle.std.specs.Prelude.{List, [], ◌∷◌, ◌++◌, ℕ, suc, ◌+◌, ◌*◌, ◌/◌, ◌%◌, ℤ, pos, get_or, drop}
use Rattle.std.specs.Int.{w16, w32}
use Rattle.std.proofs.Common.{of_z, to_z}
use Rattle.layout.specs.Layout.{first_marks}
use Rattle.records.specs.Records.{head_kind, mark_kind, vector_kind, end_kind, record_length, record_bytes, value_of}
use Rattle.library.specs.Each.{each, tabulate}

-- n vectors of d components and a settings number each, with the marks of d dimensions that have b bits in all. The marks stand in buffer
-- order, and the components vector by vector.
pub record Library : Type 0 where
  pub d : ℕ
  pub b : ℕ
  pub n : ℕ
  pub marks : List ℤ
  pub settings : List ℕ
  pub components : List ℤ

abbrev pub library_with : ℕ → ℕ → ℕ → List ℤ → List ℕ → List ℤ → Library
library_with d b n marks settings components = record { d = d; b = b; n = n; marks = marks; settings = settings; components = components }

-- how many marks it has
abbrev pub mark_total : ℕ → ℕ → ℕ
mark_total d b = first_marks d b d

-- ---- to bytes; signed values are in two's complement

abbrev pub head_bytes : ℕ → ℕ → ℕ → List ℕ
head_bytes d b n = record_bytes head_kind (d ∷ b ∷ n ∷ [])

abbrev pub mark_bytes : ℤ → List ℕ
mark_bytes mark = record_bytes mark_kind (of_z w32 mark ∷ [])

-- "32 signed components (2 each), those beyond d zero": values that are not there are 0
abbrev pub vector_values : ℕ → ℕ → (ℕ → ℤ) → List ℕ
vector_values d settings component = settings ∷ tabulate d (λ t. of_z w16 (component t))

abbrev pub vector_bytes : ℕ → ℕ → (ℕ → ℤ) → List ℕ
vector_bytes d settings component = record_bytes vector_kind (vector_values d settings component)

abbrev pub end_bytes : List ℕ
end_bytes = record_bytes end_kind []

-- the component of vector i in dimension t + 1
abbrev pub component_in : Library → ℕ → ℕ → ℤ
component_in l i t = get_or l.components (i * l.d + t) (pos 0)

-- "A library is one head, its marks in buffer order, n patterns, one end."
unfoldable pub library_bytes : Library → List ℕ
library_bytes l =
    head_bytes l.d l.b l.n
    ++ each (mark_total l.d l.b) (λ i. mark_bytes (get_or l.marks i (pos 0)))
    ++ each l.n (λ i. vector_bytes l.d (get_or l.settings i 0) (component_in l i))
    ++ end_bytes

-- ---- from bytes

-- where the record of mark i begins, and, with m marks, that of vector i; the end's is that behind the last vector
unfoldable pub mark_place : ℕ → ℕ
mark_place i = record_length head_kind + i * record_length mark_kind

unfoldable pub vector_place : ℕ → ℕ → ℕ
vector_place m i = mark_place m + i * record_length vector_kind

-- how many bytes a library has
unfoldable pub library_length : ℕ → ℕ → ℕ → ℕ
library_length d b n = vector_place (mark_total d b) n + record_length end_kind

-- the values of the records, where they stand
unfoldable pub head_value : List ℕ → ℕ → ℕ
head_value bytes i = value_of head_kind i bytes

unfoldable pub mark_at : List ℕ → ℕ → ℤ
mark_at bytes i = to_z w32 (value_of mark_kind 0 (drop (mark_place i) bytes))

unfoldable pub settings_at : ℕ → List ℕ → ℕ → ℕ
settings_at m bytes i = value_of vector_kind 0 (drop (vector_place m i) bytes)

-- component t + 1 of the vector whose record bytes begin with, and of vector i
unfoldable pub stored_at : List ℕ → ℕ → ℤ
stored_at bytes t = to_z w16 (value_of vector_kind (suc t) bytes)

abbrev pub component_at : ℕ → List ℕ → ℕ → ℕ → ℤ
component_at m bytes i t = stored_at (drop (vector_place m i) bytes) t

-- the library that bytes begin with
abbrev pub read_with : ℕ → ℕ → ℕ → List ℕ → Library
read_with d b n bytes = record {
  d = d;
  b = b;
  n = n;
  marks = tabulate (mark_total d b) (mark_at bytes);
  settings = tabulate n (settings_at (mark_total d b) bytes);
  components = tabulate (n * d) (λ k. component_at (mark_total d b) bytes (k / d) (k % d));
}

unfoldable pub read_library : List ℕ → Library
read_library bytes = read_with (head_value bytes 0) (head_value bytes 1) (head_value bytes 2) bytes
