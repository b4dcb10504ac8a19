-- Loading a library (document 01, "Library file" and "When a call says no"). Assumes nothing.
use Rattle.std.specs.Prelude.{Bool, not, ◌&&◌, ◌||◌, List, [], ◌∷◌, ◌++◌, ℕ, suc, ◌+◌, ◌-◌, ◌*◌, ◌^◌, eqb, ltb, ℤ, drop, length, Result, Ok, Err}
use Rattle.std.specs.Int.Signed.{lt_z}
use Rattle.refusal.specs.declared.Refusal.{Refusal}
use Rattle.refusal.specs.declared.Refusal.TheVariants.{Length, Component, Mark, Outside}
use Rattle.refusal.specs.Refusal.{Verdict}
use Rattle.refusal.specs.First.{Row, ◌⇒◌, outcome}
use Rattle.limits.specs.Limits.{max_dimensions, max_dimension_bits, max_vectors, is_mark}
use Rattle.layout.specs.Layout.{mark_count, first_marks}
use Rattle.records.specs.Records.{head_kind, mark_kind, vector_kind, end_kind, kind_of, value_of}
use Rattle.records.specs.Frame.{frame_causes}
use Rattle.library.specs.Each.{each, every}
use Rattle.library.specs.Library.{Library, mark_total, mark_place, vector_place, library_length, mark_at, stored_at, read_library}
use Rattle.library.specs.Tests.{counts_causes, inside}
use Rattle.loading.specs.declared.Loaded.{Loaded}

-- "only load lends its buffers at the largest size (2,080 marks, 16,384 components, 512 settings)"
abbrev pub marks_room : ℕ
marks_room = max_dimensions * (2 ^ max_dimension_bits + 1)

abbrev pub components_room : ℕ
components_room = max_vectors * max_dimensions

abbrev pub settings_room : ℕ
settings_room = max_vectors

-- a record's causes: of the record that bytes begin with in a place that is for one kind, then the body's own
abbrev pub record_causes : ℕ → List ℕ → List Row → List Row
record_causes kind bytes own = frame_causes (eqb (kind_of bytes) kind) bytes ++ own

-- 1, 2, 3
abbrev pub head_causes : Library → List ℕ → List Row
head_causes l bytes = record_causes head_kind bytes (counts_causes l.d l.b l.n)

-- "a mark out of range or below the one before it in its dimension": mark p, number i of its dimension from 0
abbrev pub mark_wrong : List ℕ → ℕ → ℕ → Bool
mark_wrong bytes p i = not (is_mark (mark_at bytes p)) || (ltb 0 i && lt_z (mark_at bytes p) (mark_at bytes (p - 1)))

-- 7, for mark i of a dimension whose first mark is number p
abbrev pub mark_causes : List ℕ → ℕ → ℕ → List Row
mark_causes bytes p i = record_causes mark_kind (drop (mark_place (p + i)) bytes) ((mark_wrong bytes (p + i) i ⇒ Mark) ∷ [])

-- whether the components beyond the first d of a vector's record are zero
unfoldable pub zero_beyond : ℕ → List ℕ → Bool
zero_beyond d bytes = every max_dimensions (λ t. ltb t d || eqb (value_of vector_kind (suc t) bytes) 0)

-- 6, 8, for the vector whose record bytes begin with
abbrev pub components_causes : ℕ → ℕ → List ℤ → List ℕ → List Row
components_causes d b marks bytes =
    (not (zero_beyond d bytes) ⇒ Component) ∷ (not (inside d b marks (stored_at bytes)) ⇒ Outside) ∷ []

-- vector i
abbrev pub vector_causes : Library → List ℕ → ℕ → List Row
vector_causes l bytes i =
    let rest = drop (vector_place (mark_total l.d l.b) i) bytes in
    record_causes vector_kind rest (components_causes l.d l.b l.marks rest)

-- the marks of each dimension, the vectors, and the end, which has no body
abbrev pub marks_causes : Library → List ℕ → List Row
marks_causes l bytes = each l.d (λ t. each (mark_count l.d l.b (suc t)) (mark_causes bytes (first_marks l.d l.b t)))

abbrev pub vectors_causes : Library → List ℕ → List Row
vectors_causes l bytes = each l.n (vector_causes l bytes)

abbrev pub end_causes : Library → List ℕ → List Row
end_causes l bytes = record_causes end_kind (drop (vector_place (mark_total l.d l.b) l.n) bytes) []

-- the records of a library, left to right
abbrev pub records_causes : Library → List ℕ → List Row
records_causes l bytes = head_causes l bytes ++ marks_causes l bytes ++ vectors_causes l bytes ++ end_causes l bytes

-- "Calls on bytes test d and buffer lengths first, then go left to right." What is read past the end is 0: an earlier row refuses it.
unfoldable pub load_causes : ℕ → ℕ → ℕ → List ℕ → List Row
load_causes marks settings components bytes =
    (not (eqb marks marks_room && (eqb settings settings_room && eqb components components_room)) ⇒ Length)
    ∷ records_causes (read_library bytes) bytes

-- "Loading says how many bytes it used"
abbrev pub loaded : Library → Loaded
loaded l = record { d = l.d; b = l.b; n = l.n; used = library_length l.d l.b l.n }

-- the counts, or why there are none
abbrev pub counts : Verdict → Library → Result Loaded Refusal
counts verdict l = outcome verdict (Ok (loaded l)) Err

-- "fills the front and keeps the rest"; refused, the buffer is as it was
abbrev pub filled : {A : Type 0} → Verdict → List A → List A → List A
filled verdict new old = outcome verdict (new ++ drop (length new) old) (λ _. old)
