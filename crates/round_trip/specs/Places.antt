-- Where the records of a library stand in its bytes. Assumes nothing.
use Rattle.std.specs.Prelude.{◌≡◌, ℕ, ◌*◌, ◌<◌, pos, length, get_or, drop}
use Rattle.std.proofs.Math.Path.{sym}
use Rattle.std.proofs.Common.{◌∙◌, length-append, drop-drop, of_z}
use mathlib.Core.List.{List, [], ◌∷◌, ◌++◌, append_assoc}
use Rattle.std.proofs.Math.Seq.{drop_at}
use Rattle.std.specs.Int.{w32}
use Rattle.records.specs.Records.{head_kind, mark_kind, vector_kind, end_kind, record_length}
use Rattle.records.specs.RecordLaws.{record_length_lem}
use Rattle.library.specs.Each.{each}
use Rattle.library.specs.EachLaws.{Begins, each_length, each_at}
use Rattle.library.specs.Library.{Library, mark_total, head_bytes, mark_bytes, vector_values, vector_bytes, end_bytes, component_in, library_bytes}
use Rattle.library.specs.Library.{mark_place, vector_place, library_length}

module _ (l : Library) where
  -- its marks' and its vectors' records
  abbrev pub mark_in : ℕ → List ℕ
  mark_in i = mark_bytes (get_or l.marks i (pos 0))

  abbrev pub vector_in : ℕ → List ℕ
  vector_in i = vector_bytes l.d (get_or l.settings i 0) (component_in l i)

  abbrev total : ℕ
  total = mark_total l.d l.b

  abbrev head : List ℕ
  head = head_bytes l.d l.b l.n

  abbrev marks : List ℕ
  marks = each total mark_in

  abbrev vectors : List ℕ
  vectors = each l.n vector_in

  mark_size : (i : ℕ) → length (mark_in i) ≡ record_length mark_kind
  mark_size i = record_length_lem mark_kind (of_z w32 (get_or l.marks i (pos 0)) ∷ [])

  vector_size : (i : ℕ) → length (vector_in i) ≡ record_length vector_kind
  vector_size i = record_length_lem vector_kind (vector_values l.d (get_or l.settings i 0) (component_in l i))

  head_size : length head ≡ record_length head_kind
  head_size = record_length_lem head_kind (l.d ∷ l.b ∷ l.n ∷ [])

  marks_size : length (head ++ marks) ≡ mark_place total
  unfolding mark_place
  marks_size = rw (length-append head marks, head_size, each_length (record_length mark_kind) total mark_in mark_size)

  vectors_size : length (head ++ marks ++ vectors) ≡ vector_place total l.n
  unfolding vector_place
  vectors_size = rw (length-append (head ++ marks) vectors, marks_size, each_length (record_length vector_kind) l.n vector_in vector_size)

  pub library_size : length (library_bytes l) ≡ library_length l.d l.b l.n
  unfolding library_bytes library_length
  library_size = rw (length-append (head ++ marks ++ vectors) end_bytes, vectors_size, record_length_lem end_kind [])

  -- with anything behind the library
  module _ (rest : List ℕ) where
    abbrev bytes : List ℕ
    bytes = library_bytes l ++ rest

    behind_vectors : bytes ≡ head ++ marks ++ vectors ++ (end_bytes ++ rest)
    unfolding library_bytes
    behind_vectors = append_assoc (head ++ marks ++ vectors) end_bytes rest

    behind_marks : bytes ≡ head ++ marks ++ (vectors ++ (end_bytes ++ rest))
    behind_marks = behind_vectors ∙ append_assoc (head ++ marks) vectors (end_bytes ++ rest)

    behind_head : bytes ≡ head ++ (marks ++ (vectors ++ (end_bytes ++ rest)))
    behind_head = behind_marks ∙ append_assoc head marks (vectors ++ (end_bytes ++ rest))

    pub head_there : Begins head bytes
    head_there = record { tail = marks ++ (vectors ++ (end_bytes ++ rest)); is = behind_head }

    pub mark_there : (i : ℕ) → i < total → Begins (mark_in i) (drop (mark_place i) bytes)
    unfolding mark_place
    mark_there i h =
        let there = each_at (record_length mark_kind) total mark_in mark_size (vectors ++ (end_bytes ++ rest)) i h in
        let from = drop_at head (marks ++ (vectors ++ (end_bytes ++ rest))) (record_length head_kind) head_size in
        record {
          tail = there.tail;
          is = sym (drop-drop (i * record_length mark_kind) (record_length head_kind) bytes) ∙ rw (behind_head, from) there.is;
        }

    pub vector_there : (i : ℕ) → i < l.n → Begins (vector_in i) (drop (vector_place total i) bytes)
    unfolding vector_place
    vector_there i h =
        let there = each_at (record_length vector_kind) l.n vector_in vector_size (end_bytes ++ rest) i h in
        let from = drop_at (head ++ marks) (vectors ++ (end_bytes ++ rest)) (mark_place total) marks_size in
        record {
          tail = there.tail;
          is = sym (drop-drop (i * record_length vector_kind) (mark_place total) bytes) ∙ rw (behind_marks, from) there.is;
        }

    pub end_there : Begins end_bytes (drop (vector_place total l.n) bytes)
    end_there = record {
      tail =
          rest;
      is = rw behind_vectors (drop_at (head ++ marks ++ vectors) (end_bytes ++ rest) (vector_place total l.n) vectors_size);
    }
