-- The tests of a record, as the code makes them: a verdict on its frame, and tests by keys. Assumes nothing.
use Rattle.std.specs.Prelude.{◌≡◌, not, List, [], ◌∷◌, ℕ, eqb, ℤ, pos, get_or, drop}
use Rattle.std.proofs.Common.{◌∙◌}
use Rattle.refusal.specs.declared.Refusal.TheVariants.{Component, Outside}
use Rattle.refusal.specs.Refusal.{Verdict}
use Rattle.refusal.specs.First.{Row, ◌⇒◌, first}
use Rattle.records.specs.Records.{vector_kind, kind_of}
use Rattle.records.specs.RecordLaws.{kind_at}
use Rattle.records.specs.Frame.{frame_causes}
use Rattle.library.specs.Each.{each, tabulate}
use Rattle.library.specs.EachLaws.{each_same, tabulate_length, tabulate_at}
use Rattle.library.specs.Library.{mark_total, vector_place, mark_at, stored_at, read_library}
use Rattle.library.specs.Ends.{between, EndMarks, inside_between}
use Rattle.loading.specs.Load.{record_causes, zero_beyond, vectors_causes}
use Rattle.loading.specs.Heads.{HeadOf, marks_are}

-- the causes of the record that bytes begin with, in a place that is for one kind, but for the body's own
abbrev pub kind_causes : ℕ → List ℕ → List Row
kind_causes kind bytes = frame_causes (eqb (kind_of bytes) kind) bytes

-- the causes of the vector whose record bytes begin with, by the ends of the marks; and those of its components alone
abbrev pub own_causes : ℕ → List ℤ → List ℤ → List ℕ → List Row
own_causes d lows highs bytes = (not (zero_beyond d bytes) ⇒ Component) ∷ (not (between d lows highs (stored_at bytes)) ⇒ Outside) ∷ []

abbrev pub between_causes : ℕ → List ℤ → List ℤ → List ℕ → List Row
between_causes d lows highs bytes = record_causes vector_kind bytes (own_causes d lows highs bytes)

-- they are the vector's causes
pub vectors_between : {d b m n : ℕ} {lows highs : List ℤ} (bytes : List ℕ) → HeadOf bytes d b n → m ≡ mark_total d b
    → EndMarks d b (mark_at bytes) lows highs
    → each n (λ i. between_causes d lows highs (drop (vector_place m i) bytes)) ≡ vectors_causes (read_library bytes) bytes
vectors_between {d} {b} {m} {n} {lows} {highs} bytes is total ends =
    let shaped = is.of_shape in
    let marks = tabulate (mark_total d b) (mark_at bytes) in
    let law =
    inside_between d b marks (mark_at bytes) (tabulate_length (mark_total d b) (mark_at bytes))
    (λ i h. tabulate_at (mark_total d b) (mark_at bytes) (pos 0) i h) ends in
    rw is.n_is
    (each_same n _ _
    (λ i h. rw (total, shaped.d_is, shaped.b_is, marks_are bytes shaped, law (stored_at (drop (vector_place (mark_total d b) i) bytes)))))

-- the verdict on the frame of the record at a place, by the kind that was found there
pub frame_at : {verdict : Verdict} {found at place : ℕ} (kind : ℕ) (bytes : List ℕ) → at ≡ place → found ≡ get_or bytes at 0
    → verdict ≡ first (frame_causes (eqb found kind) (drop at bytes))
    → verdict ≡ first (frame_causes (eqb (kind_of (drop place bytes)) kind) (drop place bytes))
frame_at {place = place} kind bytes at-is found-is is = is ∙ rw (found-is, at-is, ← kind_at bytes place)
