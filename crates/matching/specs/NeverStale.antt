-- "The kit program goes over to both and no longer gives 13" (document 02, Slip 1): no input has the number, and none the text. Assumes
-- nothing.
use Rattle.std.specs.Prelude.{◌≡◌, refl, ◌≢◌, true, List, ◌++◌, ℕ, zero, suc, drop, Ok, Err}
use Rattle.std.proofs.Common.{ap}
use Rattle.refusal.specs.declared.Refusal.{Refusal}
use Rattle.refusal.specs.declared.Refusal.TheVariants.{Stale}
use Rattle.refusal.specs.Refusal.{Verdict}
use Rattle.refusal.specs.Refusal.{number_of, status_of}
use Rattle.refusal.specs.First.{Row, first, outcome}
use Rattle.refusal.proofs.Never.{lacks, lacks_append, never_number}
use Rattle.refusal.proofs.Numbers.{one_cause}
use Rattle.layout.specs.Layout.{mark_count, first_marks}
use Rattle.records.specs.Frame.{frame_causes}
use Rattle.library.specs.Library.{Library, read_library}
use Rattle.library.specs.Each.{each}
use Rattle.loading.specs.Load.{head_causes, mark_causes, vector_causes, marks_causes, vectors_causes, end_causes}
use Rattle.loading.specs.Load.{records_causes as library_causes}
use Rattle.query.specs.Query.{present_causes_of}
use Rattle.query.specs.Intakes.{present_causes_lack}
use Rattle.text.specs.Text.{refused_line}
use Rattle.text.specs.Told.{refused_told, line_not_refused}
use Rattle.matching.specs.Answer.{refused_text, answer_text}
use Rattle.matching.specs.Match.{behind, k_length, k_of, k_causes, read_query, match_causes, match_text}

-- ---- the number

-- a cause that none of the lists has
each_lacks : (cause : Refusal) (n : ℕ) (f : ℕ → List Row) → ((i : ℕ) → lacks cause (f i) ≡ true) → lacks cause (each n f) ≡ true
unfolding each lacks
each_lacks cause zero f none = refl
each_lacks cause (suc n) f none = lacks_append cause (each n f) (f n) (each_lacks cause n f none) (none n)

library_lacks : (l : Library) (bytes : List ℕ) → lacks Stale (library_causes l bytes) ≡ true
unfolding lacks frame_causes
library_lacks l bytes =
    let in_marks =
    each_lacks Stale l.d _
    (λ t. each_lacks Stale (mark_count l.d l.b (suc t)) (mark_causes bytes (first_marks l.d l.b t)) (λ i. refl)) in
    let in_vectors = each_lacks Stale l.n (vector_causes l bytes) (λ i. refl) in
    let front = lacks_append Stale (head_causes l bytes) (marks_causes l bytes) refl in_marks in
    let records = lacks_append Stale (head_causes l bytes ++ marks_causes l bytes) (vectors_causes l bytes) front in_vectors in
    lacks_append Stale (head_causes l bytes ++ marks_causes l bytes ++ vectors_causes l bytes) (end_causes l bytes) records refl

match_lacks : (input : List ℕ) → lacks Stale (match_causes input) ≡ true
unfolding lacks match_causes
match_lacks input =
    let l = read_library input in
    let rest = behind l input in
    lacks_append Stale (library_causes l input) (k_causes l.n rest ++ present_causes_of l.d (drop k_length rest)) (library_lacks l input)
    (present_causes_lack l.d (drop k_length rest))

pub match_never_13 : (input : List ℕ) → status_of (first (match_causes input)) ≢ 13
match_never_13 input = never_number Stale (match_causes input) (match_lacks input)

-- ---- the text

-- a refusal's text tells its cause
pub cause_told : (input : List ℕ) (cause : Refusal) → match_text input ≡ refused_text cause → first (match_causes input) ≡ Err cause
unfolding match_text match_causes
cause_told input cause same = go (first (match_causes input)) same
  where
    go : (v : Verdict)
        → let l = read_library input in
        let rest = behind l input in
        outcome v (answer_text l (read_query l.d (drop k_length rest)) (k_of rest)) refused_text ≡ refused_text cause → v ≡ Err cause
    go (Ok _) same = absurd (line_not_refused _ _ _ _ _ same)
    go (Err other) same = ap Err (one_cause other cause (refused_told (number_of other) (number_of cause) same))

pub text_never_13 : (input : List ℕ) → match_text input ≢ refused_line 13
text_never_13 input same = match_never_13 input (ap status_of (cause_told input Stale same))
