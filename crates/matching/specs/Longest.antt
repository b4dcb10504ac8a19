-- No accepted match is longer than 45,928 bytes, and a longer input is refused by what stands in its first 45,929: the program reads no
-- more. Assumes nothing.
use Rattle.std.specs.Prelude.{◌≡◌, refl, Bool, not, cond, ◌||◌, ltb, eqb, ℤ, length, take, drop, Ok, Err}
use Rattle.std.proofs.Math.Path.{sym, ap}
use Rattle.std.proofs.Common.{ap₂, subst, ◌∙◌, arith, eqb-true, lt-ltb, le-ltb, ne_eqb, lit≤, length-append, take_all, to_z}
use Rattle.std.proofs.Math.Bool.{true, false}
use mathlib.Core.List.{List, [], ◌∷◌, ◌++◌, append_assoc}
use Prim.Native.Nat.{ℕ, zero, suc, ◌+◌, ◌-◌, ◌*◌, ◌≤◌, ◌<◌}
use Rattle.std.proofs.Math.Decide.{dec_lt}
use Rattle.std.proofs.Math.Nat.{suc-mul}
use Rattle.std.proofs.lemmas.Bool.{not-false}
use Rattle.std.specs.Int.{w16}
use Rattle.refusal.specs.declared.Refusal.{Refusal}
use Rattle.refusal.specs.declared.Refusal.TheVariants.{Kind, Misplaced, Trailing, Count}
use Rattle.refusal.specs.Refusal.{Verdict}
use Rattle.refusal.specs.First.{Row, ◌⇒◌, first, passed, first_here, outcome_refused, apart}
use Rattle.limits.specs.Limits.{max_dimensions, max_dimension_bits, max_vectors, kit_vectors, is_vector_count}
use Rattle.limits.specs.Tests.{between}
use Rattle.layout.specs.Layout.{bits_of, mark_count, first_marks}
use Rattle.layout.specs.Laws.{marks_within}
use Rattle.layout.specs.Stretch.{shape_causes, Shape, shape}
use Rattle.reading.specs.declared.Reading.{Reading}
use Rattle.reading.specs.Intake.{present_causes}
use Rattle.records.specs.Records.{head_kind, mark_kind, vector_kind, end_kind, fresh_kind, held_kind, lost_kind, formats, widths_among, widths_of}
use Rattle.records.specs.Records.{sum, record_length, is_kind, kind_of, value_of}
use Rattle.records.specs.Frame.{frame_causes, framed}
use Rattle.records.specs.RowLaws.{go_on, stop, both}
use Rattle.library.specs.Each.{tabulate}
use Rattle.library.specs.EachLaws.{each_same, every_same}
use Rattle.library.specs.Library.{Library, mark_total, mark_place, vector_place, library_length, head_value, mark_at, stored_at, read_library}
use Rattle.library.specs.Tests.{inside}
use Rattle.library.specs.Sizes.{mark_place_lem, vector_place_lem, library_length_lem, vector_length, marks_few}
use Rattle.library.specs.Read.{marks_read}
use Rattle.loading.specs.Load.{record_causes, head_causes, mark_causes, zero_beyond, components_causes, vector_causes, marks_causes, vectors_causes}
use Rattle.loading.specs.Load.{end_causes}
use Rattle.region.specs.Region.{in_marks}
use Rattle.partition.specs.Marks.{dimension_marks}
use Rattle.query.specs.Query.{is_reading, reading_of, reading_causes, records_causes, present_causes_of, next_record}
use Rattle.matching.specs.Answer.{refused_text}
use Rattle.matching.specs.Match.{behind, k_length, k_causes, match_causes, match_text}
use Rattle.matching.specs.Alike.{Alike, alike_take, alike_drop, same_number, same_value, same_kind, record_most, same_frame}

-- the longest library, k, and a held reading for each dimension
unfoldable pub longest_match : ℕ
longest_match = library_length max_dimensions (max_dimension_bits * max_dimensions) kit_vectors + k_length + max_dimensions * record_length held_kind

pub longest_match_lem : longest_match ≡ 45928
unfolding longest_match library_length vector_place mark_place record_length sum widths_of widths_among formats first_marks bits_of
longest_match_lem = refl

-- both refuse, by the same cause
pub record BothRefuse (rows more : List Row) : Type 0 where
  pub cause : Refusal
  pub one : first rows ≡ Err cause
  pub other : first more ≡ Err cause

-- rows in front that are the same: they refuse in both, or neither
in_front : (rows rows' more more' : List Row) → first rows ≡ first rows' → (first rows ≡ Ok tt → BothRefuse more more')
    → BothRefuse (rows ++ more) (rows' ++ more')
in_front rows rows' more more' same rest = go (first rows) refl
  where
    go : (v : Verdict) → first rows ≡ v → BothRefuse (rows ++ more) (rows' ++ more')
    go (Ok _) e =
        let behind = rest e in
        record { cause = behind.cause; one = go_on rows more e ∙ behind.one; other = go_on rows' more' (sym same ∙ e) ∙ behind.other }
    go (Err cause) e = record { cause = cause; one = stop rows more e; other = stop rows' more' (sym same ∙ e) }

regroup : (head marks vectors end rest : List Row) → head ++ marks ++ vectors ++ end ++ rest ≡ head ++ (marks ++ (vectors ++ (end ++ rest)))
regroup head marks vectors end rest = simp append_assoc

-- ---- the query

held_length : record_length held_kind ≡ 6
unfolding record_length sum widths_of widths_among formats
held_length = refl

fresh_length : record_length fresh_kind ≡ 5
unfolding record_length sum widths_of widths_among formats
fresh_length = refl

lost_length : record_length lost_kind ≡ 1
unfolding record_length sum widths_of widths_among formats
lost_length = refl

-- no reading's record is longer than a held one's
reading_most : (kind : ℕ) → is_reading kind ≡ true → record_length kind ≤ 6
reading_most kind is = fresh (eqb kind fresh_kind) refl
  where
    lost : (t : Bool) → eqb kind lost_kind ≡ t → t ≡ true → record_length kind ≤ 6
    lost true e h = rw (eqb-true kind lost_kind e, lost_length) (lit≤ tt)
    lost false e h =
        let clash : ◌≡◌ {A = ℕ} 0 1 = cc in
        absurd (omega arith)

    held : (t : Bool) → eqb kind held_kind ≡ t → t || eqb kind lost_kind ≡ true → record_length kind ≤ 6
    held true e h = rw (eqb-true kind held_kind e, held_length) (lit≤ tt)
    held false e h = lost (eqb kind lost_kind) refl h

    fresh : (t : Bool) → eqb kind fresh_kind ≡ t → record_length kind ≤ 6
    fresh true e = rw (eqb-true kind fresh_kind e, fresh_length) (lit≤ tt)
    fresh false e = held (eqb kind held_kind) refl (rw e at is)

same_reading : {m : ℕ} {a b : List ℕ} → Alike m a b → 6 ≤ m → reading_of a ≡ reading_of b
unfolding reading_of
same_reading {m} {a} {b} is room =
    rw (
      same_kind is (omega arith),
      same_value fresh_kind 0 is (rw fresh_length (omega arith)),
      same_value held_kind 0 is (rw held_length (omega arith)),
      same_value held_kind 1 is (rw held_length (omega arith)),
    )

module _ (own : Reading → List Row) where
  -- a kind that is no reading's is refused whatever follows
  misplaced : (bytes : List ℕ) → 0 < length bytes → is_reading (kind_of bytes) ≡ false
      → first (reading_causes own bytes) ≡ Err (cond (is_kind (kind_of bytes)) Misplaced Kind)
  unfolding reading_causes
  misplaced bytes some not-reading =
      stop (frame_causes (is_reading (kind_of bytes)) bytes) (own (reading_of bytes)) (go (is_kind (kind_of bytes)) refl)
    where
      go : (t : Bool) → is_kind (kind_of bytes) ≡ t → first (frame_causes (is_reading (kind_of bytes)) bytes) ≡ Err (cond t Misplaced Kind)
      go true e = unfold first frame_causes in rw (ne_eqb (length bytes) 0 (λ z. omega arith), e, not-reading)
      go false e = unfold first frame_causes in rw (ne_eqb (length bytes) 0 (λ z. omega arith), e)

  same_first : {m : ℕ} {a b : List ℕ} → Alike m a b → 6 ≤ m → first (reading_causes own a) ≡ first (reading_causes own b)
  same_first {m} {a} {b} is room = go (is_reading (kind_of a)) refl
    where
      kinds : kind_of a ≡ kind_of b
      kinds = same_kind is (omega arith)

      go : (t : Bool) → is_reading (kind_of a) ≡ t → first (reading_causes own a) ≡ first (reading_causes own b)
      go true e =
          unfold reading_causes in rw
          (same_frame (is_reading (kind_of a)) is (omega (arith, reading_most (kind_of a) e)), kinds, same_reading is room)
      go false e =
          misplaced a (omega (arith, is.one_has)) e ∙ ap (λ (kind : ℕ). Err (cond (is_kind kind) Misplaced Kind)) kinds
          ∙ sym (misplaced b (omega (arith, is.other_has)) (rw kinds at e))

  reading_there : (bytes : List ℕ) → first (reading_causes own bytes) ≡ Ok tt → is_reading (kind_of bytes) ≡ true
  unfolding reading_causes
  reading_there bytes accepted =
      (framed (is_reading (kind_of bytes)) bytes
      (both (frame_causes (is_reading (kind_of bytes)) bytes) (own (reading_of bytes)) accepted).front).there

  -- more bytes than d readings can have
  too_long_query : (d : ℕ) {m : ℕ} {a b : List ℕ} → Alike m a b → d * 6 < m → BothRefuse (records_causes own d a) (records_causes own d b)
  unfolding records_causes
  too_long_query zero {m} {a} {b} is long = record {
    cause = Trailing;
    one = first_here Trailing [] (lt-ltb 0 (length a) (omega (arith, is.one_has)));
    other = first_here Trailing [] (lt-ltb 0 (length b) (omega (arith, is.other_has)));
  }
  too_long_query (suc d) {m} {a} {b} is long =
      let six : 6 ≤ m = omega (arith, suc-mul d 6) in
      in_front (reading_causes own a) (reading_causes own b) (records_causes own d (next_record a)) (records_causes own d (next_record b)) (same_first is six)
      (λ accepted.
      let short = reading_most (kind_of a) (reading_there a accepted) in
      let behind : Alike (m - record_length (kind_of a)) (next_record a) (next_record b) =
      rw (← same_kind is (omega arith)) (alike_drop (record_length (kind_of a)) is) in
      too_long_query d behind (omega (arith, suc-mul d 6)))

-- so it is with the second intake, whatever it says of the word
too_long_present : (d : ℕ) {m : ℕ} {a b : List ℕ} → Alike m a b → d * 6 < m → BothRefuse (present_causes_of d a) (present_causes_of d b)
unfolding present_causes_of
too_long_present d {m} {a} {b} is long =
    let refused = too_long_query present_causes d is long in
    record {
      cause = refused.cause;
      one = stop (records_causes present_causes d a) _ refused.one;
      other = stop (records_causes present_causes d b) _ refused.other;
    }

-- ---- the library

head_length : record_length head_kind ≡ 5
unfolding record_length sum widths_of widths_among formats
head_length = refl

mark_length : record_length mark_kind ≡ 5
unfolding record_length sum widths_of widths_among formats
mark_length = refl

-- a record with room for the longest behind its place, and the same causes of its own
same_record : (kind : ℕ) {m : ℕ} {a b : List ℕ} (own own' : List Row) → Alike m a b → 69 ≤ m → own ≡ own'
    → record_causes kind a own ≡ record_causes kind b own'
same_record kind {m} {a} {b} own own' is room same =
    rw (same_frame (eqb (kind_of a) kind) is (omega (arith, record_most (kind_of a), vector_length)), same_kind is (omega arith), same)

same_components : (d b : ℕ) (marks : List ℤ) {m : ℕ} {one other : List ℕ} → Alike m one other → 69 ≤ m
    → components_causes d b marks one ≡ components_causes d b marks other
unfolding zero_beyond inside stored_at
same_components d b marks {m} {one} {other} is room =
    let value : (t : ℕ) → value_of vector_kind (suc t) one ≡ value_of vector_kind (suc t) other =
    λ t. same_value vector_kind (suc t) is (rw vector_length room) in
    let zero : List ℕ → ℕ → Bool = λ bytes t. ltb t d || eqb (value_of vector_kind (suc t) bytes) 0 in
    let lies : List ℕ → ℕ → Bool = λ bytes t. in_marks (dimension_marks d b marks (suc t)) (to_z w16 (value_of vector_kind (suc t) bytes)) in
    let zeros = every_same max_dimensions (zero one) (zero other) (λ t h. rw (value t)) in
    let insides = every_same d (lies one) (lies other) (λ t h. rw (value t)) in
    rw (zeros, insides)

same_k_causes : (n : ℕ) {m : ℕ} {a b : List ℕ} → Alike m a b → k_length ≤ m → k_causes n a ≡ k_causes n b
same_k_causes n {m} {a} {b} is room =
    rw (
      le-ltb (length a) k_length (omega (arith, is.one_has)),
      le-ltb (length b) k_length (omega (arith, is.other_has)),
      same_number k_length is room,
    )

-- with room for the longest match and one byte more
module _ (a b : List ℕ) (is : Alike (suc longest_match) a b) where
  -- of which more than a record is left behind every place
  from : (p : ℕ) → p + 69 ≤ 45929 → Alike (45929 - p) (drop p a) (drop p b)
  from p room = rw longest_match_lem at (alike_drop p is)

  same_head_value : (i : ℕ) → head_value a i ≡ head_value b i
  unfolding head_value
  same_head_value i = same_value head_kind i is (rw (head_length, longest_match_lem) (lit≤ tt))

  abbrev one : Library
  one = read_library a

  abbrev other : Library
  other = read_library b

  same_d : one.d ≡ other.d
  unfolding read_library
  same_d = same_head_value 0

  same_b : one.b ≡ other.b
  unfolding read_library
  same_b = same_head_value 1

  same_n : one.n ≡ other.n
  unfolding read_library
  same_n = same_head_value 2

  same_head : head_causes one a ≡ head_causes other b
  same_head =
      same_record head_kind _ _ is (rw longest_match_lem (lit≤ tt))
      (rw (same_d, same_b, same_n))

  -- behind a head that passes
  module _ (passes : first (head_causes one a) ≡ Ok tt) where
    own_heads : first (shape_causes one.d one.b ++ ((not (is_vector_count one.n) ⇒ Count) ∷ [])) ≡ Ok tt
    own_heads = (both (frame_causes (eqb (kind_of a) head_kind) a) _ passes).back

    shaped : Shape one.d one.b
    shaped = shape one.d one.b (both (shape_causes one.d one.b) _ own_heads).front

    few_marks : mark_total one.d one.b ≤ 2080
    few_marks = marks_few one.d one.b shaped

    few_vectors : one.n ≤ 512
    few_vectors =
        let counted = passed (not (is_vector_count one.n)) Count [] (both (shape_causes one.d one.b) _ own_heads).back in
        (between 1 one.n max_vectors (not-false (is_vector_count one.n) counted.fails)).below

    same_mark : (p : ℕ) → p ≤ 2080 → mark_at a p ≡ mark_at b p
    unfolding mark_at
    same_mark p few =
        let place = mark_place_lem p in
        rw (same_value mark_kind 0 (from (mark_place p) (omega arith)) (rw mark_length (omega arith)))

    same_marks_list : one.marks ≡ other.marks
    same_marks_list =
        marks_read a
        ∙ each_same (mark_total one.d one.b) _ _ (λ i h. ap (λ (z : ℤ). z ∷ []) (same_mark i (omega (arith, few_marks))))
        ∙ ap₂ (λ (d bits : ℕ). tabulate (mark_total d bits) (mark_at b)) same_d same_b
        ∙ sym (marks_read b)

    same_mark_causes : (p i : ℕ) → p + i < 2080 → mark_causes a p i ≡ mark_causes b p i
    same_mark_causes p i few =
        let place = mark_place_lem (p + i) in
        same_record mark_kind _ _ (from (mark_place (p + i)) (omega arith)) (omega arith)
        (rw (same_mark (p + i) (omega arith), same_mark (p + i - 1) (omega arith)))

    same_marks : marks_causes one a ≡ marks_causes other b
    same_marks =
        rw (← same_d, ← same_b)
        (each_same one.d _ _
        (λ t among.
        let room = marks_within one.d one.b one.d t among in
        each_same (mark_count one.d one.b (suc t)) _ _
        (λ i within. same_mark_causes (first_marks one.d one.b t) i (unfold first_marks in omega (arith, few_marks)))))

    same_vector : (i : ℕ) → i < one.n → vector_causes one a i ≡ vector_causes other b i
    same_vector i few =
        let place = vector_place_lem (mark_total one.d one.b) i in
        let rest = from (vector_place (mark_total one.d one.b) i) (omega (arith, few_marks, few_vectors)) in
        rw (← same_d, ← same_b, ← same_marks_list)
        (same_record vector_kind _ _ rest (omega (arith, few_marks, few_vectors))
        (same_components one.d one.b one.marks rest (omega (arith, few_marks, few_vectors))))

    same_vectors : vectors_causes one a ≡ vectors_causes other b
    same_vectors = rw (← same_n) (each_same one.n _ _ same_vector)

    same_end : end_causes one a ≡ end_causes other b
    same_end =
        let place = vector_place_lem (mark_total one.d one.b) one.n in
        rw (← same_d, ← same_b, ← same_n)
        (same_record end_kind [] [] (from (vector_place (mark_total one.d one.b) one.n) (omega (arith, few_marks, few_vectors)))
        (omega (arith, few_marks, few_vectors)) refl)

    -- ---- k and the query

    abbrev used : ℕ
    used = library_length one.d one.b one.n

    used_few : used ≤ 45734
    used_few = omega (arith, library_length_lem one.d one.b one.n, few_marks, few_vectors)

    rest_alike : Alike (45929 - used) (behind one a) (behind other b)
    rest_alike = rw (← same_d, ← same_b, ← same_n) (from used (omega (arith, used_few)))

    same_k : k_causes one.n (behind one a) ≡ k_causes other.n (behind other b)
    same_k = same_k_causes one.n rest_alike (omega (arith, used_few)) ∙ ap (λ (n : ℕ). k_causes n (behind other b)) same_n

    long_query : BothRefuse (present_causes_of one.d (drop k_length (behind one a))) (present_causes_of other.d (drop k_length (behind other b)))
    long_query =
        subst
        (λ (d : ℕ). BothRefuse (present_causes_of one.d (drop k_length (behind one a))) (present_causes_of d (drop k_length (behind other b)))) same_d
        (too_long_present one.d (alike_drop k_length rest_alike) (omega (arith, used_few, shaped.few)))

    behind_head : BothRefuse
        (marks_causes one a ++
        (vectors_causes one a ++
        (end_causes one a ++ (k_causes one.n (behind one a) ++ present_causes_of one.d (drop k_length (behind one a))))))
        (marks_causes other b ++
        (vectors_causes other b ++
        (end_causes other b ++ (k_causes other.n (behind other b) ++ present_causes_of other.d (drop k_length (behind other b))))))
    behind_head =
        in_front _ _ _ _ (ap first same_marks)
        (λ _. in_front _ _ _ _ (ap first same_vectors)
        (λ _. in_front _ _ _ _ (ap first same_end)
        (λ _. in_front _ _ _ _ (ap first same_k) (λ _. long_query))))

  both_refuse : BothRefuse (match_causes a) (match_causes b)
  unfolding match_causes
  both_refuse =
      let refused = in_front _ _ _ _ (ap first same_head) behind_head in
      record {
        cause = refused.cause;
        one = ap first (regroup (head_causes one a) (marks_causes one a) (vectors_causes one a) (end_causes one a) _) ∙ refused.one;
        other = ap first (regroup (head_causes other b) (marks_causes other b) (vectors_causes other b) (end_causes other b) _)
            ∙ refused.other;
      }

-- ---- the theorem

-- An input longer than that is refused, by the cause that its first 45,929 bytes give ..
pub longer_is_refused : (input : List ℕ) → longest_match < length input
    → BothRefuse (match_causes input) (match_causes (take (suc longest_match) input))
longer_is_refused input long = both_refuse input (take (suc longest_match) input) (alike_take (suc longest_match) input long)

-- .. so the text is that of those bytes ..
pub longer_text : (input : List ℕ) → longest_match < length input → match_text input ≡ match_text (take (suc longest_match) input)
unfolding match_text match_causes
longer_text input long =
    let refused = longer_is_refused input long in
    outcome_refused _ refused_text refused.one ∙ sym (outcome_refused _ refused_text refused.other)

-- .. and no accepted input is longer.
pub accepted_length : (input : List ℕ) → first (match_causes input) ≡ Ok tt → length input ≤ longest_match
accepted_length input accepted = go (dec_lt longest_match (length input))
  where
    go : Dec (longest_match < length input) → length input ≤ longest_match
    go (yes long) = absurd (apart (sym accepted ∙ (longer_is_refused input long).one))
    go (no short) = omega arith

-- ---- what is read

-- Bytes that were read, no more than that and one, have the text of all that they were read of.
pub read_text : (input : List ℕ) → match_text (take (suc longest_match) input) ≡ match_text input
read_text input = go (dec_lt longest_match (length input))
  where
    go : Dec (longest_match < length input) → match_text (take (suc longest_match) input) ≡ match_text input
    go (yes long) = sym (longer_text input long)
    go (no short) = ap match_text (take_all (suc longest_match) input (omega arith))

-- the front of a buffer is a text of r bytes, and the rest as it was
pub record Front (text before after : List ℕ) (r : ℕ) : Type 0 where
  pub is : after ≡ text ++ drop (length text) before
  pub size : r ≡ length text

pub front_within : {text before after : List ℕ} {r : ℕ} → Front text before after r → r ≤ length after
front_within {text} {before} {after} front =
    omega (arith, front.size, ap length front.is ∙ length-append text (drop (length text) before))

-- the text of whatever input these bytes were read of
abbrev pub PrintsRead : List ℕ → List ℕ → List ℕ → ℕ → Type 0
PrintsRead bytes before after r = (input : List ℕ) → take (suc longest_match) input ≡ bytes → Front (match_text input) before after r

pub prints_read : {bytes before after : List ℕ} {r : ℕ} → Front (match_text bytes) before after r → PrintsRead bytes before after r
prints_read {before = before} {after} {r} front input read =
    subst (λ (text : List ℕ). Front text before after r) (ap match_text (sym read) ∙ read_text input) front
