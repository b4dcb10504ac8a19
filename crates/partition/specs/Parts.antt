-- A dimension's part of the marks buffer: by the buffer's own places, as it is handed back, and at a place in marks that have been tested.
-- Assumes nothing.
use Rattle.std.specs.Prelude.{◌≡◌, Bool, ◌&&◌, cond, List, [], ℕ, suc, ◌+◌, ◌-◌, ◌*◌, ◌^◌, ◌≤◌, ◌<◌, leb, eqb, ℤ, length, take, drop, get_or, Ok}
use Rattle.std.proofs.Common.{ap, ◌∙◌, arith, eqb-true, le-leb, length-drop, get_or-take, get_or-drop, length-take-le}
use Rattle.std.proofs.lemmas.Bool.{not-false}
use Rattle.refusal.specs.First.{first, outcome, passed, accepted_front, accepted_behind}
use Rattle.limits.specs.Limits.{max_dimension_bits}
use Rattle.layout.specs.declared.Stretch.{Stretch}
use Rattle.layout.specs.Layout.{bits_of, mark_count, first_marks}
use Rattle.layout.specs.Laws.{bits_le, marks_within, first_next_marks}
use Rattle.layout.specs.Stretch.{dimension_causes, stretch_of, stretches}
use Rattle.partition.specs.Marks.{dimension_marks}
use Rattle.partition.specs.MarksCauses.{shaped_causes, part_causes}

-- Mark r of dimension t + 1 stands r places behind the first marks of t dimensions.
pub part_at : (d b : ℕ) (marks : List ℤ) (t r : ℕ) (z : ℤ) → r < mark_count d b (suc t)
    → get_or (dimension_marks d b marks (suc t)) r z ≡ get_or marks (first_marks d b t + r) z
unfolding dimension_marks
part_at d b marks t r z below =
    let before : suc t - 1 ≡ t = omega arith in
    get_or-take (mark_count d b (suc t)) (drop (first_marks d b (suc t - 1)) marks) r z below
    ∙ get_or-drop (first_marks d b (suc t - 1)) marks r z
    ∙ ap (λ (n : ℕ). get_or marks (first_marks d b n + r) z) before

-- A dimension's part of marks that are as many as the layout says has all of its marks.
pub part_length : (d b : ℕ) (marks : List ℤ) → length marks ≡ first_marks d b d → (t : ℕ) → t < d
    → length (dimension_marks d b marks (suc t)) ≡ mark_count d b (suc t)
unfolding dimension_marks first_marks
part_length d b marks whole t among =
    let before : suc t - 1 ≡ t = omega arith in
    let room : first_marks d b t + mark_count d b (suc t) ≤ length marks = rw whole (marks_within d b d t among) in
    rw before (length-take-le (mark_count d b (suc t)) (drop (first_marks d b t) marks) (rw length-drop (omega arith)))

-- ---- A part that is handed back

-- A call hands back dimension j's part of the marks buffer, "or an empty part if refused".
abbrev pub seen_marks : ℕ → ℕ → List ℤ → ℕ → List ℤ
seen_marks d b marks j = outcome (first (part_causes d b marks j)) (dimension_marks d b marks j) (λ _. [])

-- Where a part is handed back, there is such a dimension, and the buffer has its length.
pub part_accepted : (d b j : ℕ) (marks : List ℤ) → first (part_causes d b marks j) ≡ Ok tt
    → (first (dimension_causes d b j) ≡ Ok tt) × (length marks ≡ first_marks d b d)
part_accepted d b j marks accepted =
    let size = passed _ _ _ (accepted_behind (dimension_causes d b j) (shaped_causes d b marks) accepted) in (
      accepted_front (dimension_causes d b j) (shaped_causes d b marks) accepted,
      eqb-true (length marks) (first_marks d b d) (not-false (eqb (length marks) (first_marks d b d)) size.fails),
    )

-- ---- Marks that have been tested, by their place

-- Marks fit if a dimension can have w bits, and a buffer of this length holds them from an offset on.
abbrev pub fits_at : ℕ → ℕ → ℕ → Bool
fits_at size offset w = leb w max_dimension_bits && leb (offset + (2 ^ w + 1)) size

-- The part at a place is these marks, or empty where they do not fit.
abbrev pub marks_at : List ℤ → ℕ → ℕ → List ℤ
marks_at marks offset w = cond (fits_at (length marks) offset w) (take (2 ^ w + 1) (drop offset marks)) []

pub marks_at_lem : (marks : List ℤ) (offset w : ℕ) → w ≤ max_dimension_bits → offset + (2 ^ w + 1) ≤ length marks
    → marks_at marks offset w ≡ take (2 ^ w + 1) (drop offset marks)
marks_at_lem marks offset w few fits = rw (le-leb w max_dimension_bits few, le-leb (offset + (2 ^ w + 1)) (length marks) fits)

-- The part at a dimension's stretch is the dimension's marks.
pub stretch_marks : (d b j : ℕ) (marks : List ℤ) {s : Stretch} → first (dimension_causes d b j) ≡ Ok tt → length marks ≡ first_marks d b d
    → s ≡ stretch_of d b j
    → marks_at marks s.offset s.bits ≡ dimension_marks d b marks j
unfolding dimension_marks
stretch_marks d b j marks {s} accepted size is =
    let told = stretches accepted is in
    marks_at_lem marks s.offset s.bits told.few_bits (omega (arith, told.end, told.within, size))
    ∙ rw (told.bits_are, told.offset_is)

-- The part at a dimension's place is the dimension's marks.
pub placed_marks : (d b j : ℕ) (marks : List ℤ) {offset bits : ℕ} → 1 ≤ d → b ≤ max_dimension_bits * d → 1 ≤ j → j ≤ d
    → length marks ≡ first_marks d b d → offset ≡ first_marks d b (j - 1) → bits ≡ bits_of d b j
    → marks_at marks offset bits ≡ dimension_marks d b marks j
unfolding dimension_marks
placed_marks d b j marks {offset} {bits} some within above below size offset_is bits_are = go (j - 1) (omega arith) offset_is
  where
    go : (before : ℕ) → j ≡ suc before → offset ≡ first_marks d b before → marks_at marks offset bits ≡ dimension_marks d b marks j
    go before is at =
        let few : bits ≤ max_dimension_bits = rw (bits_are, is) (bits_le max_dimension_bits d b before some within) in
        let next : first_marks d b before + (2 ^ bits_of d b j + 1) ≡ first_marks d b j = rw is (first_next_marks d b before) in
        let inside : first_marks d b j ≤ first_marks d b d = rw is (marks_within d b d before (omega arith)) in
        let ends : offset + (2 ^ bits + 1) ≡ first_marks d b j = rw (at, bits_are) next in
        marks_at_lem marks offset bits few (omega (arith, ends, inside, size)) ∙ rw (bits_are, offset_is)
