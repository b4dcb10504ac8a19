-- The kinds of records and their numbers: each kind's number is one of the table's, and each of the table's is a kind's. Assumes nothing.
use Rattle.std.specs.Prelude.{◌≡◌, refl, Bool, true, false, cond, ◌||◌, List, [], ◌∷◌, ℕ, eqb, Option, None, Some, is_some, MatchOption}
use Rattle.std.proofs.Common.{sym, ap, ◌∙◌}
use Rattle.records.specs.declared.Kind.{Kind}
use Rattle.records.specs.declared.Kind.TheVariants.{Head, Mark, Vector, End, Fresh, Held, Lost}
use Rattle.records.specs.Records.{head_kind, mark_kind, vector_kind, end_kind, fresh_kind, held_kind, lost_kind, Format, ◌holds◌, formats, is_among, is_kind}
use Rattle.records.specs.Records.{widths_among, widths_of, sum, record_length}

abbrev pub number_of : Kind → ℕ
number_of Head = head_kind
number_of Mark = mark_kind
number_of Vector = vector_kind
number_of End = end_kind
number_of Fresh = fresh_kind
number_of Held = held_kind
number_of Lost = lost_kind

pub number_known : (kind : Kind) → is_kind (number_of kind) ≡ true
unfolding is_kind is_among formats
number_known Head = refl
number_known Mark = refl
number_known Vector = refl
number_known End = refl
number_known Fresh = refl
number_known Held = refl
number_known Lost = refl

-- each number is that of one kind alone
abbrev numbered : ℕ → Kind
numbered number =
    cond (eqb number head_kind) Head
    (cond (eqb number mark_kind) Mark
    (cond (eqb number vector_kind) Vector
    (cond (eqb number end_kind) End (cond (eqb number fresh_kind) Fresh (cond (eqb number held_kind) Held Lost)))))

numbered_back : (kind : Kind) → numbered (number_of kind) ≡ kind
numbered_back Head = refl
numbered_back Mark = refl
numbered_back Vector = refl
numbered_back End = refl
numbered_back Fresh = refl
numbered_back Held = refl
numbered_back Lost = refl

pub number_only : (kind other : Kind) → number_of kind ≡ number_of other → kind ≡ other
number_only kind other same = sym (numbered_back kind) ∙ ap numbered same ∙ numbered_back other

-- what is told of the kind of a number: there is one exactly if the number is a kind's
abbrev pub IsKindOf : ℕ → Option Kind → Type 0
IsKindOf number answer = MatchOption answer (is_kind number ≡ false) (λ kind. number ≡ number_of kind)

pub some_known : (answer : Option Kind) (number : ℕ) → IsKindOf number answer → is_some answer ≡ is_kind number
some_known None number is = sym is
some_known (Some kind) number is = rw is (sym (number_known kind))

-- what is no kind's number has no widths
no_widths : (rows : List Format) (number : ℕ) → is_among rows number ≡ false → widths_among rows number ≡ []
unfolding is_among widths_among
no_widths [] number none = refl
no_widths (k holds ws ∷ rows) number none = go (eqb number k) none (no_widths rows number)
  where
    go : (same : Bool) → same || is_among rows number ≡ false → (is_among rows number ≡ false → widths_among rows number ≡ [])
        → cond same ws (widths_among rows number) ≡ []
    go true e rest = cc
    go false e rest = rest e

pub unknown_length : (number : ℕ) → is_kind number ≡ false → record_length number ≡ 1
unfolding is_kind record_length widths_of sum
unknown_length number none = rw (no_widths formats number none)
