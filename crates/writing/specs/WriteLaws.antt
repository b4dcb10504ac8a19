-- Records value by value, as they are written. Assumes nothing.
use Rattle.std.specs.Prelude.{◌≡◌, refl, List, [], ◌∷◌, ◌++◌, ℕ, zero, suc, ◌+◌, ◌-◌, ◌*◌, ◌/◌, ◌≤◌, ◌<◌, ℤ, length, get_or, drop, replicate}
use Rattle.std.proofs.Common.{sym, ◌∙◌, append_assoc, add-zero, arith, get_or-drop, drop-drop}
use Rattle.limits.specs.Limits.{max_dimensions}
use Rattle.records.specs.Bytes.{low_first}
use Rattle.records.specs.Records.{head_kind, mark_kind, vector_kind, end_kind, widths_of, formats, widths_among, record_bytes, joined}
use Rattle.records.specs.RecordLaws.{record_is, joined_none, joined_cons, vector_widths}
use Rattle.library.specs.Library.{head_bytes, mark_bytes, vector_values, vector_bytes, end_bytes}
use Rattle.writing.specs.SignedBytes.{Bits, low_mark}

-- two parts that were written one behind the other
pub both_parts : {one two : List ℕ} (front part more : List ℕ) → one ≡ front ++ part → two ≡ one ++ more → two ≡ front ++ (part ++ more)
both_parts front part more first second = second ∙ rw first (append_assoc front part more)

pub four_parts : {one two three four : List ℕ} (front a b c e : List ℕ) → one ≡ front ++ a → two ≡ one ++ b → three ≡ two ++ c
    → four ≡ three ++ e → four ≡ front ++ (a ++ b ++ (c ++ e))
four_parts front a b c e first second third fourth = fourth ∙ rw (third, second, first) (simp append_assoc)

-- four bytes are two and two
pub four_bytes_lem : (x : ℕ) → low_first 2 x ++ low_first 2 (x / 65536) ≡ low_first 4 x
unfolding low_first
four_bytes_lem x =
    let half : x / 65536 ≡ x / 256 / 256 = omega arith in
    rw half

pub head_parts : (d b n : ℕ) → low_first 1 head_kind ++ low_first 1 d ++ low_first 1 b ++ low_first 2 n ≡ head_bytes d b n
unfolding low_first record_bytes joined widths_of widths_among formats
head_parts d b n = refl

pub mark_parts : {x : ℕ} {z : ℤ} → Bits x z → low_first 1 mark_kind ++ low_first 4 x ≡ mark_bytes z
unfolding low_first record_bytes joined widths_of widths_among formats
mark_parts {x} {z} bits = rw (low_mark x z bits)

pub vector_parts : (d settings : ℕ) (component : ℕ → ℤ)
    → low_first 1 vector_kind ++ low_first 4 settings ++ joined (replicate max_dimensions 2) (drop 1 (vector_values d settings component))
    ≡ vector_bytes d settings component
unfolding low_first
vector_parts d settings component =
    rw (
      record_is vector_kind (vector_values d settings component),
      vector_widths,
      joined_cons 4 (replicate max_dimensions 2) (vector_values d settings component),
    )

pub end_part : low_first 1 end_kind ≡ end_bytes
unfolding low_first record_bytes joined widths_of widths_among formats
end_part = refl

-- the components from number t on
pub components_next : (n t : ℕ) (values : List ℕ) → t < n
    → joined (replicate (n - t) 2) (drop t values)
    ≡ low_first 2 (get_or values t 0) ++ joined (replicate (n - (t + 1)) 2) (drop (t + 1) values)
components_next n t values more =
    let one_left : n - t ≡ suc (n - (t + 1)) = omega arith in
    rw (one_left, joined_cons 2 (replicate (n - (t + 1)) 2) (drop t values), get_or-drop t values 0 0, add-zero t, drop-drop 1 t values)

pub components_none : (n t : ℕ) (values : List ℕ) → n ≤ t → joined (replicate (n - t) 2) values ≡ []
components_none n t values past =
    let none : n - t ≡ 0 = omega arith in
    rw none (joined_none values)

-- components that are not there are zeros
joined_zeros : (n : ℕ) → joined (replicate n 2) [] ≡ replicate (2 * n) 0
unfolding joined low_first
joined_zeros zero = refl
joined_zeros (suc n) =
    let two-more : 2 * suc n ≡ suc (suc (2 * n)) = omega arith in
    rw (two-more, joined_zeros n)

pub joined_beyond : (n : ℕ) (values : List ℕ) → length values ≤ n
    → joined (replicate n 2) values ≡ joined (replicate (length values) 2) values ++ replicate (2 * (n - length values)) 0
unfolding joined
joined_beyond n [] few =
    let all : n - 0 ≡ n = omega arith in
    rw all (joined_zeros n)
joined_beyond zero (v ∷ values) few = absurd (omega arith)
joined_beyond (suc n) (v ∷ values) few =
    let less : suc n - suc (length values) ≡ n - length values = omega arith in
    rw (joined_beyond n values (omega arith), less)
    (sym (append_assoc (low_first 2 v) (joined (replicate (length values) 2) values) (replicate (2 * (n - length values)) 0)))
