-- Laws of records: what is written is read again, and what is read is written again. Assumes nothing.
use Rattle.std.specs.Prelude.{◌≡◌, refl, List, [], ◌∷◌, ◌++◌, ℕ, zero, suc, ◌^◌, ◌≤◌, ◌<◌, length, get_or, take, drop, replicate}
use Rattle.std.proofs.Common.{sym, ap, ◌∙◌, append_assoc, add-zero, arith, one-add, length-append, length-drop, drop_at, drop-drop, get_or-drop, take-add}
use Rattle.limits.specs.Limits.{max_dimensions}
use Rattle.records.specs.Bytes.{low_first, from_low_first, AreBytes}
use Rattle.records.specs.ByteLaws.{low_length, from_low, low_from, bytes_drop, from_below}
use Rattle.records.specs.Records.{head_kind, mark_kind, vector_kind, formats, widths_among, widths_of, sum, record_length, joined, split}
use Rattle.records.specs.Records.{record_bytes, kind_of, value_of}

pub joined_length : (ws values : List ℕ) → length (joined ws values) ≡ sum ws
unfolding joined sum
joined_length [] values = refl
joined_length (w ∷ ws) values =
    rw (length-append (low_first w (get_or values 0 0)) (joined ws (drop 1 values)), low_length, joined_length ws (drop 1 values))

pub record_length_lem : (kind : ℕ) (values : List ℕ) → length (record_bytes kind values) ≡ record_length kind
unfolding record_bytes record_length
record_length_lem kind values = ap suc (joined_length (widths_of kind) values)

pub kind_at : (bytes : List ℕ) (at : ℕ) → kind_of (drop at bytes) ≡ get_or bytes at 0
kind_at bytes at = get_or-drop at bytes 0 0 ∙ ap (λ (i : ℕ). get_or bytes i 0) (add-zero at)

-- value i stands behind the values before it
pub split_at : (ws bytes : List ℕ) (i : ℕ) → i < length ws
    → get_or (split ws bytes) i 0 ≡ from_low_first (get_or ws i 0) (drop (sum (take i ws)) bytes)
unfolding split sum
split_at [] bytes i within = absurd (omega arith)
split_at (w ∷ ws) bytes zero within = refl
split_at (w ∷ ws) bytes (suc i) within = split_at ws (drop w bytes) i (omega arith) ∙ rw (drop-drop (sum (take i ws)) w bytes)

pub value_at : (kind i : ℕ) (bytes : List ℕ) → i < length (widths_of kind)
    → value_of kind i bytes ≡ from_low_first (get_or (widths_of kind) i 0) (drop (suc (sum (take i (widths_of kind)))) bytes)
unfolding value_of
value_at kind i bytes within =
    split_at (widths_of kind) (drop 1 bytes) i within
    ∙ ap (from_low_first (get_or (widths_of kind) i 0))
    (drop-drop (sum (take i (widths_of kind))) 1 bytes ∙ rw (one-add (sum (take i (widths_of kind)))))

pub value_below : (kind i : ℕ) (bytes : List ℕ) → AreBytes bytes → i < length (widths_of kind)
    → value_of kind i bytes < 256 ^ get_or (widths_of kind) i 0
value_below kind i bytes are within =
    let place = suc (sum (take i (widths_of kind))) in
    rw (value_at kind i bytes within) (from_below (get_or (widths_of kind) i 0) (drop place bytes) (bytes_drop place bytes are))

-- ---- a record value by value

pub record_is : (kind : ℕ) (values : List ℕ) → record_bytes kind values ≡ kind ∷ joined (widths_of kind) values
unfolding record_bytes
record_is kind values = refl

pub joined_none : (values : List ℕ) → joined [] values ≡ []
unfolding joined
joined_none values = refl

pub joined_cons : (w : ℕ) (ws values : List ℕ) → joined (w ∷ ws) values ≡ low_first w (get_or values 0 0) ++ joined ws (drop 1 values)
unfolding joined
joined_cons w ws values = refl

-- ---- the widths of the library's kinds

pub head_widths : widths_of head_kind ≡ 1 ∷ 1 ∷ 2 ∷ []
unfolding widths_of widths_among formats
head_widths = refl

pub mark_widths : widths_of mark_kind ≡ 4 ∷ []
unfolding widths_of widths_among formats
mark_widths = refl

pub vector_widths : widths_of vector_kind ≡ 4 ∷ replicate max_dimensions 2
unfolding widths_of widths_among formats
vector_widths = refl

-- ---- there and back

-- each value has room in its width
abbrev pub Fitting : List ℕ → List ℕ → Type 0
Fitting ws values = (i : ℕ) → i < length ws → get_or values i 0 < 256 ^ get_or ws i 0

after : (values : List ℕ) (i : ℕ) → get_or (drop 1 values) i 0 ≡ get_or values (suc i) 0
after [] i = refl
after (v ∷ values) i = refl

pub split_joined : (ws values rest : List ℕ) → Fitting ws values → (i : ℕ) → i < length ws
    → get_or (split ws (joined ws values ++ rest)) i 0 ≡ get_or values i 0
unfolding joined split
split_joined [] values rest fit i within = absurd (omega arith)
split_joined (w ∷ ws) values rest fit zero within =
    rw (append_assoc (low_first w (get_or values 0 0)) (joined ws (drop 1 values)) rest) (from_low w (get_or values 0 0) _ (fit 0 (omega arith)))
split_joined (w ∷ ws) values rest fit (suc i) within =
    let fit' : Fitting ws (drop 1 values) = λ j h. rw (after values j) (fit (suc j) (omega arith)) in
    rw (
      append_assoc (low_first w (get_or values 0 0)) (joined ws (drop 1 values)) rest,
      drop_at (low_first w (get_or values 0 0)) (joined ws (drop 1 values) ++ rest) w (low_length w (get_or values 0 0)),
    )
    (split_joined ws (drop 1 values) rest fit' i (omega arith) ∙ after values i)

pub value_written : (kind : ℕ) (values rest : List ℕ) → Fitting (widths_of kind) values → (i : ℕ) → i < length (widths_of kind)
    → value_of kind i (record_bytes kind values ++ rest) ≡ get_or values i 0
unfolding record_bytes value_of
value_written kind values rest fit i within = split_joined (widths_of kind) values rest fit i within

-- ---- and back again

pub joined_split : (ws bytes : List ℕ) → AreBytes bytes → sum ws ≤ length bytes → joined ws (split ws bytes) ≡ take (sum ws) bytes
unfolding joined split sum
joined_split [] bytes are room = refl
joined_split (w ∷ ws) bytes are room =
    let left : sum ws ≤ length (drop w bytes) = rw (length-drop w bytes) (omega arith) in
    rw (low_from w bytes are (omega arith), joined_split ws (drop w bytes) (bytes_drop w bytes are) left) (sym (take-add w (sum ws) bytes))

-- only the values that have a width are looked at
pub joined_same : (ws values others : List ℕ) → ((i : ℕ) → i < length ws → get_or values i 0 ≡ get_or others i 0)
    → joined ws values ≡ joined ws others
unfolding joined
joined_same [] values others same = refl
joined_same (w ∷ ws) values others same =
    rw (
      same 0 (omega arith),
      joined_same ws (drop 1 values) (drop 1 others) (λ i h. after values i ∙ same (suc i) (omega arith) ∙ sym (after others i)),
    )

pub written_read : (kind : ℕ) (values bytes : List ℕ) → AreBytes bytes → kind_of bytes ≡ kind → record_length kind ≤ length bytes
    → ((i : ℕ) → i < length (widths_of kind) → get_or values i 0 ≡ value_of kind i bytes)
    → record_bytes kind values ≡ take (record_length kind) bytes
unfolding record_bytes record_length value_of
written_read kind values [] are is room same = absurd (omega arith)
written_read kind values (x ∷ bytes) are is room same =
    rw (
      is,
      joined_same (widths_of kind) values (split (widths_of kind) bytes) same,
      joined_split (widths_of kind) bytes (λ i. are (suc i)) (omega arith),
    )
