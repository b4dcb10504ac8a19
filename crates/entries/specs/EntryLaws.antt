-- Laws of entries in an array: it is filled one by one, and holds what fits. Assumes nothing.
use Rattle.std.specs.Prelude.{◌≡◌, refl, List, [], ◌∷◌, ◌++◌, ℕ, zero, suc, ◌+◌, ◌≤◌, ◌<◌, min, length, get_or, take, drop, set, replicate}
use Rattle.std.proofs.Common.{sym, ap, ◌∙◌, add-zero, zero-add, add-one, arith, take-append-drop, take_all, take-suc, take_at, length-take-le}
use Rattle.std.proofs.Math.Decide.{dec_le}
use Rattle.std.proofs.lemmas.List.{length-replicate}
use Rattle.std.proofs.lemmas.List.Edits.{sets, sets-eq}
use Rattle.std.proofs.Math.Seq.{set_out, length-sets}
use Rattle.limits.specs.Limits.{max_neighbours}
use Rattle.order.specs.Pair.{Pair}
use Rattle.order.specs.Pairs.{pairs_of, pairs_length, pairs_at}
use Rattle.entries.specs.declared.Entry.{Entry}
use Rattle.entries.specs.Entries.{entry_of, entries_of, blank, in_array}

-- ---- entries of pairs

pub entries_length : (ps : List Pair) → length (entries_of ps) ≡ length ps
unfolding entries_of
entries_length [] = refl
entries_length (p ∷ ps) = ap suc (entries_length ps)

entries_at : (ps : List Pair) (none : Pair) (i : ℕ) → i < length ps → get_or (entries_of ps) i blank ≡ entry_of (get_or ps i none)
unfolding entries_of
entries_at [] none i below = absurd (omega arith)
entries_at (p ∷ ps) none zero below = refl
entries_at (p ∷ ps) none (suc i) below = entries_at ps none i (omega arith)

-- entry i of keys and numbers
pub entry_at : (keys numbers : List ℕ) (i : ℕ) → i < min (length keys) (length numbers)
    → get_or (entries_of (pairs_of keys numbers)) i blank ≡ record { number = get_or numbers i 0; distance = get_or keys i 0 }
entry_at keys numbers i below =
    let none : Pair = record { key = 0; number = 0 } in
    let within : i < length (pairs_of keys numbers) = omega (arith, pairs_length keys numbers) in
    entries_at (pairs_of keys numbers) none i within ∙ ap entry_of (pairs_at keys numbers i none within)

-- ---- entries stored one by one

sets_append : (l : List Entry) (at : ℕ) (es more : List Entry) → sets (sets l at es) (at + length es) more ≡ sets l at (es ++ more)
sets_append l at [] more = rw (add-zero at)
sets_append l at (e ∷ es) more =
    let behind : at + suc (length es) ≡ suc at + length es = omega arith in
    rw behind (sets_append (set l at e) (suc at) es more)

sets_out : (l : List Entry) (at : ℕ) (es : List Entry) → length l ≤ at → sets l at es ≡ l
sets_out l at [] past = refl
sets_out l at (e ∷ es) past = rw (set_out l at e past) (sets_out l (suc at) es (omega arith))

pub sets_next : (l es : List Entry) (at i : ℕ) → i < length es
    → sets l at (take (suc i) es) ≡ set (sets l at (take i es)) (at + i) (get_or es i blank)
sets_next l es at i below =
    rw (take-suc es i blank below)
    (sym (sets_append l at (take i es) (get_or es i blank ∷ [])) ∙ rw (length-take-le i es (omega arith)) refl)

-- what does not fit is left out
sets_fit : (l es : List Entry) → sets l 0 (take (length l) es) ≡ sets l 0 es
sets_fit l es = go (dec_le (length es) (length l))
  where
    go : Dec (length es ≤ length l) → sets l 0 (take (length l) es) ≡ sets l 0 es
    go (yes fits) = rw (take_all (length l) es fits)
    go (no more) =
        let size = length-take-le (length l) es (omega arith) in
        let past : length (sets l 0 (take (length l) es)) ≤ 0 + length (take (length l) es) = omega
        (arith, length-sets l 0 (take (length l) es)) in
        sym (sets_out (sets l 0 (take (length l) es)) (0 + length (take (length l) es)) (drop (length l) es) past)
        ∙ sets_append l 0 (take (length l) es) (drop (length l) es)
        ∙ ap (λ (all : List Entry). sets l 0 all) (take-append-drop (length l) es)

sets_front : (l es : List Entry) → length es ≤ length l → take (length es) (sets l 0 es) ≡ es
sets_front l es fits = ap (take (length es)) (sets-eq es l 0 (omega arith)) ∙ take_at es (drop (0 + length es) l) (length es) refl

-- ---- in the array

pub array_none : in_array [] ≡ replicate max_neighbours blank
unfolding in_array
array_none = refl

pub array_next : (es : List Entry) (i : ℕ) → i < length es → set (in_array (take i es)) i (get_or es i blank) ≡ in_array (take (i + 1) es)
unfolding in_array
array_next es i below =
    let next = sets_next (replicate max_neighbours blank) es 0 i below in
    rw add-one (sym (rw (zero-add i) at next))

pub array_all : (es : List Entry) (i : ℕ) → i ≡ min (length es) max_neighbours → in_array (take i es) ≡ in_array es
unfolding in_array
array_all es i all = go (dec_le (length es) max_neighbours)
  where
    go : Dec (length es ≤ max_neighbours) → sets (replicate max_neighbours blank) 0 (take i es) ≡ sets (replicate max_neighbours blank) 0 es
    go (yes fits) = rw (take_all i es (omega arith))
    go (no more) =
        let same : i ≡ length (replicate max_neighbours blank) = omega (arith, length-replicate max_neighbours blank) in
        rw same (sets_fit (replicate max_neighbours blank) es)

pub array_length : (es : List Entry) → length (in_array es) ≡ max_neighbours
unfolding in_array
array_length es = length-sets (replicate max_neighbours blank) 0 es ∙ length-replicate max_neighbours blank

pub array_front : (es : List Entry) (k : ℕ) → length es ≡ k → k ≤ max_neighbours → take k (in_array es) ≡ es
unfolding in_array
array_front es k size few =
    rw (← size) (sets_front (replicate max_neighbours blank) es (omega (arith, size, few, length-replicate max_neighbours blank)))
