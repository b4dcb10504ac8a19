-- Lent entries that are written over from an array, from a place on: all that are meant where they fit, and none where they do not. Assumes
-- nothing.
use Rattle.std.specs.Prelude.{◌≡◌, refl, Bool, true, false, ◌&&◌, cond, List, ◌++◌, ℕ, zero, suc, ◌+◌, ◌≤◌, ◌<◌, leb, length, get_or, set, take, drop}
use Rattle.std.proofs.Common.{sym, ap, ◌∙◌, append_assoc, add-one, arith, leb-true, le-leb, length-set, length-append, length-take-le, take_at, drop_at}
use Rattle.std.proofs.lemmas.Bool.{lt-leb}
use Rattle.std.proofs.lemmas.List.{drop-drop}
use Rattle.std.proofs.lemmas.List.Edits.{sets, sets-eq}
use Rattle.limits.specs.Limits.{max_neighbours}
use Rattle.entries.specs.declared.Entry.{Entry}
use Rattle.entries.specs.Entries.{blank, in_array}
use Rattle.entries.specs.EntryLaws.{sets_next, array_length, array_front}

-- the entries with i written over from an array, from `start` on
unfoldable pub filled : List Entry → List Entry → ℕ → ℕ → List Entry
filled array entries start zero = entries
filled array entries start (suc i) = set (filled array entries start i) (start + i) (get_or array i blank)

-- how many of `count` are written where there is room for so many entries: all where the array has them and they fit, else none
abbrev pub fitting : ℕ → ℕ → ℕ → ℕ
fitting room start count = cond (leb count max_neighbours && leb (start + count) room) count 0

-- ---- one after the other

pub filled_none : (array entries : List Entry) (start : ℕ) → filled array entries start 0 ≡ entries
unfolding filled
filled_none array entries start = refl

pub filled_next : (array entries : List Entry) (start i : ℕ)
    → filled array entries start (i + 1) ≡ set (filled array entries start i) (start + i) (get_or array i blank)
unfolding filled
filled_next array entries start i = rw add-one refl

pub filled_length : (array entries : List Entry) (start i : ℕ) → length (filled array entries start i) ≡ length entries
unfolding filled
filled_length array entries start zero = refl
filled_length array entries start (suc i) =
    length-set (filled array entries start i) (start + i) (get_or array i blank) ∙ filled_length array entries start i

-- ---- how many fit

pub fitting_fits : (room start count : ℕ) → count ≤ max_neighbours → start + count ≤ room → fitting room start count ≡ count
fitting_fits room start count few fits = rw (le-leb count max_neighbours few, le-leb (start + count) room fits) refl

pub fitting_many : (room start count : ℕ) → max_neighbours < count → fitting room start count ≡ 0
fitting_many room start count many = rw (lt-leb count max_neighbours many) refl

pub fitting_past : (room start count : ℕ) → room < start + count → fitting room start count ≡ 0
fitting_past room start count past = rw (lt-leb (start + count) room past) (go (leb count max_neighbours))
  where
    go : (few : Bool) → cond (few && false) count 0 ≡ 0
    go true = refl
    go false = refl

pub fitting_none : (room start : ℕ) → fitting room start 0 ≡ 0
fitting_none room start = go (leb 0 max_neighbours && leb (start + 0) room)
  where
    go : (fits : Bool) → cond {A = ℕ} fits 0 0 ≡ 0
    go true = refl
    go false = refl

-- what is written has a place, in the array too
pub record Placed (room start i : ℕ) : Type 0 where
  pub held : i < max_neighbours
  pub within : start + i < room

pub fitting_placed : (room start count i : ℕ) → i < fitting room start count → Placed room start i
fitting_placed room start count i below = go (leb count max_neighbours) (leb (start + count) room) refl refl below
  where
    go : (few fits : Bool) → leb count max_neighbours ≡ few → leb (start + count) room ≡ fits → i < cond (few && fits) count 0
        → Placed room start i
    go true true few fits low = record {
      held = omega (arith, leb-true count max_neighbours few);
      within = omega (arith, leb-true (start + count) room fits);
    }
    go true false few fits low = absurd (omega arith)
    go false fits' few fits low = absurd (omega arith)

-- ---- all of them

-- one after the other they are a run of stores
filled_sets : (array entries : List Entry) (start i : ℕ) → i ≤ length array
    → filled array entries start i ≡ sets entries start (take i array)
unfolding filled
filled_sets array entries start zero within = refl
filled_sets array entries start (suc i) within =
    ap (λ (l : List Entry). set l (start + i) (get_or array i blank)) (filled_sets array entries start i (omega arith))
    ∙ sym (sets_next entries array start i within)

-- so they are a part that is replaced
pub filled_part : (array entries : List Entry) (start count : ℕ) → count ≤ length array → start + count ≤ length entries
    → filled array entries start count ≡ take start entries ++ (take count array ++ drop count (drop start entries))
filled_part array entries start count held within =
    let size = length-take-le count array held in
    rw (
      filled_sets array entries start count held,
      sets-eq (take count array) entries start (omega (arith, size)),
      size,
      append_assoc,
      drop-drop,
    )
    refl

-- from the array that holds them, over a part that is as long
pub filled_within : (es front part rest : List Entry) → length part ≡ length es → length es ≤ max_neighbours
    → filled (in_array es) (front ++ (part ++ rest)) (length front) (length es) ≡ front ++ (es ++ rest)
filled_within es front part rest same few =
    filled_sets (in_array es) all (length front) (length es) (omega (arith, array_length es))
    ∙ ap (λ (l : List Entry). sets all (length front) l) (array_front es (length es) refl few)
    ∙ sets-eq es all (length front) (omega (arith, length-append front (part ++ rest), length-append part rest))
    ∙ append_assoc (take (length front) all) es (drop (length front + length es) all)
    ∙ rw (take_at front (part ++ rest) (length front) refl, behind) refl
  where
    all : List Entry
    all = front ++ (part ++ rest)

    behind : drop (length front + length es) all ≡ rest
    behind = rw (← append_assoc front part rest)
        (drop_at (front ++ part) rest (length front + length es) (length-append front part ∙ ap (λ (n : ℕ). length front + n) same))
