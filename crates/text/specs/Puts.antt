-- Text put into a buffer from an index on, and lines put together. A store past the end of a list changes nothing (`sets`): what does not
-- fit is not put. Assumes nothing.
use Rattle.std.specs.Prelude.{◌≡◌, refl, List, [], ◌∷◌, ◌++◌, ℕ, zero, suc, ◌+◌, ◌-◌, ◌^◌, ◌≤◌, ◌<◌, length, take, drop, set}
use Rattle.std.proofs.Common.{sym, ap, subst, ◌∙◌, append_assoc, append-nil, add-zero, lt_of_lt_of_le, arith, lit≤, length-append, length-drop, drop_of_length-le, take_all}
use Rattle.std.proofs.lemmas.List.Edits.{sets}
use Rattle.std.proofs.Math.Seq.{set_out, length-sets}
use borrow.Author.Rules.{part_to_end}
use borrow.Rule.Slice.PartMut.{mid_of, put_mid}
use Rattle.text.specs.Text.{at_front, space, line_end, decimal, line}
use Rattle.text.specs.TextLaws.{decimal_length}

-- the text stands in the buffer from an index on, as far as it fits, all else is as it was, and r is the index behind the whole text
pub record Puts (text : List ℕ) (at : ℕ) (before after : List ℕ) (r : ℕ) : Type 0 where
  pub is : after ≡ sets before at text
  pub end : r ≡ at + length text

pub puts_length : {text : List ℕ} {at : ℕ} {before after : List ℕ} {r : ℕ} → Puts text at before after r → length after ≡ length before
puts_length {text} {at} {before} puts = ap length puts.is ∙ length-sets before at text

pub puts_none : (at : ℕ) (before : List ℕ) → Puts [] at before before at
puts_none at before = record { is = refl; end = omega arith }

sets_append : (l : List ℕ) (at : ℕ) (text more : List ℕ) → sets (sets l at text) (at + length text) more ≡ sets l at (text ++ more)
sets_append l at [] more = rw (add-zero at)
sets_append l at (x ∷ text) more =
    let behind : at + suc (length text) ≡ suc at + length text = omega arith in
    rw behind (sets_append (set l at x) (suc at) text more)

-- one text behind another
pub puts_more : {text : List ℕ} {at : ℕ} {before after : List ℕ} {r : ℕ} {more : List ℕ} {then : List ℕ} {r' : ℕ}
    → Puts text at before after r → Puts more r after then r' → Puts (text ++ more) at before then r'
puts_more {text} {at} {before} {more = more} puts next = record {
  is = next.is ∙ rw (puts.is, puts.end) (sets_append before at text more);
  end = omega (arith, next.end, puts.end, length-append text more);
}

pub puts_then : {text : List ℕ} {at : ℕ} {before after : List ℕ} {r : ℕ} {more : List ℕ} {n : ℕ} {then : List ℕ} {r' : ℕ}
    → Puts text at before after r → Puts more n after then r' → n ≡ at + length text → Puts (text ++ more) at before then r'
puts_then {after = after} {more = more} {then = then} {r' = r'} puts next behind =
    puts_more puts (subst (λ (m : ℕ). Puts more m after then r') (behind ∙ sym puts.end) next)

-- a byte past the end
pub puts_out : (x at : ℕ) (before : List ℕ) → length before ≤ at → Puts (x ∷ []) at before before (at + 1)
puts_out x at before past = record { is = sym (set_out before at x past); end = refl }

pub puts_same : {text other : List ℕ} {at : ℕ} {before after : List ℕ} {r : ℕ}
    → text ≡ other → Puts text at before after r → Puts other at before after r
puts_same same puts = rw (← same) puts

-- ---- at the front of a buffer

sets_behind : (t : List ℕ) (x : ℕ) (buffer : List ℕ) (at : ℕ) → sets (x ∷ buffer) (suc at) t ≡ x ∷ sets buffer at t
sets_behind [] x buffer at = refl
sets_behind (y ∷ t) x buffer at = sets_behind t x (set buffer at y) (suc at)

sets_nothing : (t : List ℕ) (at : ℕ) → sets [] at t ≡ []
sets_nothing [] at = refl
sets_nothing (x ∷ t) at = sets_nothing t (suc at)

sets_front : (t buffer : List ℕ) → sets buffer 0 t ≡ at_front t buffer
sets_front [] [] = refl
sets_front [] (y ∷ buffer) = refl
sets_front (x ∷ t) [] = sets_nothing t 1
sets_front (x ∷ t) (y ∷ buffer) = sets_behind t x buffer 0 ∙ ap (λ (rest : List ℕ). x ∷ rest) (sets_front t buffer)

pub puts_front : {text before after : List ℕ} {r : ℕ} → Puts text 0 before after r → (r ≡ length text) × (after ≡ at_front text before)
puts_front {text} {before} puts = (omega (arith, puts.end), puts.is ∙ sets_front text before)

pub front_puts : {text before after : List ℕ} {r : ℕ} → r ≡ length text → after ≡ at_front text before → Puts text 0 before after r
front_puts {text} {before} long is = record { is = is ∙ sym (sets_front text before); end = omega (arith, long) }

-- where there is room for it
pub front_fits : (text buffer : List ℕ) → length text ≤ length buffer → at_front text buffer ≡ text ++ drop (length text) buffer
front_fits text buffer room = ap (λ (front : List ℕ). front ++ drop (length text) buffer) (take_all (length buffer) text room)

-- ---- at the front of a part of a buffer, from an index on

sets_part : (t : List ℕ) (at : ℕ) (buffer : List ℕ) → at ≤ length buffer → take at buffer ++ sets (drop at buffer) 0 t ≡ sets buffer at t
sets_part t zero buffer within = refl
sets_part t (suc at) [] within = absurd (omega arith)
sets_part t (suc at) (x ∷ buffer) within =
    ap (λ (rest : List ℕ). x ∷ rest) (sets_part t at buffer (omega arith)) ∙ sym (sets_behind t x buffer at)

pub part_puts : {text : List ℕ} {at : ℕ} (buffer : List ℕ) {last : List ℕ} {r : ℕ} → at ≤ length buffer → r ≡ length text
    → last ≡ at_front text (mid_of at (length buffer - at) buffer) → Puts text at buffer (put_mid at (length buffer - at) buffer last) (at + r)
part_puts {text} {at} buffer {last} within long is =
    let past : length (drop at buffer) ≤ length buffer - at = omega (arith, length-drop at buffer) in
    let nothing : drop (length buffer - at) (drop at buffer) ≡ [] = drop_of_length-le (drop at buffer) past in
    let last_is = append-nil last ∙ is ∙ ap (at_front text) (part_to_end buffer at) ∙ sym (sets_front text (drop at buffer)) in
    record {
      is =
          ap (λ (rest : List ℕ). take at buffer ++ (last ++ rest)) nothing
          ∙ ap (λ (part : List ℕ). take at buffer ++ part) last_is
          ∙ sets_part text at buffer within;
      end = omega (arith, long);
    }

-- ---- lines

-- a number and the byte that ends it
abbrev pub field : ℕ → ℕ → List ℕ
field x end = decimal x ++ (end ∷ [])

spaced : (x y : ℕ) (ys : List ℕ) → field x space ++ line y ys ≡ line x (y ∷ ys)
unfolding line
spaced x y ys = append_assoc (decimal x) (space ∷ []) (line y ys)

pub line_of_one : (x : ℕ) → field x line_end ≡ line x []
unfolding line
line_of_one x = refl

pub line_of_two : (x y : ℕ) → field x space ++ field y line_end ≡ line x (y ∷ [])
unfolding line
line_of_two x y = spaced x y []

pub line_of_three : (x y z : ℕ) → field x space ++ field y space ++ field z line_end ≡ line x (y ∷ z ∷ [])
line_of_three x y z = append_assoc (field x space) (field y space) (field z line_end) ∙ rw (line_of_two y z) (spaced x y (z ∷ []))

-- the last index, which is the last number of 64 bits too
abbrev pub last_index : ℕ
last_index = 18446744073709551615

-- the most bytes of a number of 64 bits and the byte that ends it
abbrev pub field_room : ℕ
field_room = 21

pub decimal_room : (x : ℕ) → x < 2 ^ 64 → length (decimal x) + 1 ≤ field_room
decimal_room x small = omega (arith, decimal_length 19 x (lt_of_lt_of_le small (lit≤ tt)))
