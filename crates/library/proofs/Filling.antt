-- A list that is filled from the front with elements by their numbers: those so far stand in front of what is kept. Assumes nothing.
use mathlib.Core.Path.{◌≡◌, refl, sym, ap, ◌∙◌}
use mathlib.Core.List.{List, [], ◌∷◌, ◌++◌, append_assoc}
use Prim.Native.Nat.{ℕ, ◌+◌, ◌≤◌, ◌<◌}
use native.Mathlib.Numerals.{add-one}
use native.Mathlib.Omega.{arith}
use lib.IntN.{ℤ}
use lib.ListN.{length, take, drop, set, length-set}
use lib.Seq.{take_at, drop_at, drop-drop, take-suc-set}
use Rattle.library.specs.Each.{each, tabulate}
use Rattle.library.specs.EachLaws.{each_same, each_add, tabulate_length, tabulate_fills}
use Rattle.library.specs.Sizes.{EndsAt}
use Rattle.library.specs.Ends.{first_mark, last_mark}

pub record Filling {A : Type 0} (n : ℕ) (f : ℕ → A) (old new : List A) (i : ℕ) : Type 0 where
  pub few : i ≤ n
  pub room : length new ≡ length old
  pub so_far : new ≡ tabulate i f ++ drop i old

module _ {A : Type 0} (n : ℕ) (f : ℕ → A) (old : List A) where
  pub filling_start : Filling n f old old 0
  unfolding each
  filling_start = record { few = omega arith; room = refl; so_far = refl }

  pub filling_next : {new : List A} {x : A} (i : ℕ) → n ≤ length old → i < n → x ≡ f i → Filling n f old new i
      → Filling n f old (set new i x) (i + 1)
  filling_next i enough more is at =
      record { few = omega arith; room = simp length-set at.room; so_far = rw (is, at.so_far) (tabulate_fills i f old (omega arith)) }

  pub filling_end : {new : List A} (i : ℕ) → n ≤ i → Filling n f old new i → new ≡ tabulate n f ++ drop n old
  filling_end i all at =
      let same : i ≡ n = omega (arith, at.few) in
      rw same at at.so_far

  -- d more elements at once
  pub filling_more : {new after : List A} (k d : ℕ) (g : ℕ → A) → k + d ≤ n → length after ≡ length new
      → after ≡ take k new ++ (tabulate d g ++ drop (k + d) new)
      → ((t : ℕ) → t < d → g t ≡ f (k + t)) → Filling n f old new k → Filling n f old after (k + d)
  filling_more {new} {after} k d g within kept is same at =
      let front : take k new ≡ tabulate k f = rw at.so_far (take_at (tabulate k f) (drop k old) k (tabulate_length k f)) in
      let behind : drop k new ≡ drop k old = rw at.so_far (drop_at (tabulate k f) (drop k old) k (tabulate_length k f)) in
      let rest : drop (k + d) new ≡ drop (k + d) old = sym (drop-drop d k new) ∙ rw behind (drop-drop d k old) in
      let part : tabulate d g ≡ tabulate d (λ t. f (k + t)) =
      each_same d (λ t. g t ∷ []) (λ t. f (k + t) ∷ []) (λ t h. ap (λ (x : A). x ∷ []) (same t h)) in
      record {
        few = within;
        room = kept ∙ at.room;
        so_far = is ∙ rw (front, rest, part, each_add k d (λ i. f i ∷ []))
            (sym (append_assoc (tabulate k f) (tabulate d (λ t. f (k + t))) (drop (k + d) old)));
      }

-- One more element, where a list's first elements are read in turn.
pub read_next : {A : Type 0} {x : A} (f : ℕ → A) (l : List A) (i : ℕ) → i < length l → x ≡ f i → take i l ≡ tabulate i f
    → take (i + 1) (set l i x) ≡ tabulate (i + 1) f
unfolding each
read_next {x = x} f l i more is so_far = rw (add-one, take-suc-set l i x more, so_far, is)

-- The ends of the marks, filled into two lists, a dimension a turn.
pub record Ending (d b : ℕ) (mark : ℕ → ℤ) (lows₀ highs₀ lows highs : List ℤ) (t : ℕ) : Type 0 where
  pub low : Filling d (first_mark d b mark) lows₀ lows t
  pub high : Filling d (last_mark d b mark) highs₀ highs t

module _ (d b : ℕ) (mark : ℕ → ℤ) (lows₀ highs₀ : List ℤ) where
  pub ending_start : Ending d b mark lows₀ highs₀ lows₀ highs₀ 0
  ending_start = record { low = filling_start d (first_mark d b mark) lows₀; high = filling_start d (last_mark d b mark) highs₀ }

  pub ending_next : {lows highs : List ℤ} {x y : ℤ} {first last : ℕ} (t : ℕ) → d ≤ length lows₀ → d ≤ length highs₀ → t < d
      → EndsAt d b t first last → x ≡ mark first → y ≡ mark last
      → Ending d b mark lows₀ highs₀ lows highs t → Ending d b mark lows₀ highs₀ (set lows t x) (set highs t y) (t + 1)
  ending_next t enough enough' more ends x-is y-is at = record {
    low = filling_next d (first_mark d b mark) lows₀ t enough more (x-is ∙ ap mark ends.first_is) at.low;
    high = filling_next d (last_mark d b mark) highs₀ t enough' more (y-is ∙ ap mark ends.last_is) at.high;
  }

  pub ending_end : {lows highs : List ℤ} (t : ℕ) → d ≤ t → Ending d b mark lows₀ highs₀ lows highs t
      → (lows ≡ tabulate d (first_mark d b mark) ++ drop d lows₀) × (highs ≡ tabulate d (last_mark d b mark) ++ drop d highs₀)
  ending_end t all at =
      (filling_end d (first_mark d b mark) lows₀ t all at.low, filling_end d (last_mark d b mark) highs₀ t all at.high)
