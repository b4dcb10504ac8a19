-- Laws of a column, and of its components in non-falling order. Assumes nothing.
use Rattle.std.specs.Prelude.{◌≡◌, refl, true, List, [], ◌∷◌, map, ℕ, zero, suc, ◌+◌, ◌*◌, ◌≤◌, ◌<◌, ℤ, pos, length}
use Rattle.std.proofs.Common.{sym, ap, ◌∙◌, zero-add, arith}
use Rattle.std.proofs.lemmas.List.{length-map}
use Rattle.std.proofs.Math.ListN.{get_or}
use Rattle.limits.specs.Limits.{is_component}
use Rattle.signed.specs.Keys.{key_of}
use Rattle.signed.specs.Components.{are_components, component_at_lem}
use Rattle.order.specs.Pair.{count_from}
use Rattle.order.specs.Rank.{ranking}
use Rattle.order.specs.Counted.{counted_length, counted_at}
use Rattle.order.specs.Places.{ranking_length, ranking_rises, ranking_below}
use Rattle.marking.specs.Made.{column, in_order}

-- ---- mapped lists

pub map_at : {A B : Type 0} (f : A → B) (l : List A) (i : ℕ) (d : A) (e : B) → i < length l → get_or (map f l) i e ≡ f (get_or l i d)
map_at f [] i d e within = absurd (omega arith)
map_at f (x ∷ l) zero d e within = refl
map_at f (x ∷ l) (suc i) d e within = map_at f l i d e (omega arith)

-- what holds of each image and of the number read past the end
map_each : (f : ℕ → ℤ) (is : List ℕ) → ((i : ℕ) → is_component (f i) ≡ true) → (i : ℕ) → is_component (get_or (map f is) i (pos 0)) ≡ true
map_each f [] each i = refl
map_each f (j ∷ is) each zero = each j
map_each f (j ∷ is) each (suc i) = map_each f is each i

-- the image of i stands at place i
pub counted_map : (f : ℕ → ℤ) (n i : ℕ) → i < n → get_or (map f (count_from 0 n)) i (pos 0) ≡ f i
counted_map f n i within =
    map_at f (count_from 0 n) i 0 (pos 0) (rw counted_length within) ∙ ap f (counted_at 0 n i 0 within ∙ zero-add i)

pub counted_map_length : (f : ℕ → ℤ) (n : ℕ) → length (map f (count_from 0 n)) ≡ n
counted_map_length f n = length-map (count_from 0 n) f ∙ counted_length 0 n

-- ---- a column

module _ (d n : ℕ) (vectors : List ℤ) (t : ℕ) where
  pub column_length : length (column d n vectors t) ≡ n
  unfolding column
  column_length = counted_map_length (λ i. get_or vectors (i * d + t) (pos 0)) n

  column_at : (i : ℕ) → i < n → get_or (column d n vectors t) i (pos 0) ≡ get_or vectors (i * d + t) (pos 0)
  unfolding column
  column_at = counted_map (λ i. get_or vectors (i * d + t) (pos 0)) n

  pub column_key_at : (i : ℕ) → i < n → get_or (map key_of (column d n vectors t)) i 0 ≡ key_of (get_or vectors (i * d + t) (pos 0))
  column_key_at i within = map_at key_of (column d n vectors t) i (pos 0) 0 (rw column_length within) ∙ ap key_of (column_at i within)

  pub column_components : are_components vectors ≡ true → (i : ℕ) → is_component (get_or (column d n vectors t) i (pos 0)) ≡ true
  unfolding column
  column_components are = map_each (λ i. get_or vectors (i * d + t) (pos 0)) (count_from 0 n) (λ i. component_at_lem vectors are (i * d + t))

-- ---- its components in order

module _ (components : List ℤ) where
  pub keys_length : length (map key_of components) ≡ length components
  keys_length = length-map components key_of

  -- which of the components stands at a place
  in_order_at : (p : ℕ) → p < length components
      → get_or (in_order components) p (pos 0) ≡ get_or components (get_or (ranking (map key_of components)) p 0) (pos 0)
  unfolding in_order
  in_order_at p within =
      map_at (λ i. get_or components i (pos 0)) (ranking (map key_of components)) p 0 (pos 0)
      (rw (ranking_length (map key_of components), keys_length) within)

  pub number_below : (p : ℕ) → p < length components → get_or (ranking (map key_of components)) p 0 < length components
  number_below p within = rw keys_length at (ranking_below (map key_of components) p (rw keys_length within))

  key_at_lem : (p : ℕ) → p < length components
      → key_of (get_or (in_order components) p (pos 0)) ≡ get_or (map key_of components) (get_or (ranking (map key_of components)) p 0) 0
  key_at_lem p within =
      ap key_of (in_order_at p within)
      ∙ sym (map_at key_of components (get_or (ranking (map key_of components)) p 0) (pos 0) 0 (number_below p within))

  key_rises : (i j : ℕ) → i ≤ j → j < length components
      → key_of (get_or (in_order components) i (pos 0)) ≤ key_of (get_or (in_order components) j (pos 0))
  key_rises i j le within =
      rw (key_at_lem i (omega arith), key_at_lem j within) (ranking_rises (map key_of components) i j le (rw keys_length within))

-- n components, none above one behind it
pub record Ordered (n : ℕ) (ordered : List ℤ) : Type 0 where
  pub components : (p : ℕ) → is_component (get_or ordered p (pos 0)) ≡ true
  pub rises : (p q : ℕ) → p ≤ q → q < n → key_of (get_or ordered p (pos 0)) ≤ key_of (get_or ordered q (pos 0))

module _ (d n : ℕ) (vectors : List ℤ) (t : ℕ) where
  pub column_ordered : are_components vectors ≡ true → Ordered n (in_order (column d n vectors t))
  unfolding in_order
  column_ordered are =
      record {
        components = map_each (λ i. get_or (column d n vectors t) i (pos 0)) (ranking (map key_of (column d n vectors t)))
            (column_components d n vectors t are);
        rises = λ p q le within. key_rises (column d n vectors t) p q le (rw (column_length d n vectors t) within);
      }
