-- The keys of a column, sorted as words, are the keys of its components in non-falling order. Assumes nothing.
use Rattle.std.specs.Prelude.{◌≡◌, refl, true, List, [], ◌∷◌, map, ℕ, suc, ◌+◌, ◌-◌, ◌^◌, ◌<◌, ℤ, pos, ◌-ℤ◌, length}
use Rattle.std.proofs.Common.{sym, ap₂, ◌∙◌, arith}
use Rattle.std.proofs.Math.Path.{ap}
use Rattle.std.proofs.Math.IntN.{+ℤ-neg_ℤ_cancel}
use Rattle.std.proofs.lemmas.List.{length-map}
use Rattle.std.proofs.Math.ListN.{get_or}
use Rattle.limits.specs.Limits.{is_component}
use Rattle.limits.specs.Tests.{Between}
use Rattle.signed.specs.Keys.{key_of, key_sum, component_small}
use Rattle.order.specs.Rank.{key_at, ranking}
use Rattle.order.specs.Places.{ranking_length}
use Rattle.order.specs.Words.{in_order as wordsInOrder}
use Rattle.order.specs.KeyOrder.{ranking_in_order}
use Rattle.marking.specs.Made.{in_order}
use Rattle.marking.specs.InOrder.{map_at, keys_length, number_below}
use Rattle.marking.specs.MadeDimension.{key_range}

-- the number that a key stands for
unfoldable pub whole_of : ℕ → ℤ
whole_of key = pos key -ℤ pos (2 ^ 31)

-- a component's key, and a list of such keys
pub record ComponentKey (key : ℕ) : Type 0 where
  pub component : ℤ
  pub is : is_component component ≡ true
  pub same : key ≡ key_of component

abbrev pub ComponentKeys : List ℕ → Type 0
ComponentKeys keys = (p : ℕ) → p < length keys → ComponentKey (get_or keys p 0)

-- ---- laws

key_back : (z : ℤ) → is_component z ≡ true → whole_of (key_of z) ≡ z
unfolding whole_of
key_back z is = ap (λ (y : ℤ). y -ℤ pos (2 ^ 31)) (sym (key_sum z (component_small z is))) ∙ +ℤ-neg_ℤ_cancel z (pos (2 ^ 31))

module _ {key : ℕ} (of : ComponentKey key) where
  whole_is : whole_of key ≡ of.component
  whole_is = ap whole_of of.same ∙ key_back of.component of.is

  pub key_component : is_component (whole_of key) ≡ true
  key_component = rw whole_is of.is

  pub key_between : Between (2 ^ 31 - 32768) key (2 ^ 31 + 32767)
  key_between = rw of.same (key_range of.component of.is)

-- two ways to map a list that agree at each of its places
map_back : (f : ℕ → ℕ) (g : ℕ → ℤ) (is : List ℕ) → ((p : ℕ) → p < length is → whole_of (f (get_or is p 0)) ≡ g (get_or is p 0))
    → map whole_of (map f is) ≡ map g is
map_back f g [] same = refl
map_back f g (i ∷ is) same =
    ap₂ {C = List ℤ} (λ z zs. z ∷ zs) (same 0 (omega arith)) (map_back f g is (λ p within. same (suc p) (omega arith)))

module _ (components : List ℤ) (each : (i : ℕ) → is_component (get_or components i (pos 0)) ≡ true) where
  abbrev keys : List ℕ
  keys = map key_of components

  -- the key at a place of the ranking
  key_there : (p : ℕ) → p < length (ranking keys)
      → key_at keys (get_or (ranking keys) p 0) ≡ key_of (get_or components (get_or (ranking keys) p 0) (pos 0))
  key_there p within =
      let among : p < length components = omega (arith, ranking_length keys, keys_length components) in
      map_at key_of components (get_or (ranking keys) p 0) (pos 0) 0 (number_below components p among)

  -- read back as numbers, they are the components in order
  pub keys_in_order : map whole_of (wordsInOrder keys) ≡ in_order components
  unfolding in_order
  keys_in_order =
      ap (map whole_of) (sym (ranking_in_order keys))
      ∙ map_back (key_at keys) (λ i. get_or components i (pos 0)) (ranking keys)
      (λ p within. ap whole_of (key_there p within) ∙ key_back (get_or components (get_or (ranking keys) p 0) (pos 0)) (each (get_or (ranking keys) p 0)))

  pub component_keys : ComponentKeys (wordsInOrder keys)
  component_keys = rw (← ranking_in_order keys) ranked_keys
    where
      ranked_keys : ComponentKeys (map (key_at keys) (ranking keys))
      ranked_keys p within =
          let among : p < length (ranking keys) = rw (length-map (ranking keys) (key_at keys)) at within in
          record {
            component = get_or components (get_or (ranking keys) p 0) (pos 0);
            is = each (get_or (ranking keys) p 0);
            same = map_at (key_at keys) (ranking keys) p 0 0 among ∙ key_there p among;
          }
