-- What the reading of the rest is lent: the numbers of a ranking from its front on, and the keys of those behind the first k. Assumes
-- nothing.
use Rattle.std.specs.Prelude.{◌≡◌, refl, List, [], ◌∷◌, ◌++◌, map, take, drop, get_or}
use Rattle.std.proofs.Common.{sym, ◌∙◌, arith, length-take, take-take, take-add, get_or-take, get_or-drop, length-take-le}
use Rattle.std.proofs.Math.Path.{ap}
use Prim.Native.Nat.{ℕ, zero, suc, ◌+◌, ◌-◌, ◌≤◌, ◌<◌}
use Rattle.std.proofs.Math.ListN.{length, length-map, get_or-map}
use Rattle.std.proofs.Math.Seq.{take-length}
use Rattle.order.specs.Pair.{Pair, ranked, numbers_of}
use Rattle.order.specs.Pairs.{keys_of, numbers_of_map}
use Rattle.order.specs.Sorted.{Sorted}
use Rattle.selection.specs.Reading.{least_pair, reading_order}
use Rattle.selection.specs.Candidates.{candidates}
use Rattle.selection.proofs.Candidates.{candidates_first, ranked_at}
use Rattle.best_pairs.specs.Kept.{map_take}

pub record Aligned (k : ℕ) (ranking : List Pair) (lows order : List ℕ) : Type 0 where
  pub numbers_are : take (k + length lows) order ≡ take (k + length lows) (numbers_of ranking)
  pub lows_are : lows ≡ take (length lows) (drop k (keys_of ranking))

-- ---- the numbers and their lows

module _ {k : ℕ} {ranking : List Pair} {lows order : List ℕ} (aligned : Aligned k ranking lows order) where
  pub front_is : (done : ℕ) → done ≤ k + length lows → take done order ≡ take done (numbers_of ranking)
  front_is done within =
      sym (take-take done (k + length lows) order within)
      ∙ ap (take done) aligned.numbers_are
      ∙ take-take done (k + length lows) (numbers_of ranking) within

  pub order_room : k + length lows ≤ length (numbers_of ranking) → k + length lows ≤ length order
  order_room within =
      omega (
        arith,
        ap length aligned.numbers_are ∙ length-take-le (k + length lows) (numbers_of ranking) within,
        length-take (k + length lows) order,
      )

  pub number_at : (done : ℕ) → done < k + length lows → get_or order done 0 ≡ get_or (numbers_of ranking) done 0
  number_at done more =
      sym (get_or-take (k + length lows) order done 0 more)
      ∙ ap (λ (o : List ℕ). get_or o done 0) aligned.numbers_are
      ∙ get_or-take (k + length lows) (numbers_of ranking) done 0 more

  key_at_lem : (done : ℕ) → k ≤ done → done < k + length lows → get_or lows (done - k) 0 ≡ get_or (keys_of ranking) done 0
  key_at_lem done behind more =
      let same : k + (done - k) ≡ done = omega arith in
      ap (λ (l : List ℕ). get_or l (done - k) 0) aligned.lows_are
      ∙ get_or-take (length lows) (drop k (keys_of ranking)) (done - k) 0 (omega arith)
      ∙ get_or-drop k (keys_of ranking) (done - k) 0
      ∙ ap (λ (m : ℕ). get_or (keys_of ranking) m 0) same

pub low_at : {k : ℕ} (low : ℕ → ℕ) (numbers : List ℕ) {lows order : List ℕ} → Aligned k (ranked low numbers) lows order → (done : ℕ)
    → k ≤ done
    → done < k + length lows → done < length numbers → get_or lows (done - k) 0 ≡ low (get_or (reading_order low numbers) done 0)
unfolding keys_of least_pair
low_at low numbers aligned done behind more within =
    key_at_lem aligned done behind more
    ∙ get_or-map (λ (p : Pair). p.key) (ranked low numbers) done least_pair
    ∙ ap (λ (p : Pair). p.key) (ranked_at low numbers done within)

-- ---- all of a ranking, and its candidates

pub aligned_all : {k : ℕ} {ranking : List Pair} {lows order : List ℕ} → order ≡ numbers_of ranking → lows ≡ drop k (keys_of ranking)
    → Aligned k ranking lows order
aligned_all {k} {ranking} {lows} are-numbers are-lows = record {
  numbers_are = ap (take (k + length lows)) are-numbers;
  lows_are = sym (take-length lows) ∙ ap (take (length lows)) are-lows;
}

map_drop : (f : Pair → ℕ) (k : ℕ) (ps : List Pair) → map f (drop k ps) ≡ drop k (map f ps)
map_drop f zero ps = refl
map_drop f (suc k) [] = refl
map_drop f (suc k) (p ∷ ps) = map_drop f k ps

module _ (k : ℕ) {ranking : List Pair} (sorted : Sorted ranking) (bound : Pair) where
  map_candidates : (f : Pair → ℕ) → map f (candidates k ranking bound) ≡ take (length (candidates k ranking bound)) (drop k (map f ranking))
  map_candidates f =
      ap (map f) (candidates_first k sorted bound)
      ∙ map_take f (length (candidates k ranking bound)) (drop k ranking)
      ∙ ap (take (length (candidates k ranking bound))) (map_drop f k ranking)

  pub aligned_candidates : {lows order : List ℕ} → lows ≡ keys_of (candidates k ranking bound)
      → take (k + length (candidates k ranking bound)) order ≡ take k (numbers_of ranking) ++ numbers_of (candidates k ranking bound)
      → Aligned k ranking lows order
  unfolding keys_of
  aligned_candidates {lows} {order} are-lows are-numbers =
      let count : length lows ≡ length (candidates k ranking bound) = ap length are-lows
      ∙ length-map (candidates k ranking bound) (λ p. p.key) in
      let numbers : Pair → ℕ = λ p. p.number in
      record {
        numbers_are =
            rw count
            (are-numbers
            ∙ rw (numbers_of_map ranking, numbers_of_map (candidates k ranking bound), map_candidates numbers)
            (sym (take-add k (length (candidates k ranking bound)) (map numbers ranking))));
        lows_are = rw count (are-lows ∙ map_candidates (λ p. p.key));
      }
