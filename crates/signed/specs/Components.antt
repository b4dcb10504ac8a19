-- Lists of components. Assumes nothing.
use Rattle.std.specs.Prelude.{◌≡◌, ℕ, zero, suc, ◌<◌, Bool, true, ◌&&◌, List, [], ◌∷◌, length, ℤ, pos, slice_index_or, refl}
use Rattle.std.proofs.Math.Bool.{and-eq-true_iff}
use Rattle.std.proofs.Common.{arith}
use Rattle.limits.specs.Limits.{is_component}

-- each number of the list is a component
unfoldable pub are_components : List ℤ → Bool
are_components [] = true
are_components (z ∷ zs) = is_component z && are_components zs

-- ---- laws

-- what is read past the end, 0, is a component too
pub component_at_lem : (zs : List ℤ) → are_components zs ≡ true → (i : ℕ) → is_component (slice_index_or zs i (pos 0)) ≡ true
unfolding are_components
component_at_lem [] all i = refl
component_at_lem (z ∷ zs) all zero = ((and-eq-true_iff (is_component z) (are_components zs)).0 all).0
component_at_lem (z ∷ zs) all (suc i) = component_at_lem zs ((and-eq-true_iff (is_component z) (are_components zs)).0 all).1 i

-- and where each is a component, all are
pub all_components : (zs : List ℤ) → ((i : ℕ) → i < length zs → is_component (slice_index_or zs i (pos 0)) ≡ true) → are_components zs ≡ true
unfolding are_components
all_components [] each = refl
all_components (z ∷ zs) each =
    (and-eq-true_iff (is_component z) (are_components zs)).1 (each 0 (omega arith), all_components zs (λ i h. each (suc i) (omega arith)))
