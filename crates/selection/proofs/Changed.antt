-- One distance changed: it is the new one at its number, and the old one at every other. Assumes nothing.
use Rattle.std.specs.Prelude.{◌≡◌, refl, ◌≢◌, ℕ}
use Rattle.std.proofs.Math.Path.{fun_ext}
use Rattle.std.proofs.Math.Decide.{ℕ_discrete}
use Rattle.std.proofs.Common.{eq-eqb, ne_eqb}
use Rattle.selection.specs.Settles.{changed}

pub changed_there : (distance : ℕ → ℕ) (i v : ℕ) → changed distance i v i ≡ v
unfolding changed
changed_there distance i v = rw (eq-eqb i i refl)

pub changed_elsewhere : (distance : ℕ → ℕ) (i v j : ℕ) → j ≢ i → changed distance i v j ≡ distance j
unfolding changed
changed_elsewhere distance i v j other = rw (ne_eqb j i other)

-- what holds of v at i and of the distance elsewhere
pub changed_holds : (distance : ℕ → ℕ) (i v j : ℕ) (P : ℕ → ℕ → Type 0) → P i v → P j (distance j) → P j (changed distance i v j)
changed_holds distance i v j P there else = go (ℕ_discrete j i)
  where
    go : Dec (j ≡ i) → P j (changed distance i v j)
    go (yes e) = rw (e, changed_there distance i v) there
    go (no other) = rw (changed_elsewhere distance i v j other) else

pub changed_same : (distance : ℕ → ℕ) (i : ℕ) → changed distance i (distance i) ≡ distance
changed_same distance i = fun_ext (λ j. changed_holds distance i (distance i) j (λ n v. v ≡ distance n) refl refl)
