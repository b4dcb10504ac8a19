-- A buffer that is filled from the front with the elements of a list. Assumes nothing.
use Rattle.std.specs.Prelude.{◌≡◌, refl, List, [], ◌∷◌, ◌++◌, ℕ, zero, suc, ◌+◌, ◌≤◌, ◌<◌, length, take, drop, get_or, set}
use Rattle.std.proofs.Common.{ap, ◌∙◌, add-one, arith, length-append, length-drop, length-take-le}

-- the first i elements of a buffer are another list's: one more of them
put_one : (i : ℕ) (new old : List ℕ) → i < length new → i < length old → set (take i new ++ drop i old) i (get_or new i 0) ≡ take (i + 1) new ++ drop (i + 1) old
put_one i new old more room = rw add-one (go i new old more room)
  where
    go : (i : ℕ) (new old : List ℕ) → i < length new → i < length old → set (take i new ++ drop i old) i (get_or new i 0) ≡ take (suc i) new ++ drop (suc i) old
    go i [] old more room = absurd (omega arith)
    go i (x ∷ new) [] more room = absurd (omega arith)
    go zero (x ∷ new) (y ∷ old) more room = refl
    go (suc i) (x ∷ new) (y ∷ old) more room = ap {B = List ℕ} (λ r. x ∷ r) (go i new old (omega arith) (omega arith))

put_length : (i : ℕ) (new old : List ℕ) → i ≤ length new → i ≤ length old → length (take i new ++ drop i old) ≡ length old
put_length i new old more room = omega (arith, length-append (take i new) (drop i old), length-take-le i new more, length-drop i old)

-- a turn that writes x, the next of them
pub put_next : (i : ℕ) (new old out : List ℕ) (x : ℕ) → i < length new → i < length old → out ≡ take i new ++ drop i old → x ≡ get_or new i 0
    → (length (set out i x) ≡ length old) × (set out i x ≡ take (i + 1) new ++ drop (i + 1) old)
put_next i new old out x more room so_far next =
    let written : set out i x ≡ take (i + 1) new ++ drop (i + 1) old = rw (so_far, next) (put_one i new old more room) in
    (ap length written ∙ put_length (i + 1) new old (omega arith) (omega arith), written)
