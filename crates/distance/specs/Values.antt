-- The values of a function at the numbers 0 to n - 1, as a list. Assumes nothing.
use Rattle.std.specs.Prelude.{◌≡◌, ℕ, zero, suc, ◌+◌, ◌<◌, List, [], ◌∷◌, length, slice_index, refl}
use Rattle.std.proofs.Common.{ap, ◌∙◌, arith}

-- n values from number i on
unfoldable pub values_from : (ℕ → ℕ) → ℕ → ℕ → List ℕ
values_from f i zero = []
values_from f i (suc n) = f i ∷ values_from f (suc i) n

pub values_length : (f : ℕ → ℕ) (i n : ℕ) → length (values_from f i n) ≡ n
unfolding values_from
values_length f i zero = refl
values_length f i (suc n) = ap suc (values_length f (suc i) n)

values_at : (f : ℕ → ℕ) (i n j : ℕ) → j < n → slice_index (values_from f i n) j ≡ f (i + j)
unfolding values_from
values_at f i zero j below = absurd (omega arith)
values_at f i (suc n) zero below = ap f (omega arith)
values_at f i (suc n) (suc j) below =
    let same : suc i + j ≡ i + suc j = omega arith in
    values_at f (suc i) n j (omega arith) ∙ ap f same

pub value_at : (f : ℕ → ℕ) (n j : ℕ) → j < n → slice_index (values_from f 0 n) j ≡ f j
value_at f n j below =
    let same : 0 + j ≡ j = omega arith in
    values_at f 0 n j below ∙ ap f same
