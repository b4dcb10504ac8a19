-- Buffers that hold a part for each query, one behind the other. Assumes nothing.
use Rattle.std.specs.Prelude.{List, [], ◌∷◌, ◌++◌, ℕ, zero, suc, ◌*◌, take, drop}

-- part i of a buffer of parts of one size
abbrev pub part_at : {A : Type 0} → ℕ → List A → ℕ → List A
part_at size buffer i = take size (drop (i * size) buffer)

-- m parts, from number i on
unfoldable pub parts_from : {A : Type 0} → (ℕ → List A) → ℕ → ℕ → List A
parts_from part i zero = []
parts_from part i (suc m) = part i ++ parts_from part (suc i) m

-- m elements, from number i on
unfoldable pub each_from : {A : Type 0} → (ℕ → A) → ℕ → ℕ → List A
each_from element i zero = []
each_from element i (suc m) = element i ∷ each_from element (suc i) m

-- a buffer with part i put in its place
abbrev pub with_part : {A : Type 0} → ℕ → ℕ → List A → List A → List A
with_part size i part buffer = take (i * size) buffer ++ (part ++ drop size (drop (i * size) buffer))
