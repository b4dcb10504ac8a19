-- Regions (document 01, "Marks, regions, codes"; source document 003, section 3.1). Assumes nothing.
use Rattle.std.specs.Prelude.{Bool, ◌&&◌, cond, List, [], ◌∷◌, ℕ, suc, ℤ, pos, length, get_or}
use Rattle.std.specs.Int.Signed.{le_z, lt_z}

-- "Value v is in region r exactly if mark r ≤ v < mark r+1."
unfoldable pub in_region : List ℤ → ℕ → ℤ → Bool
in_region marks r v = le_z (get_or marks r (pos 0)) v && lt_z v (get_or marks (suc r) (pos 0))

-- The region of v is the first that holds it.
unfoldable pub region_of : List ℤ → ℤ → ℕ
region_of [] v = 0
region_of (m ∷ []) v = 0
region_of (m ∷ next ∷ ms) v =
    let rest = suc (region_of (next ∷ ms) v) in
    cond (le_z m v && lt_z v next) 0 rest

abbrev pub first_mark : List ℤ → ℤ
first_mark marks = get_or marks 0 (pos 0)

abbrev pub last_mark : List ℤ → ℤ
last_mark [] = pos 0
last_mark (m ∷ ms) = get_or (m ∷ ms) (length ms) (pos 0)

-- A value lies inside the marks if it is at least the first and below the last.
unfoldable pub in_marks : List ℤ → ℤ → Bool
in_marks marks v = le_z (first_mark marks) v && lt_z v (last_mark marks)
