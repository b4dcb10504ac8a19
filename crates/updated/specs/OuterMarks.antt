-- Outer marks at the ends of the scale (document 02, Slip 2): every component lies inside them. That 8 never occurs in adding follows in
-- proofs/NeverOutside.antt. Assumes nothing.
use Rattle.std.specs.Prelude.{◌≡◌, true, List, ℕ, suc, ◌+◌, ◌%◌, ◌<◌, ℤ, pos, get_or}
use Rattle.std.proofs.Common.{mod-lt}
use Rattle.std.proofs.Math.Nat.{zero-mod}
use Rattle.signed.specs.Components.{are_components, component_at_lem}
use Rattle.layout.specs.Layout.{bits_of}
use Rattle.region.specs.Region.{first_mark, last_mark}
use Rattle.region.specs.Regions.{within_marks}
use Rattle.partition.specs.Marks.{dimension_marks}
use Rattle.approximation.specs.Vectors.{vectors_inside}
use Rattle.approximation.specs.OwnCodes.{inside_from_lem}
use Rattle.marking.specs.Made.{column, in_order, scale_ends, made_marks}
use Rattle.marking.specs.MadeDimension.{between_first, between_last, on_scale}
use Rattle.marking.specs.MadeLaws.{between_part}

-- Outer marks "are those of Slip 2": each dimension's marks begin and end at the ends of the scale.
pub record EndsOfScale (d b : ℕ) (marks : List ℤ) : Type 0 where
  pub first : (t : ℕ) → t < d → first_mark (dimension_marks d b marks (suc t)) ≡ scale_ends.first
  pub last : (t : ℕ) → t < d → last_mark (dimension_marks d b marks (suc t)) ≡ scale_ends.last

-- every component lies inside them
pub all_inside : {d b : ℕ} {marks : List ℤ} → EndsOfScale d b marks → 0 < d → (vectors : List ℤ) → are_components vectors ≡ true
    → vectors_inside d b marks vectors ≡ true
all_inside {d} {b} {marks} ends some vectors are =
    rw zero-mod at
    (inside_from_lem d b some marks 0 vectors
    (λ q h.
    let z = get_or vectors q (pos 0) in
    let t = (0 + q) % d in
    let among : t < d = mod-lt (0 + q) some in
    within_marks (dimension_marks d b marks (suc t)) z
    (rw (ends.first t among, ends.last t among) (on_scale z (component_at_lem vectors are q)))))

-- marks that are made have them
pub made_ends : (d b n : ℕ) (vectors : List ℤ) → EndsOfScale d b (made_marks d b n vectors)
made_ends d b n vectors =
    let part = between_part (λ _. scale_ends) d b n vectors in
    record {
      first = λ t among.
          rw (part t among) (between_first scale_ends n (bits_of d b (suc t)) (in_order (column d n vectors t)));
      last = λ t among.
          rw (part t among) (between_last scale_ends n (bits_of d b (suc t)) (in_order (column d n vectors t)));
    }
