use Rattle.std.proofs.Common.{◌≡◌, ◌+◌, ◌-◌, length, refl, arith}
use Rattle.entries.specs.Filled.{filled, filled_none, filled_part, fitting, fitting_fits, fitting_many, fitting_past}
use Rattle.entries.proofs.fill.fill.Goals as goal
use Rattle.entries.proofs.fill.fill.Goals.{else-count-le-MAX_NEIGHBOURS-via-then-count-le-MAX_NEIGHBOURS+then-start-entries+else-count-entries, else-count-le-MAX_NEIGHBOURS-via-then-count-le-MAX_NEIGHBOURS+else-start-entries, else-count-le-MAX_NEIGHBOURS-via-else-count-le-MAX_NEIGHBOURS}

pub returns-then-count-entries : goal.returns-then-count-entries
returns-then-count-entries c =
    let a = c.args in
    let size : a.start + a.count - a.start ≡ a.count = omega arith in
    rw (
      fitting_fits (length a.entries.now) a.start a.count (omega arith) (omega arith),
      filled_part a.array a.entries.now a.start a.count (omega arith) (omega arith),
      c.copy_from_slice.ensures.after,
      size,
    )
    refl

pub returns-else-count-le-MAX_NEIGHBOURS : goal.returns-else-count-le-MAX_NEIGHBOURS
returns-else-count-le-MAX_NEIGHBOURS c =
    let a = c.args in
    let room = length a.entries.now in
    let same : fitting room a.start a.count ≡ 0 → a.entries.now ≡ filled a.array a.entries.now a.start (fitting room a.start a.count) =
    λ none. rw (none, filled_none a.array a.entries.now a.start) refl in
    elim c.else-count-le-MAX_NEIGHBOURS.branch [
      | else-count-le-MAX_NEIGHBOURS-via-then-count-le-MAX_NEIGHBOURS+then-start-entries+else-count-entries w ↦ same (fitting_past room a.start a.count (omega arith))
      | else-count-le-MAX_NEIGHBOURS-via-then-count-le-MAX_NEIGHBOURS+else-start-entries w ↦ same (fitting_past room a.start a.count (omega arith))
      | else-count-le-MAX_NEIGHBOURS-via-else-count-le-MAX_NEIGHBOURS w ↦ same (fitting_many room a.start a.count (omega arith))
    ]
