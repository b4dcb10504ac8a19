-- A list that is written from the front with the elements of a whole that is as long: what is written so far, with the whole's rest, is
-- the whole. Assumes nothing.
use Rattle.std.proofs.Common.{◌≡◌, ℕ, ◌+◌, ◌<◌, List, ◌++◌, length, get_or, take, drop, set, refl, ap, ◌∙◌, add-one, arith, length-set, drop-cons}
use lib.Seq.{drop-length}
use Rattle.order.proofs.Written.{written_one, written_all}

pub record Filling (whole out : List ℕ) (i : ℕ) : Type 0 where
  pub room : length out ≡ length whole
  pub so_far : take i out ++ drop i whole ≡ whole

pub filling_start : (whole out : List ℕ) → length out ≡ length whole → Filling whole out 0
filling_start whole out room = record { room = room; so_far = refl }

pub filling_next : (whole out : List ℕ) (i x default : ℕ) → i < length whole → x ≡ get_or whole i default → Filling whole out i
    → Filling whole (set out i x) (i + 1)
filling_next whole out i x default below is at =
    let within : i < length out = omega (arith, at.room) in
    record {
      room = simp length-set at.room;
      so_far = written_one out i x (drop (i + 1) whole) whole within (rw (is, add-one, ← drop-cons whole i default below) at.so_far);
    }

pub filling_end : (whole out : List ℕ) (i : ℕ) → i ≡ length whole → Filling whole out i → out ≡ whole
filling_end whole out i all at =
    written_all out i whole (omega (arith, at.room)) (rw (ap (λ (n : ℕ). drop n whole) all ∙ drop-length whole) at at.so_far)
