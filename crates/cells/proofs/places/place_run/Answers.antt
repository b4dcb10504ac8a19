-- The places written so far, with those of the dimensions that are left, are the whole.
use Rattle.std.proofs.Common.{◌≡◌, arith, ℕ, suc, ◌+◌, ◌-◌, ◌≤◌, ◌<◌, List, ◌++◌, length, take, append-nil}
use Rattle.std.proofs.Math.Seq.{length-take-le, take_all, take_at, take-append-add}
use Rattle.limits.specs.Written.{written_one}
use Rattle.codes.specs.Bits.{bits_at}
use Rattle.codes.specs.BitLaws.{bits_at_lt}
use Rattle.cells.specs.Places.{run_places}
use Rattle.cells.proofs.Runs.{regions}
use Rattle.cells.proofs.places.place_run.Goals as goal

-- a part that lies behind a front, made over
made_over : (front part rest made : List ℕ) (first n end : ℕ) → length front ≡ first → length part ≡ n → first + n ≡ end → part ≡ made
    → take end (front ++ (part ++ rest)) ≡ front ++ made
made_over front part rest made first n end before count whole same =
    rw (← whole, ← before, take-append-add front (part ++ rest) n, take_at part rest n count, same)

-- a number that was read from the codes
number_few : (codes : List ℕ) (bit w r : ℕ) → r ≡ bits_at codes bit w → w ≤ 8 → r < 256
number_few codes bit w r is few = rw is (bits_at_lt codes bit w few)

pub overflow_add-place : goal.overflow_add-place
overflow_add-place c =
    let few : c.args.w ≤ 8 = omega (arith, c.requires.0) in
    let number = number_few _ _ _ c.bits_at.result c.bits_at.ensures few in
    omega arith

pub loop-place-preserved : goal.loop-place-preserved
unfolding run_places
loop-place-preserved c =
    let at = c.loop-place in
    let shift = regions c.args.w c.requires.0 in
    let left : c.args.end - c.args.first - at.place-index ≡ suc (c.args.end - c.args.first - (at.place-index + 1)) = omega arith in
    record {
      bit_small = omega (arith, at.invariant.bit_small);
      start_small = omega (arith, at.invariant.start_small, shift.exact, shift.most);
      so_far = rw (shift.exact, c.bits_at.ensures) (written_one at.place-items at.place-index _ _ _ (omega arith) (rw left at at.invariant.so_far));
    }

pub returns : goal.returns
unfolding run_places
returns c =
    let a = c.args in
    let n = a.end - a.first in
    let items = c.loop-place.place-items in
    let front : length (take a.first a.places.now) ≡ a.first = length-take-le a.first a.places.now (omega arith) in
    let count : length items ≡ n = omega arith in
    let all : c.loop-place.place-index ≡ n = omega arith in
    let none : n - n ≡ 0 = omega arith in
    let same = rw (all, none, append-nil, take_all n items (omega arith)) at c.loop-place.invariant.so_far in
    made_over (take a.first a.places.now) items _ _ a.first n a.end front count (omega arith) same
