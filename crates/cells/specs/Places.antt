-- The places in the marks buffer of the lower marks of the regions that a code names: one for each dimension, and by runs of dimensions
-- that have as many bits. Assumes nothing.
use Rattle.std.specs.Prelude.{◌≡◌, Bool, true, false, List, [], ◌∷◌, ◌++◌, ltb, length, get_or}
use Rattle.std.proofs.Math.Path.{refl, ap}
use Rattle.std.proofs.Common.{sym, zero-mul, suc-mul, mul-le-mul_left, ltb-true, ltb-false}
use Prim.Native.Nat.{ℕ, zero, suc, ◌+◌, ◌-◌, ◌*◌, ◌/◌, ◌%◌, ◌^◌, ◌≤◌, ◌<◌}
use Rattle.std.proofs.Math.Nat.{add-zero, zero-add, add-suc, suc-add}
use native.Mathlib.Omega.{arith}
use Rattle.std.proofs.Math.ListN.{get_or-eq_default}
use Rattle.layout.specs.Layout.{first_bits, first_marks}
use Rattle.layout.specs.Laws.{marks_le, marks_within, first_next_marks}
use Rattle.layout.specs.Runs.{Run, run_marks, wide, narrow, wide_bits, wide_marks}
use Rattle.layout.specs.Stretch.{Shape}
use Rattle.codes.specs.Bits.{bits_at}
use Rattle.codes.specs.Codes.{code_region}
use Rattle.codes.specs.PackLaws.{code_region_fits, run_region}

-- the place of the lower mark of the region that code i names for dimension t + 1
abbrev pub mark_place : ℕ → ℕ → List ℕ → ℕ → ℕ → ℕ
mark_place d b codes i t = first_marks d b t + code_region d b codes i t

-- those of n dimensions from dimension t + 1 on
unfoldable pub places_from : ℕ → ℕ → List ℕ → ℕ → ℕ → ℕ → List ℕ
places_from d b codes i t zero = []
places_from d b codes i t (suc n) = mark_place d b codes i t ∷ places_from d b codes i (suc t) n

abbrev pub mark_places : ℕ → ℕ → List ℕ → ℕ → List ℕ
mark_places d b codes i = places_from d b codes i 0 d

-- those of n dimensions of w bits, whose region numbers begin at a bit of the codes, and whose marks at a place of the marks buffer
unfoldable pub run_places : List ℕ → ℕ → ℕ → ℕ → ℕ → List ℕ
run_places codes w bit start zero = []
run_places codes w bit start (suc n) = (start + bits_at codes bit w) ∷ run_places codes w (bit + w) (start + (2 ^ w + 1)) n

module _ (d b : ℕ) (codes : List ℕ) (i : ℕ) where
  pub length_places : (t n : ℕ) → length (places_from d b codes i t n) ≡ n
  unfolding places_from
  length_places t zero = refl
  length_places t (suc n) = ap suc (length_places (suc t) n)

  pub place_at : (t n k : ℕ) → k < n → get_or (places_from d b codes i t n) k 0 ≡ mark_place d b codes i (t + k)
  unfolding places_from
  place_at t zero k below = absurd (omega arith)
  place_at t (suc n) zero below = rw (add-zero t)
  place_at t (suc n) (suc k) below = rw (add-suc t k, ← suc-add t k) (place_at (suc t) n k (omega arith))

  places_split : (t m n : ℕ) → places_from d b codes i t (m + n) ≡ places_from d b codes i t m ++ places_from d b codes i (t + m) n
  unfolding places_from
  places_split t zero n = rw (zero-add n, add-zero t)
  places_split t (suc m) n = rw (suc-add m n, add-suc t m, ← suc-add t m, places_split (suc t) m n)

  -- of the dimensions of a run, from its dimension k + 1 on
  run_places_lem : {before n w : ℕ} → Run d b before n w → (k m : ℕ) → k + m ≤ n
      → run_places codes w (i * b + first_bits d b before + k * w) (first_marks d b before + k * (2 ^ w + 1)) m
      ≡ places_from d b codes i (before + k) m
  unfolding run_places places_from
  run_places_lem run k zero within = refl
  run_places_lem {before} {n} {w} run k (suc m) within =
      let bit = i * b + first_bits d b before in
      let start = first_marks d b before in
      let next_bit : bit + k * w + w ≡ bit + suc k * w = rw (suc-mul k w) (omega arith) in
      let next_start : start + k * (2 ^ w + 1) + (2 ^ w + 1) ≡ start + suc k * (2 ^ w + 1) = rw (suc-mul k (2 ^ w + 1)) (omega arith) in
      rw (
        next_bit,
        next_start,
        run_places_lem run (suc k) m (omega arith),
        run_region run codes i k (omega arith),
        run_marks run k (omega arith),
        add-suc before k,
      )

  whole_run : {before n w : ℕ} → Run d b before n w
      → run_places codes w (i * b + first_bits d b before) (first_marks d b before) n ≡ places_from d b codes i before n
  whole_run {before} {n} {w} run = simp (zero-mul, add-zero) at (run_places_lem run 0 n (omega arith))

-- the dimensions with one bit more, and then the others
module _ (d b : ℕ) where
  pub two_runs : (codes : List ℕ) (i : ℕ) → b / d ≤ 6 → b % d ≤ d
      → run_places codes (b / d + 1) (i * b) 0 (b % d)
      ++ run_places codes (b / d) (i * b + b % d * (b / d + 1)) (b % d * (2 ^ (b / d + 1) + 1)) (d - b % d)
      ≡ mark_places d b codes i
  unfolding first_bits first_marks
  two_runs codes i small within =
      let all : b % d + (d - b % d) ≡ d = omega arith in
      let wides = rw (add-zero (i * b)) at (whole_run d b codes i (wide d b small)) in
      let others = rw (wide_bits d b small, wide_marks d b small) at (whole_run d b codes i (narrow d b small)) in
      rw (wides, others) (sym (rw (all, zero-add (b % d)) at (places_split d b codes i 0 (b % d) (d - b % d))))

-- places that are no further than the longest marks buffer
pub record Small (places : List ℕ) : Type 0 where
  pub each : (t : ℕ) → get_or places t 0 ≤ 4096

pub places_small : {d b : ℕ} (codes : List ℕ) (i : ℕ) → Shape d b → Small (mark_places d b codes i)
places_small {d} {b} codes i shaped = record { each = λ t. go t (ltb t d) refl }
  where
    go : (t : ℕ) (e : Bool) → ltb t d ≡ e → get_or (mark_places d b codes i) t 0 ≤ 4096
    go t true e =
        let below : t < d = ltb-true t d e in
        let most : (2 ^ 6 + 1) * d ≤ (2 ^ 6 + 1) * 32 = mul-le-mul_left (2 ^ 6 + 1) shaped.few in
        rw (place_at d b codes i 0 d t below, zero-add t)
        (omega (
          arith,
          code_region_fits d b codes i t,
          first_next_marks d b t,
          marks_within d b d t below,
          marks_le 6 d b d shaped.some shaped.bits,
          most,
        ))
    go t false e =
        rw (get_or-eq_default (mark_places d b codes i) 0 {n = t} (rw (length_places d b codes i 0 d) (ltb-false t d e))) (omega arith)
