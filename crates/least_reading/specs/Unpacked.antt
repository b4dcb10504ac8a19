-- Region numbers that are unpacked once for several queries: the sums of a table's entries by them are those by the codes. Assumes nothing.
use Rattle.std.specs.Prelude.{◌≡◌, refl, true, List, ℕ, ◌*◌, ◌≤◌, length, take, Ok}
use Rattle.std.proofs.Common.{ap, ◌∙◌, subst, eq-eqb}
use Rattle.std.proofs.Math.Path.{subst⁻¹}
use Rattle.std.proofs.Math.Bool.{and-eq-true_iff}
use Rattle.std.proofs.lemmas.Bool.{not-false}
use Rattle.refusal.specs.First.{first, outcome, first_append, outcome_accepted, passed, accepted_front, accepted_behind}
use Rattle.limits.specs.Limits.{max_dimensions, max_vectors, is_vector_count}
use Rattle.layout.specs.Stretch.{shape_causes}
use Rattle.codes.specs.Codes.{unpacked, spare_zero}
use Rattle.codes.specs.Pack.{size_causes, unpack_causes, sizes}
use Rattle.codes.specs.PackLaws.{length_unpacked}
use Rattle.cells.specs.Cells.{no_empty_codes}
use Rattle.distance.specs.Values.{values_from}
use Rattle.table.specs.Table.{bound_sum}
use Rattle.bounds.specs.Regions.{region_sum, row_sum_causes, region_sum_causes}
use Rattle.bounds.specs.Sums.{counted_causes, sum_causes, summable}
use Rattle.bounds.specs.Unpacked.{regions_bounds}
use Rattle.batch.specs.Batch.{Batch}
use Rattle.batch.specs.Accepted.{Batched}

-- the region numbers that n codes name
abbrev pub Unpacked : ℕ → ℕ → ℕ → List ℕ → List ℕ → Type 0
Unpacked d b n codes regions = regions ≡ unpacked d b n codes

-- an array that begins with them, where they can be unpacked
pub record RegionsIn (d b n : ℕ) (codes array : List ℕ) : Type 0 where
  pub front : first (unpack_causes d b n codes (n * d)) ≡ Ok tt → take (n * d) array ≡ unpacked d b n codes

-- ---- the sums by them

-- codes that can be summed are as many as vectors may be
vector_count : (d b n table : ℕ) (codes : List ℕ) → first (sum_causes d b table codes n) ≡ Ok tt → is_vector_count n ≡ true
vector_count d b n table codes accepted =
    not-false (is_vector_count n) (passed _ _ _ (accepted_behind (shape_causes d b) (counted_causes d b table codes n) accepted)).fails

-- where codes can be summed, rows of region numbers can
rows_accepted : (d b n table regions : ℕ) (codes : List ℕ) → first (sum_causes d b table codes n) ≡ Ok tt → regions ≡ n * d
    → first (region_sum_causes d b table regions n) ≡ Ok tt
unfolding first
rows_accepted d b n table regions codes accepted rows =
    let are = summable d b table codes n accepted in
    first_append (shape_causes d b) (row_sum_causes d b table regions n)
    ∙ outcome_accepted _ _ are.0
    ∙ rw (vector_count d b n table codes accepted, eq-eqb _ _ are.1, eq-eqb _ _ rows)

pub sums_by_regions : (d b n : ℕ) (table codes regions kept : List ℕ) → first (sum_causes d b (length table) codes n) ≡ Ok tt
    → regions ≡ unpacked d b n codes
    → outcome (first (region_sum_causes d b (length table) (length regions) n)) (values_from (region_sum d b table regions) 0 n) (λ _. kept)
    ≡ values_from (bound_sum d b table codes) 0 n
sums_by_regions d b n table codes regions kept accepted are =
    outcome_accepted _ _ (rows_accepted d b n (length table) (length regions) codes accepted (ap length are ∙ length_unpacked d b n codes))
    ∙ ap (λ (numbers : List ℕ). values_from (region_sum d b table numbers) 0 n) are
    ∙ regions_bounds d b n table codes (summable d b (length table) codes n accepted).0

-- ---- the array

-- an array whose front was unpacked into, by as many numbers as there are within the limits
pub unpacked_front : (d b n count size : ℕ) (codes array back kept : List ℕ) → (d ≤ max_dimensions → n ≤ max_vectors → count ≡ n * d)
    → size ≡ count
    → take count array ≡ back
    → back ≡ outcome (first (unpack_causes d b n codes size)) (unpacked d b n codes) (λ _. kept)
    → RegionsIn d b n codes array
unpacked_front d b n count size codes array back kept counts sized shared unpacks = record {
  front = λ accepted.
      let are = sizes d b n (n * d) (length codes) (accepted_front (size_causes d b n (n * d) (length codes)) _ accepted) in
      let all : count ≡ n * d = counts are.shaped.few are.few in
      subst (λ (e : ℕ). take e array ≡ unpacked d b n codes) all
      (shared ∙ unpacks
      ∙ outcome_accepted _ _ (subst⁻¹ (λ (e : ℕ). first (unpack_causes d b n codes e) ≡ Ok tt) (sized ∙ all) accepted));
}

-- the codes of a batch can be unpacked
batch_unpacks : {batch : Batch} → Batched batch
    → let t = batch.terms in first (unpack_causes t.d t.b t.n batch.codes (t.n * t.d)) ≡ Ok tt
unfolding first
batch_unpacks {batch} is =
    let t = batch.terms in
    let named = no_empty_codes t.d t.b batch.marks batch.codes t.n in
    let spare = ((and-eq-true_iff named (spare_zero t.b t.n batch.codes)).0 is.codes).1 in
    rw (is.dimensions, is.bits, is.count, eq-eqb (t.n * t.d) _ refl, eq-eqb _ _ is.of_codes, spare) refl

pub front_unpacked : {batch : Batch} {array : List ℕ} → Batched batch
    → let t = batch.terms in RegionsIn t.d t.b t.n batch.codes array
    → Unpacked t.d t.b t.n batch.codes (take (t.n * t.d) array)
front_unpacked is regions = regions.front (batch_unpacks is)
