-- What holds where a scan is accepted, and its answer as the pairs of the least keys and their numbers. Assumes nothing.
use Rattle.std.specs.Prelude.{◌≡◌, refl, true, ◌&&◌, List, [], ◌∷◌, map, ℕ, ◌+◌, ◌*◌, ◌≤◌, ◌<◌, eqb, ℤ, pos, length, take, drop, Ok}
use Rattle.std.proofs.Common.{sym, ap, ◌∙◌, arith, eqb-true, length-take, get_or-take, get_or-drop}
use Rattle.std.proofs.Math.Bool.{and-eq-true_iff}
use Rattle.std.proofs.lemmas.Bool.{not-false}
use Rattle.refusal.specs.First.{first, passed}
use Rattle.limits.specs.Limits.{max_dimensions, max_vectors, is_dimension_count, is_vector_count, is_neighbour_count}
use Rattle.limits.specs.Tests.{between, Neighbours, neighbours}
use Rattle.signed.specs.Components.{are_components, component_at_lem, all_components}
use Rattle.order.specs.Pair.{Pair, keyed, ranked, numbers_of, count_from}
use Rattle.order.specs.Rank.{key_at, ranking}
use Rattle.order.specs.Pairs.{pair, pairs_of}
use Rattle.selection.specs.Reading.{scan}
use Rattle.least.specs.Selected.{scan_keyed}
use Rattle.cells.specs.Cells.{vector_at}
use Rattle.distance.specs.Distance.{measured_of}
use Rattle.distance.specs.Small.{Factors, measured_exact}
use Rattle.distance.specs.Values.{values_from, values_length}
use Rattle.scan.specs.declared.ScanTerms.{ScanTerms}
use Rattle.scan.specs.Scanning.{distances_of, scan_causes}
use Rattle.scan.specs.Ranked.{values_ranked}

-- n vectors of d components in a row, and a query
pub record Vectors (d n : ℕ) (query vectors : List ℤ) : Type 0 where
  pub few : d ≤ max_dimensions
  pub count : n ≤ max_vectors
  pub size : length query ≡ d
  pub full : length vectors ≡ n * d
  pub of_query : are_components query ≡ true
  pub of_vectors : are_components vectors ≡ true

-- and the rest that the tests tell
pub record Scannable (t : ScanTerms) (query vectors : List ℤ) (entries : ℕ) : Type 0 where
  pub vectors_are : Vectors t.d t.n query vectors
  pub among : Neighbours t.n t.k
  pub room : entries ≡ t.k

pub scannable : (t : ScanTerms) (query vectors : List ℤ) (entries : ℕ) → first (scan_causes t query vectors entries) ≡ Ok tt
    → Scannable t query vectors entries
scannable t query vectors entries accepted =
    let dimensions = passed _ _ _ accepted in
    let count = passed _ _ _ dimensions.rest in
    let few = passed _ _ _ count.rest in
    let past = passed _ _ _ few.rest in
    let present = passed _ _ _ past.rest in
    let lengths = passed _ _ _ present.rest in
    let components = passed _ _ _ lengths.rest in
    let counted = not-false (is_vector_count t.n) count.fails in
    let query-and =
    (and-eq-true_iff (eqb (length query) t.d) _).0
    (not-false (eqb (length query) t.d && (eqb (length vectors) (t.n * t.d) && eqb entries t.k)) lengths.fails) in
    let vectors-and = (and-eq-true_iff (eqb (length vectors) (t.n * t.d)) _).0 query-and.1 in
    let both =
    (and-eq-true_iff (are_components query) (are_components vectors)).0
    (not-false (are_components query && are_components vectors) components.fails) in
    record {
      vectors_are = record {
        few = (between 1 t.d max_dimensions (not-false (is_dimension_count t.d) dimensions.fails)).below;
        count = (between 1 t.n max_vectors counted).below;
        size = eqb-true (length query) t.d query-and.0;
        full = eqb-true (length vectors) (t.n * t.d) vectors-and.0;
        of_query = both.0;
        of_vectors = both.1;
      };
      among = neighbours t.n t.k counted (not-false (is_neighbour_count t.n t.k) few.fails);
      room = eqb-true entries t.k vectors-and.1;
    }

-- ---- distances are exact in 64 bits

part_components : (d from : ℕ) (zs : List ℤ) → are_components zs ≡ true → are_components (take d (drop from zs)) ≡ true
part_components d from zs all =
    all_components (take d (drop from zs))
    (λ i h.
    let below : i < d = omega (arith, length-take d (drop from zs)) in
    rw (get_or-take d (drop from zs) i (pos 0) below, get_or-drop from zs i (pos 0)) (component_at_lem zs all (from + i)))

pub scanned_exact : {d n : ℕ} {query vectors : List ℤ} (factors : List ℕ) → Factors factors → Vectors d n query vectors → (i : ℕ)
    → length (vector_at d vectors i) ≡ d → measured_of factors query (vector_at d vectors i) ≡ distances_of d factors query vectors i
scanned_exact {d} {n} {query} {vectors} factors small given i whole =
    measured_exact factors small query given.of_query (vector_at d vectors i) (part_components d (i * d) vectors given.of_vectors) d
    given.few given.size whole

-- ---- the answer, from the numbers and the keys of the least

pairs_keyed : (key : ℕ → ℕ) (is : List ℕ) → pairs_of (map key is) is ≡ keyed key is
unfolding pairs_of keyed
pairs_keyed key [] = refl
pairs_keyed key (i ∷ is) = ap {B = List Pair} (λ r. pair (key i) i ∷ r) (pairs_keyed key is)

pub scan_pairs : (f : ℕ → ℕ) (n k : ℕ) (keys : List ℕ) → keys ≡ values_from f 0 n
    → pairs_of (map (key_at keys) (take k (ranking keys))) (take k (ranking keys)) ≡ scan k f (count_from 0 n)
unfolding ranking scan
scan_pairs f n k keys are =
    rw (are, values_length f 0 n)
    (pairs_keyed (key_at (values_from f 0 n)) (take k (numbers_of (ranked (key_at (values_from f 0 n)) (count_from 0 n))))
    ∙ sym (scan_keyed k (key_at (values_from f 0 n)) (count_from 0 n))
    ∙ ap (take k) (values_ranked f n))
