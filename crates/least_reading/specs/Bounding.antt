-- What the lower bounds of n codes take. Assumes nothing.
use Rattle.std.specs.Prelude.{◌≡◌, ℕ}
use Rattle.std.proofs.Math.Bool.{and-eq-true_iff}
use Rattle.std.proofs.Common.{arith, le-leb}
use Rattle.limits.specs.Limits.{max_vectors}
use Rattle.codes.specs.Codes.{spare_zero}
use Rattle.cells.specs.Cells.{no_empty_codes}
use Rattle.bounds.specs.Bounded.{Bounding}
use Rattle.search.specs.Search.{Index, Query}
use Rattle.search.specs.Ready.{Ready}

pub bounding : {l : Index} {query : Query} {k : ℕ} → Ready l query k → (n : ℕ) → n ≡ l.n
    → Bounding l.d l.b n query.components l.marks l.codes
bounding {l} is n same = record {
  shaped = is.shaped;
  count = rw (same, le-leb 1 l.n (omega (arith, is.some, is.enough)), le-leb l.n max_vectors is.count);
  of_query = is.of_query;
  of_marks = is.of_marks;
  of_codes = rw same is.of_codes;
  components = is.components;
  good = is.marks;
  spare = rw same
      ((and-eq-true_iff (no_empty_codes l.d l.b l.marks l.codes l.n) (spare_zero l.b l.n l.codes)).0 is.codes).1;
}
