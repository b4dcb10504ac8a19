-- What holds behind a head that passes. Assumes nothing.
use Rattle.std.specs.Prelude.{◌≡◌, List, ◌++◌, ℕ, ◌≤◌, eqb, get_or, drop, Ok}
use Rattle.std.proofs.Common.{sym, ap₂}
use Rattle.refusal.specs.First.{first}
use Rattle.limits.specs.Limits.{max_vectors}
use Rattle.layout.specs.Stretch.{shape_causes}
use Rattle.records.specs.Bytes.{from_low_first}
use Rattle.records.specs.Records.{head_kind, kind_of}
use Rattle.records.specs.Frame.{frame_causes}
use Rattle.records.specs.RowLaws.{both}
use Rattle.library.specs.Each.{tabulate}
use Rattle.library.specs.Library.{mark_total, head_value, mark_at, read_library}
use Rattle.library.specs.Tests.{counts_causes}
use Rattle.library.specs.Sizes.{small}
use Rattle.loading.specs.Load.{head_causes}
use Rattle.loading.specs.ReadLaws.{head_d, head_b, head_n}

-- the numbers of dimensions and bits that the head holds
pub record ShapeOf (bytes : List ℕ) (d b : ℕ) : Type 0 where
  pub d_is : (read_library bytes).d ≡ d
  pub b_is : (read_library bytes).b ≡ b
  pub shape_passes : first (shape_causes d b) ≡ Ok tt

-- and that of vectors
pub record HeadOf (bytes : List ℕ) (d b n : ℕ) : Type 0 where
  pub of_shape : ShapeOf bytes d b
  pub n_is : (read_library bytes).n ≡ n
  pub few : n ≤ max_vectors
  pub counts_pass : first (counts_causes d b n) ≡ Ok tt

pub head_of : {d b n : ℕ} (bytes : List ℕ) → first (head_causes (read_library bytes) bytes) ≡ Ok tt → d ≡ head_value bytes 0
    → b ≡ head_value bytes 1 → n ≡ head_value bytes 2
    → HeadOf bytes d b n
unfolding read_library
head_of {d} {b} {n} bytes accepted d_is b_is n_is =
    let own = (both (frame_causes (eqb (kind_of bytes) head_kind) bytes) _ accepted).back in
    let passes : first (counts_causes d b n) ≡ Ok tt = rw (d_is, b_is, n_is) own in
    let counts = small d b n passes in
    record {
      of_shape = record { d_is = sym d_is; b_is = sym b_is; shape_passes = counts.shape_passes };
      n_is = sym n_is;
      few = counts.few;
      counts_pass = passes;
    }

pub marks_are : {d b : ℕ} (bytes : List ℕ) → ShapeOf bytes d b → (read_library bytes).marks ≡ tabulate (mark_total d b) (mark_at bytes)
unfolding read_library
marks_are bytes is = ap₂ (λ (d b : ℕ). tabulate (mark_total d b) (mark_at bytes)) is.d_is is.b_is

-- the causes of the head, by what its bytes hold
pub head_rows : {d b n : ℕ} (bytes : List ℕ) → d ≡ get_or bytes 1 0 → b ≡ get_or bytes 2 0 → n ≡ from_low_first 2 (drop 3 bytes)
    → head_causes (read_library bytes) bytes ≡ frame_causes (eqb (kind_of bytes) head_kind) bytes ++ counts_causes d b n
unfolding read_library
head_rows bytes d_is b_is n_is = rw (d_is, b_is, n_is, head_d bytes, head_b bytes, head_n bytes)
