-- The codes that packing gives for a library whose records pass are its vectors' own. Assumes nothing.
use Rattle.std.specs.Prelude.{◌≡◌, true, List, ℕ, suc, ◌*◌, ◌/◌, ◌%◌, ◌<◌, Ok}
use Rattle.std.proofs.Common.{zero-add, mod-lt, div-lt_iff_lt-mul}
use Rattle.std.proofs.Math.Nat.{zero-mod}
use Rattle.refusal.specs.First.{first}
use Rattle.region.specs.Region.{in_marks}
use Rattle.partition.specs.Marks.{dimension_marks}
use Rattle.approximation.specs.Vectors.{vectors_inside, vector_codes}
use Rattle.cells.specs.Cells.{Own}
use Rattle.approximation.specs.OwnCodes.{inside_from_lem, own_codes}
use Rattle.library.specs.EachLaws.{every_at}
use Rattle.library.specs.Library.{Library, mark_total, component_at, read_library}
use Rattle.library.specs.Tests.{inside}
use Rattle.loading.specs.Load.{records_causes as library_causes}
use Rattle.loading.specs.Loaded.{shaped, components_count, component_at_lem, vector_inside}

module _ (bytes : List ℕ) (accepted : first (library_causes (read_library bytes) bytes) ≡ Ok tt) where
  abbrev l : Library
  l = read_library bytes

  component_inside : (i t : ℕ) → i < l.n → t < l.d
      → in_marks (dimension_marks l.d l.b l.marks (suc t)) (component_at (mark_total l.d l.b) bytes i t) ≡ true
  unfolding inside
  component_inside i t h k =
      every_at l.d (λ t. in_marks (dimension_marks l.d l.b l.marks (suc t)) (component_at (mark_total l.d l.b) bytes i t))
      (vector_inside bytes accepted i h) t k

  pub packed_inside : vectors_inside l.d l.b l.marks l.components ≡ true
  packed_inside =
      let some = (shaped bytes accepted).some in
      rw zero-mod at
      (inside_from_lem l.d l.b some l.marks 0 l.components
      (λ q h.
      let within : q < l.n * l.d = rw (components_count bytes accepted) at h in
      rw (zero-add q, component_at_lem bytes accepted q within)
      (component_inside (q / l.d) (q % l.d) ((div-lt_iff_lt-mul some).1 within) (mod-lt q some))))

  pub packed_own : Own l.d l.b l.n l.marks (vector_codes l.d l.b l.n l.marks l.components) l.components
  packed_own =
      own_codes l.d l.b l.n (shaped bytes accepted).some l.marks l.components
      (components_count bytes accepted) packed_inside
