-- What holds of a library that can be written: where writing accepts it, its values have room in their records. Assumes nothing.
use Rattle.std.specs.Prelude.{◌≡◌, true, ◌&&◌, ℕ, ◌*◌, ◌≤◌, ◌<◌, eqb, ℤ, pos, negsuc, length, Ok}
use Rattle.std.proofs.Math.Bool.{and-eq-true_iff}
use Rattle.std.proofs.Common.{arith, eqb-true, leb-true, SFits}
use Rattle.std.proofs.lemmas.Bool.{not-false}
use Rattle.std.specs.Int.{w16}
use Rattle.refusal.specs.declared.Refusal.TheVariants.{Count, Length, Component, Mark, Outside}
use Rattle.refusal.specs.First.{first, passed}
use Rattle.limits.specs.Limits.{max_vectors, is_vector_count, is_component}
use Rattle.limits.specs.Tests.{between}
use Rattle.signed.specs.Components.{are_components}
use Rattle.layout.specs.Stretch.{Shape, shape_causes, shape}
use Rattle.partition.specs.Marks.{good_marks}
use Rattle.records.specs.RowLaws.{both}
use Rattle.library.specs.EachLaws.{every_at}
use Rattle.library.specs.Library.{Library, mark_total, component_in, library_length}
use Rattle.library.specs.Tests.{inside}
use Rattle.writing.specs.Write.{exact_lengths, write_causes}

pub record Exact (l : Library) (room : ℕ) : Type 0 where
  pub marks_count : length l.marks ≡ mark_total l.d l.b
  pub settings_count : length l.settings ≡ l.n
  pub components_count : length l.components ≡ l.n * l.d
  pub bytes_count : room ≡ library_length l.d l.b l.n

pub exact : (l : Library) (room : ℕ) → exact_lengths l room ≡ true → Exact l room
exact l room holds =
    let bytes = eqb room (library_length l.d l.b l.n) in
    let components = eqb (length l.components) (l.n * l.d) in
    let settings = eqb (length l.settings) l.n in
    let marks = eqb (length l.marks) (mark_total l.d l.b) in
    let all = (and-eq-true_iff marks (settings && (components && bytes))).0 holds in
    let later = (and-eq-true_iff settings (components && bytes)).0 all.1 in
    let last = (and-eq-true_iff components bytes).0 later.1 in
    record {
      marks_count = eqb-true _ _ all.0;
      settings_count = eqb-true _ _ later.0;
      components_count = eqb-true _ _ last.0;
      bytes_count = eqb-true _ _ last.1;
    }

pub record Writable (l : Library) (room : ℕ) : Type 0 where
  pub shape_passes : first (shape_causes l.d l.b) ≡ Ok tt
  pub count_passes : is_vector_count l.n ≡ true
  pub shaped : Shape l.d l.b
  pub some : 1 ≤ l.n
  pub few : l.n ≤ max_vectors
  pub sizes : Exact l room
  pub components : are_components l.components ≡ true
  pub marks : good_marks l.d l.b l.marks ≡ true
  pub insides : (i : ℕ) → i < l.n → inside l.d l.b l.marks (component_in l i) ≡ true

pub writable : (l : Library) (room : ℕ) → first (write_causes l room) ≡ Ok tt → Writable l room
writable l room accepted =
    let parts = both (shape_causes l.d l.b) _ accepted in
    let count = passed _ Count _ parts.back in
    let lengths = passed _ Length _ count.rest in
    let components = passed _ Component _ lengths.rest in
    let marks = passed _ Mark _ components.rest in
    let insides = passed _ Outside _ marks.rest in
    let counted = not-false (is_vector_count l.n) count.fails in
    let range = between 1 l.n max_vectors counted in
    record {
      shape_passes = parts.front;
      count_passes = counted;
      shaped = shape l.d l.b parts.front;
      some = range.above;
      few = range.below;
      sizes = exact l room (not-false _ lengths.fails);
      components = not-false _ components.fails;
      marks = not-false _ marks.fails;
      insides = every_at l.n (λ i. inside l.d l.b l.marks (component_in l i)) (not-false _ insides.fails);
    }

-- and so has a component
pub component_fits : (z : ℤ) → is_component z ≡ true → SFits w16 z
component_fits (pos n) h = record { sfits = omega (arith, leb-true n 32767 h) }
component_fits (negsuc n) h =
    let low = ((and-eq-true_iff _ true).0 h).0 in
    record { sfits = omega (arith, leb-true n 32767 low) }
