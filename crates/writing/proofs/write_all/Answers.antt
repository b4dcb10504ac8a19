-- `write_all` meets its contract: the records one behind the other fill the buffer. Assumes nothing.
use Rattle.std.specs.Prelude.{Ok}
use Rattle.std.proofs.Common.{◌≡◌, true, sym, ap, ◌∙◌, List, ℕ, ◌+◌, ◌*◌, ◌≤◌, ℤ, length, arith}
use Rattle.std.proofs.lemmas.List.{take_all}
use Rattle.refusal.specs.First.{first}
use Rattle.limits.specs.Limits.{max_dimensions, max_vectors}
use Rattle.signed.specs.Components.{are_components}
use Rattle.library.specs.Library.{library_with, mark_total, mark_place, vector_place, library_bytes}
use Rattle.library.specs.Sizes.{mark_place_lem, vector_place_lem, library_length_lem, marks_few}
use Rattle.writing.specs.Write.{write_causes}
use Rattle.writing.specs.Writable.{writable}
use Rattle.writing.specs.WriteLaws.{end_part}
use Rattle.writing.proofs.write_all.Goals as goal

-- the sizes of a library that can be written
record Fitting (d b n : ℕ) (marks : List ℤ) (settings : List ℕ) (components : List ℤ) (room : ℕ) : Type 0 where
  few_dimensions : d ≤ max_dimensions
  few : n ≤ max_vectors
  few_marks : length marks ≤ 2080
  marks_count : length marks ≡ mark_total d b
  settings_count : length settings ≡ n
  components_count : length components ≡ n * d
  of_components : are_components components ≡ true
  whole : room ≡ 5 + length marks * 5 + n * 69 + 1

fitting : (d b n : ℕ) (marks : List ℤ) (settings : List ℕ) (components : List ℤ) (room : ℕ)
    → first (write_causes (library_with d b n marks settings components) room) ≡ Ok tt
    → Fitting d b n marks settings components room
fitting d b n marks settings components room accepted =
    let can = writable (library_with d b n marks settings components) room accepted in
    let count : length marks ≡ mark_total d b = can.sizes.marks_count in
    record {
      few_dimensions = can.shaped.few;
      few = can.few;
      few_marks = rw count (marks_few d b can.shaped);
      marks_count = count;
      settings_count = can.sizes.settings_count;
      components_count = can.sizes.components_count;
      of_components = can.components;
      whole = can.sizes.bytes_count ∙ library_length_lem d b n ∙ ap (λ (m : ℕ). 5 + m * 5 + n * 69 + 1) (sym count);
    }

pub write_head-requires : goal.write_head-requires
write_head-requires c =
    let fits =
    fitting c.args.layout.d c.args.layout.b c.args.n c.args.marks.now c.args.settings.now c.args.components.now (length c.args.bytes.now)
    c.requires in
    rw (mark_place_lem 0) (omega (arith, fits.whole))

pub write_marks-requires : goal.write_marks-requires
write_marks-requires c =
    let fits =
    fitting c.args.layout.d c.args.layout.b c.args.n c.args.marks.now c.args.settings.now c.args.components.now (length c.args.bytes.now)
    c.requires in
    (omega (arith, fits.few_marks), rw (mark_place_lem (length c.args.marks.now)) (omega (arith, fits.whole)))

pub write_vectors-requires : goal.write_vectors-requires
write_vectors-requires c =
    let fits =
    fitting c.args.layout.d c.args.layout.b c.args.n c.args.marks.now c.args.settings.now c.args.components.now (length c.args.bytes.now)
    c.requires in
    record {
      few_dimensions = fits.few_dimensions;
      few = fits.few;
      few_marks = fits.few_marks;
      settings_count = fits.settings_count;
      components_count = fits.components_count;
      of_components = fits.of_components;
      fits = rw (vector_place_lem (length c.args.marks.now) c.args.n) (omega (arith, fits.whole));
    }

pub overflow_cast-marks : goal.overflow_cast-marks
overflow_cast-marks c =
    let fits =
    fitting c.args.layout.d c.args.layout.b c.args.n c.args.marks.now c.args.settings.now c.args.components.now (length c.args.bytes.now)
    c.requires in
    omega (arith, fits.few_marks)

pub overflow_cast-n : goal.overflow_cast-n
overflow_cast-n c =
    let fits =
    fitting c.args.layout.d c.args.layout.b c.args.n c.args.marks.now c.args.settings.now c.args.components.now (length c.args.bytes.now)
    c.requires in
    omega (arith, fits.few)

pub put_byte-requires : goal.put_byte-requires
put_byte-requires c =
    let fits =
    fitting c.args.layout.d c.args.layout.b c.args.n c.args.marks.now c.args.settings.now c.args.components.now (length c.args.bytes.now)
    c.requires in
    omega (arith, c.vector_place.ensures, vector_place_lem (length c.args.marks.now) c.args.n, fits.whole)

pub returns : goal.returns
unfolding library_bytes
returns c =
    let m = length c.args.marks.now in
    let fits =
    fitting c.args.layout.d c.args.layout.b c.args.n c.args.marks.now c.args.settings.now c.args.components.now (length c.args.bytes.now)
    c.requires in
    let full : c.vector_place.result + 1 ≡ length c.put_byte.new.bytes =
    omega (arith, c.vector_place.ensures, vector_place_lem m c.args.n, fits.whole) in
    let from : vector_place m 0 ≡ mark_place m = omega (arith, vector_place_lem m 0, mark_place_lem m) in
    let filled = rw full at c.put_byte.ensures in
    sym (take_all (length c.put_byte.new.bytes) c.put_byte.new.bytes (omega arith))
    ∙ filled
    ∙ rw (
      c.vector_place.ensures,
      c.write_vectors.ensures,
      from,
      c.write_marks.ensures,
      c.write_head.ensures,
      fits.marks_count,
      end_part,
    )
