-- What holds where loading accepts: the buffers have their lengths, the head passes, and all of the library is there. Assumes nothing.
use Rattle.std.specs.Prelude.{◌≡◌, ◌&&◌, List, ℕ, ◌≤◌, eqb, length, Ok}
use Rattle.std.proofs.Math.Bool.{and-eq-true_iff}
use Rattle.std.proofs.Common.{eqb-true}
use Rattle.std.proofs.lemmas.Bool.{not-false}
use Rattle.refusal.specs.declared.Refusal.TheVariants.{Length}
use Rattle.refusal.specs.First.{first, passed}
use Rattle.library.specs.Library.{library_length, read_library}
use Rattle.loading.specs.Load.{marks_room, settings_room, components_room, head_causes, records_causes, load_causes}
use Rattle.loading.specs.Loaded.{passes, loaded_within}

pub records_pass : (marks settings components : ℕ) (bytes : List ℕ) → first (load_causes marks settings components bytes) ≡ Ok tt
    → first (records_causes (read_library bytes) bytes) ≡ Ok tt
unfolding load_causes
records_pass marks settings components bytes accepted = (passed _ Length _ accepted).rest

pub record Loadable (marks settings components : ℕ) (bytes : List ℕ) : Type 0 where
  pub marks_count : marks ≡ marks_room
  pub settings_count : settings ≡ settings_room
  pub components_count : components ≡ components_room
  pub head_passes : first (head_causes (read_library bytes) bytes) ≡ Ok tt
  pub whole : library_length (read_library bytes).d (read_library bytes).b (read_library bytes).n ≤ length bytes

pub loadable : (marks settings components : ℕ) (bytes : List ℕ) → first (load_causes marks settings components bytes) ≡ Ok tt
    → Loadable marks settings components bytes
unfolding load_causes
loadable marks settings components bytes accepted =
    let lengths = passed _ Length _ accepted in
    let all =
    (and-eq-true_iff (eqb marks marks_room) (eqb settings settings_room && eqb components components_room)).0 (not-false _ lengths.fails) in
    let later = (and-eq-true_iff (eqb settings settings_room) (eqb components components_room)).0 all.1 in
    record {
      marks_count = eqb-true _ _ all.0;
      settings_count = eqb-true _ _ later.0;
      components_count = eqb-true _ _ later.1;
      head_passes = (passes bytes (read_library bytes) lengths.rest).head;
      whole = loaded_within bytes lengths.rest;
    }
