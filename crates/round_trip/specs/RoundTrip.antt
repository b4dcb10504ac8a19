-- The two round trips of the library file: what was written loads to the same, what was loaded is written to the same bytes. That each
-- library has one encoding follows in proofs/OneEncoding.antt. Assumes nothing.
use Rattle.std.specs.Prelude.{◌≡◌, List, ◌++◌, ℕ, ◌^◌, ◌<◌, length, get_or, take, Ok}
use Rattle.std.proofs.Common.{sym}
use Rattle.refusal.specs.First.{first}
use Rattle.records.specs.Bytes.{AreBytes}
use Rattle.library.specs.Library.{Library, library_bytes, library_length, read_library}
use Rattle.loading.specs.Load.{marks_room, settings_room, components_room, load_causes}
use Rattle.loading.specs.Loadable.{records_pass}
use Rattle.writing.specs.Write.{write_causes}
use Rattle.writing.specs.Writable.{writable}
use Rattle.round_trip.specs.Places.{library_size}
use Rattle.round_trip.specs.ReadWritten.{read_written}
use Rattle.round_trip.specs.LoadWritten.{storable, load_passes}
use Rattle.round_trip.specs.WriteLoaded.{loaded_writable, written_loaded}

-- loading accepts the bytes, finds this library and uses so many of them
pub record Loads (bytes : List ℕ) (l : Library) (used : ℕ) : Type 0 where
  pub accepted : first (load_causes marks_room settings_room components_room bytes) ≡ Ok tt
  pub library : read_library bytes ≡ l
  pub length_is : library_length l.d l.b l.n ≡ used

-- What was written loads to the same, whatever follows; a settings number has 32 bits.
pub written_loads : (l : Library) (rest : List ℕ) → first (write_causes l (length (library_bytes l))) ≡ Ok tt
    → ((i : ℕ) → get_or l.settings i 0 < 2 ^ 32)
    → Loads (library_bytes l ++ rest) l (length (library_bytes l))
written_loads l rest accepted settings =
    let w = writable l (length (library_bytes l)) accepted in
    record {
      accepted = load_passes l (length (library_bytes l)) w settings rest;
      library = read_written l (storable l (length (library_bytes l)) w settings) rest;
      length_is = sym (library_size l);
    }

-- What was loaded can be written to as many bytes as were used, and gives the very bytes that were used.
pub record Writes (l : Library) (bytes : List ℕ) : Type 0 where
  pub accepted : first (write_causes l (length bytes)) ≡ Ok tt
  pub is : library_bytes l ≡ bytes

pub loaded_writes : (bytes : List ℕ) (l : Library) (used : ℕ) → AreBytes bytes → Loads bytes l used → Writes l (take used bytes)
loaded_writes bytes l used are loads =
    let rows = records_pass marks_room settings_room components_room bytes loads.accepted in
    let bytes-are : library_bytes l ≡ take used bytes = rw (← loads.length_is, ← loads.library) (written_loaded bytes are rows) in
    let writable = rw loads.library at (loaded_writable bytes rows) in
    record { accepted = rw (← bytes-are, library_size l) writable; is = bytes-are }
