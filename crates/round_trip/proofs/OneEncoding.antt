-- Each library has one encoding, by the second round trip. Assumes nothing.
use Rattle.std.specs.Prelude.{◌≡◌, List, ℕ, take}
use Rattle.std.proofs.Common.{sym, ◌∙◌}
use Rattle.records.specs.Bytes.{AreBytes}
use Rattle.library.specs.Library.{Library}
use Rattle.round_trip.specs.RoundTrip.{Loads, loaded_writes}

-- So each library has one encoding: two inputs that load to it used the same bytes.
pub one_encoding : (bytes others : List ℕ) (l : Library) (used used' : ℕ) → AreBytes bytes → AreBytes others → Loads bytes l used
    → Loads others l used'
    → take used bytes ≡ take used' others
one_encoding bytes others l used used' are are' loads loads' =
    sym (loaded_writes bytes l used are loads).is ∙ (loaded_writes others l used' are' loads').is
