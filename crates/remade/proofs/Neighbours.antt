-- A library remade has the neighbours that it had. Assumes nothing.
use Rattle.std.specs.Prelude.{◌≡◌}
use Rattle.std.proofs.Common.{sym, ◌∙◌}
use Prim.Native.Nat.{ℕ}
use Rattle.search.specs.Search.{Index, Query, searched}
use Rattle.search.specs.Theorems.{search_is_scan}
use Rattle.remade.specs.Remade.{FormerLibrary, remade}
use Rattle.remade.proofs.Kept.{remade_own}

module _ {l : Index} (old : FormerLibrary l) where
  -- 2. For every query, word and k the search's numbers and distances are the old ones.
  pub remade_neighbours : (query : Query) (k : ℕ) → (searched (remade l) query k).best ≡ (searched l query k).best
  remade_neighbours query k = search_is_scan (remade l) query k (remade_own old) ∙ sym (search_is_scan l query k old.own)
