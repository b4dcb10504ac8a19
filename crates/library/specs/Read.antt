-- The marks and the settings of the library that bytes begin with. Assumes nothing.
use Rattle.std.specs.Prelude.{◌≡◌, List, ℕ, ◌<◌, ℤ, pos, get_or}
use Rattle.std.proofs.Math.Path.{refl}
use Rattle.std.proofs.Common.{ap, ◌∙◌}
use Rattle.library.specs.Each.{tabulate}
use Rattle.library.specs.EachLaws.{tabulate_at}
use Rattle.library.specs.Library.{Library, mark_total, mark_at, settings_at, read_library}

module _ (bytes : List ℕ) where
  abbrev l : Library
  l = read_library bytes

  abbrev total : ℕ
  total = mark_total l.d l.b

  pub marks_read : l.marks ≡ tabulate total (mark_at bytes)
  unfolding read_library
  marks_read = refl

  pub mark_read : (i : ℕ) → i < total → get_or l.marks i (pos 0) ≡ mark_at bytes i
  mark_read i h = ap (λ (marks : List ℤ). get_or marks i (pos 0)) marks_read ∙ tabulate_at total (mark_at bytes) (pos 0) i h

  pub settings_read : l.settings ≡ tabulate l.n (settings_at total bytes)
  unfolding read_library
  settings_read = refl

  pub setting_read : (i : ℕ) → i < l.n → get_or l.settings i 0 ≡ settings_at total bytes i
  setting_read i h = ap (λ (settings : List ℕ). get_or settings i 0) settings_read ∙ tabulate_at l.n (settings_at total bytes) 0 i h
