-- the settings so far are read
use Rattle.std.proofs.Common.{◌≡◌, take}
use Rattle.library.specs.Each.{tabulate}
use Rattle.library.specs.Library.{settings_at}
use Rattle.loading.proofs.fill.fill_settings.Given as goal

abbrev pub invariant-loop-i : goal.invariant-loop-i
invariant-loop-i l = take l.i l.setting-items ≡ tabulate l.i (settings_at l.m l.bytes)
