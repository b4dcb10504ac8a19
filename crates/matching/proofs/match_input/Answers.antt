-- The text is that of the library's first cause, or of what follows the library. Assumes nothing.
use Rattle.std.proofs.Common.{sym, ◌∙◌}
use Rattle.matching.specs.Steps.{loaded_refused, loaded_holds}
use Rattle.text.specs.Puts.{puts_same}
use Rattle.matching.proofs.match_input.Goals as goal

pub match_loaded-requires-clause-holds_library : goal.match_loaded-requires-clause-holds_library
match_loaded-requires-clause-holds_library c =
    let rooms = c.requires.marks_len in
    let of = c.load.ensures in
    loaded_holds c.args.input.now rooms.0 rooms.1 rooms.2 (sym of.value ∙ c.in-Ok.is) _ _ _ of.marks_after of.settings_after of.components_after

pub returns-in-Err : goal.returns-in-Err
returns-in-Err c =
    let rooms = c.requires.marks_len in
    puts_same (sym (loaded_refused c.args.input.now rooms.0 rooms.1 rooms.2 (sym c.load.ensures.value ∙ c.in-Err.is))) c.put_refusal.ensures
