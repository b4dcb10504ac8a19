-- `put_entries` meets its contract: a turn lists one entry. Assumes nothing.
use Rattle.std.proofs.Common.{length, take, arith}
use Rattle.text.specs.Puts.{part_puts}
use Rattle.matching.specs.Lines.{number_below}
use Rattle.matching.proofs.Listing.{line_room, lines_more, lines_end}
use Rattle.matching.proofs.lines.put_entries.Goals as goal

pub bounds-settings-number : goal.bounds-settings-number
bounds-settings-number c =
    number_below (length c.args.settings.now) (take c.args.k c.args.entries) (record { number = 0; distance = 0 })
    c.requires.listed.named
    c.loop-entry.entry-index
    c.loop-entry-test.true

pub overflow_add-next : goal.overflow_add-next
overflow_add-next c =
    let room = line_room c.loop-entry.invariant c.loop-entry-test.true c.requires.entries_in_bounds in
    let long = rw (c.from.ensures, c.from-in-loop-entry.ensures) at c.put_three-length.ensures.value in
    omega (arith, room, long)

pub loop-entry-preserved : goal.loop-entry-preserved
loop-entry-preserved c =
    let room = line_room c.loop-entry.invariant c.loop-entry-test.true c.requires.entries_in_bounds in
    let long = rw (c.from.ensures, c.from-in-loop-entry.ensures) at c.put_three-length.ensures.value in
    let text = rw (c.from.ensures, c.from-in-loop-entry.ensures) at c.put_three-length.ensures.text_after in
    lines_more c.loop-entry.invariant c.loop-entry-test.true (part_puts c.loop-entry.text (omega (arith, room)) long text)

pub returns : goal.returns
returns c = lines_end c.loop-entry.invariant (omega arith)
