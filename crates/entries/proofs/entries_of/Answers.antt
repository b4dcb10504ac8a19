use Rattle.std.proofs.Common.{sym, ◌∙◌, arith}
use Rattle.order.specs.Pairs.{pairs_of, pairs_length}
use Rattle.entries.specs.Entries.{entries_of}
use Rattle.entries.specs.EntryLaws.{entries_length, entry_at, array_none, array_next, array_all}
use Rattle.entries.proofs.entries_of.Goals as goal

pub loop-i-init : goal.loop-i-init
loop-i-init c = sym array_none

pub loop-i-preserved : goal.loop-i-preserved
loop-i-preserved c =
    let keys = c.args.keys.now in
    let numbers = c.args.numbers.now in
    let long = entries_length (pairs_of keys numbers) ∙ pairs_length keys numbers in
    rw (c.loop-i.invariant, ← entry_at keys numbers c.loop-i.i (omega arith))
    (array_next (entries_of (pairs_of keys numbers)) c.loop-i.i (omega (arith, long)))

pub returns : goal.returns
returns c =
    let keys = c.args.keys.now in
    let numbers = c.args.numbers.now in
    let long = entries_length (pairs_of keys numbers) ∙ pairs_length keys numbers in
    c.loop-i.invariant ∙ array_all (entries_of (pairs_of keys numbers)) c.loop-i.i (omega (arith, long))
