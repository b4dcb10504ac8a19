-- the three buffers with the queries before i answered
use Rattle.std.proofs.Common.{◌≡◌}
use Rattle.batch.specs.Batch.{batch_of}
use Rattle.least_reading.specs.Answering.{answers_after, entries_after, reads_after}
use Rattle.least_reading.proofs.queries.search_batch.Given as goal

abbrev pub invariant-loop-i : goal.invariant-loop-i
invariant-loop-i l =
    let batch = batch_of l.terms l.queries l.words l.marks l.codes l.vectors in
    let answers = l.initial.answers in
    let entries = l.initial.entries in
    let reads = l.initial.reads in
    (l.answers ≡ answers_after batch answers entries reads l.i)
    × (l.entries ≡ entries_after batch answers entries reads l.i)
    × (l.reads ≡ reads_after batch answers entries reads l.i)
