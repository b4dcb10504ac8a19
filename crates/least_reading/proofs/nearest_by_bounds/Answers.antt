use Rattle.std.proofs.Common.{sym, length}
use Rattle.refusal.specs.First.{handed_on}
use Rattle.search.specs.Ready.{index_of, query_of, room_of, entered}
use Rattle.least_reading.specs.Searching.{behind_entry, searches_by, searches_none, refused_at_entry}
use Rattle.least_reading.proofs.nearest_by_bounds.Goals as goal

pub search_ready-requires : goal.search_ready-requires
search_ready-requires c =
    let a = c.args in
    let l = index_of a.terms a.marks.now a.codes.now a.vectors.now in
    let room = room_of a.entries (length a.reads.now) in
    let is = entered l (query_of a.terms a.query.now) a.terms.k room (sym c.in_ok-check_entry.ensures) in
    (is.ready, is.of_reads, tt)

pub returns : goal.returns
returns c =
    let a = c.args in
    let l = index_of a.terms a.marks.now a.codes.now a.vectors.now in
    let room = room_of a.entries (length a.reads.now) in
    searches_by (behind_entry l (query_of a.terms a.query.now) a.terms.k room (sym c.in_ok-check_entry.ensures)) c.search_ready.ensures

pub returns-in_err-check_entry : goal.returns-in_err-check_entry
returns-in_err-check_entry c =
    let a = c.args in
    let l = index_of a.terms a.marks.now a.codes.now a.vectors.now in
    let room = room_of a.entries (length a.reads.now) in
    searches_none a.reads.now
    (refused_at_entry l (query_of a.terms a.query.now) a.terms.k room _ (sym c.in_err-check_entry.ensures))
    (handed_on c.from_residual.ensures.1)
