use Rattle.std.proofs.Common.{sym}
use Rattle.refusal.specs.First.{handed_on}
use Rattle.search.specs.Ready.{index_of, query_of}
use Rattle.least_reading.specs.Searching.{searches_by, searches_none}
use Rattle.least_reading.specs.Turned.{tested_ready, own_accepted, own_refused}
use Rattle.least_reading.proofs.queries.search_tested.Goals as goal

pub search_ready-requires : goal.search_ready-requires
search_ready-requires c = (tested_ready c.requires.0 (sym c.in_ok-check_query.ensures), c.requires.1, c.requires.2)

pub returns : goal.returns
returns c =
    let a = c.args in
    let l = index_of a.terms a.marks.now a.codes.now a.vectors.now in
    searches_by (own_accepted l (query_of a.terms a.query.now) a.terms.k (sym c.in_ok-check_query.ensures)) c.search_ready.ensures

pub returns-in_err-check_query : goal.returns-in_err-check_query
returns-in_err-check_query c =
    let a = c.args in
    let l = index_of a.terms a.marks.now a.codes.now a.vectors.now in
    searches_none a.reads.now (own_refused l (query_of a.terms a.query.now) a.terms.k _ (sym c.in_err-check_query.ensures))
    (handed_on c.from_residual.ensures.1)
