use Rattle.std.proofs.Math.Path.{subst⁻¹}
use Rattle.std.proofs.Common.{◌≡◌, ap, sym, ◌∙◌, subst, ℕ, ◌+◌, ◌-◌, ◌*◌, ◌≤◌, ◌<◌, List, length, take, drop, get_or, arith, Ok, Result}
use borrow.Rule.Slice.PartMut.{mid_of, put_mid, mid_len}
use Rattle.refusal.specs.declared.Refusal.{Refusal}
use Rattle.refusal.specs.First.{first, handed_on, outcome_accepted, outcome_refused}
use Rattle.entries.specs.declared.Entry.{Entry}
use Rattle.entries.specs.Entries.{entries_of}
use Rattle.entries.specs.EntryLaws.{entries_length}
use Rattle.entries.specs.Filled.{filled, fitting}
use Rattle.search.specs.declared.Found.{Found}
use Rattle.search.specs.Accepted.{best_size, best_few}
use Rattle.search.specs.Search.{Query, searched}
use Rattle.batch.specs.Parts.{with_part}
use Rattle.batch.specs.PartLaws.{part_ends}
use Rattle.batch.specs.Batch.{Batch, batch_of, library_in, query_in, part_room, verdict_in, reads_in}
use Rattle.batch.specs.Accepted.{Batched, own_causes_lem, query_ready}
use Rattle.least_reading.specs.Answering.{part_filled, part_kept}
use Rattle.least_reading.specs.Searching.{Searches, searches_by, tells_found, tells_cause}
use Rattle.least_reading.specs.Turned.{Tested, own_causes}
use Rattle.least_reading.specs.Unpacked.{front_unpacked}
use Rattle.least_reading.proofs.queries.answer_query.Goals as goal

-- an end less its start
size : (o n : ℕ) → o + n - o ≡ n
size o n = omega arith

module _ (batch : Batch) (is : Batched batch) (i : ℕ) (below : i < batch.terms.m) where
  -- the query, by its part's end
  abbrev asked : ℕ → Query
  asked e = record { components = take e (drop (i * batch.terms.d) batch.queries); word = get_or batch.words i 0 }

  tested : Tested (library_in batch) (asked (i * batch.terms.d + batch.terms.d - i * batch.terms.d)) batch.terms.k
  tested =
      subst⁻¹ (λ (e : ℕ). Tested (library_in batch) (asked e) batch.terms.k) (size (i * batch.terms.d) batch.terms.d)
      (record { ready = query_ready is i below })

  -- what the search of the part tells of the query
  abbrev Tells : Result Found Refusal → List ℕ → List ℕ → ℕ → Type 0
  Tells r part last e =
      Searches (first (own_causes (library_in batch) (asked e) batch.terms.k)) (library_in batch) (asked e) batch.terms.k r part last

  told : {r : Result Found Refusal} {part last : List ℕ} → Tells r part last (i * batch.terms.d + batch.terms.d - i * batch.terms.d)
      → Searches (verdict_in batch i) (library_in batch) (query_in batch i) batch.terms.k r part last
  told {r} {part} {last} searches =
      searches_by (own_causes_lem is i below) (subst (Tells r part last) (size (i * batch.terms.d) batch.terms.d) searches)

  -- the read list in its part
  put : (reads : List ℕ) {last : List ℕ}
      → let place = i * batch.terms.n in last ≡ reads_in batch i (mid_of place (place + batch.terms.n - place) reads)
      → put_mid place (place + batch.terms.n - place) reads last
      ≡ put_mid place batch.terms.n reads (reads_in batch i (mid_of place batch.terms.n reads))
  put reads are =
      let place = i * batch.terms.n in
      ap (put_mid place (place + batch.terms.n - place) reads) are
      ∙ ap (λ (e : ℕ). put_mid place e reads (reads_in batch i (mid_of place e reads))) (size place batch.terms.n)

pub search_tested-requires : goal.search_tested-requires
search_tested-requires c =
    let a = c.args in
    let place = a.i * a.terms.n in
    let batch = batch_of a.terms a.queries.now a.words.now a.marks.now a.codes.now a.vectors.now in
    let ends : place + a.terms.n ≤ length a.reads.now = omega (arith, part_ends a.terms.n a.terms.m a.i c.requires.1, c.requires.3) in (
      tested batch c.requires.0 a.i c.requires.1,
      mid_len place (place + a.terms.n) a.reads.now ends ∙ size place a.terms.n,
      front_unpacked c.requires.0 c.requires.4,
    )

pub returns : goal.returns
returns c =
    let a = c.args in
    let t = a.terms in
    let k = t.k in
    let entries = a.entries.now in
    let batch = batch_of t a.queries.now a.words.now a.marks.now a.codes.now a.vectors.now in
    let l = library_in batch in
    let q = query_in batch a.i in
    let searches = told batch c.requires.0 a.i c.requires.1 c.in_ok-found.ensures in
    let found = tells_found searches in
    let best = entries_of (searched l q k).best in
    let of_best = entries_length (searched l q k).best ∙ best_size l q k (part_room batch) found.accepted in
    record {
      answer_is = ap (λ (f : Found). Ok f.count) found.is ∙ sym (outcome_accepted _ _ found.accepted);
      entries_are = c.fill.ensures
          ∙ ap (λ (f : Found). filled f.entries entries (a.i * k) (fitting (length entries) (a.i * k) k)) found.is
          ∙ part_filled k t.m a.i c.requires.1 entries c.requires.2 best of_best (best_few l q k (part_room batch) found.accepted)
          ∙ ap (λ (part : List Entry). with_part k a.i part entries) (sym (outcome_accepted _ _ found.accepted));
      reads_are = put batch c.requires.0 a.i c.requires.1 a.reads.now searches.reads_are;
    }

pub returns-in_err-found : goal.returns-in_err-found
returns-in_err-found c =
    let a = c.args in
    let entries = a.entries.now in
    let batch = batch_of a.terms a.queries.now a.words.now a.marks.now a.codes.now a.vectors.now in
    let searches = told batch c.requires.0 a.i c.requires.1 c.in_err-found.ensures in
    let refused = tells_cause searches in
    record {
      answer_is = handed_on c.from_residual.ensures.1 ∙ sym (outcome_refused _ _ refused);
      entries_are = part_kept a.terms.k a.i entries
          ∙ ap (λ (part : List Entry). with_part a.terms.k a.i part entries) (sym (outcome_refused _ _ refused));
      reads_are = put batch c.requires.0 a.i c.requires.1 a.reads.now searches.reads_are;
    }
