-- `answer_coded` meets its contract: nothing refuses the search, and the entries that it found are those of the best pairs.
-- Assumes nothing.
use Rattle.std.specs.Prelude.{Result, Ok, is_ok}
use Rattle.std.proofs.Common.{◌≡◌, ◌≢◌, sym, ap, true, false, subst, ◌∙◌, List, ℕ, ◌≤◌, length, take}
use Rattle.std.proofs.lemmas.List.{length-take-le}
use Rattle.refusal.specs.declared.Refusal.{Refusal}
use Rattle.refusal.specs.Refusal.{Verdict}
use Rattle.refusal.specs.First.{first, outcome_accepted}
use Rattle.limits.specs.Limits.{max_vectors, max_neighbours}
use Rattle.limits.specs.Tests.{between, neighbours}
use Rattle.order.specs.Pair.{Pair}
use Rattle.order.specs.Members.{◌∈◌}
use Rattle.search.specs.declared.Found.{Found}
use Rattle.search.specs.Search.{Index, Query, Room, searched, search_causes}
use Rattle.search.specs.Ready.{index_of, query_of, room_of}
use Rattle.search.specs.Accepted.{passes}
use Rattle.least_reading.specs.Searching.{Searches, tells_found, found_front}
use Rattle.text.specs.Puts.{puts_same}
use Rattle.matching.specs.Answer.{lines_of, answer_lines}
use Rattle.matching.specs.Lines.{pairs_in, pairs_back, Listed, best_below}
use Rattle.matching.proofs.answer.answer_coded.Goals as goal

-- what a search that nothing refuses is given
record Few (n k : ℕ) : Type 0 where
  vectors : n ≤ max_vectors
  entries : k ≤ max_neighbours

few : (l : Index) (query : Query) (k : ℕ) (room : Room) → first (search_causes l query k room) ≡ Ok tt → Few l.n k
few l query k room accepted =
    let is = passes l query k room accepted in
    record { vectors = (between 1 l.n max_vectors is.count).below; entries = (neighbours l.n k is.count is.neighbours).few }

-- a search that nothing refuses gives something
answers : (l : Index) (query : Query) (k n reads : ℕ) {r : Result Found Refusal} {old new : List ℕ}
    → first (search_causes l query k (room_of k n)) ≡ Ok tt → reads ≡ n
    → Searches (first (search_causes l query k (room_of k reads))) l query k r old new → is_ok r ≡ true
answers l query k n reads accepted same searches =
    let held : first (search_causes l query k (room_of k reads)) ≡ Ok tt = rw same accepted in
    ap is_ok (searches.found ∙ outcome_accepted _ _ held)

-- a search that gave this
given : {v : Verdict} {l : Index} {query : Query} {k : ℕ} {r : Result Found Refusal} {f : Found} {old new : List ℕ} → r ≡ Ok f
    → Searches v l query k r old new → Searches v l query k (Ok f) old new
given {v} {l} {query} {k} {r} {f} {old} {new} is searches = subst (λ (r : Result Found Refusal). Searches v l query k r old new) is searches

no_answer : true ≢ false
no_answer e = cc

-- the lines of what was found, and that its numbers are those of settings
module _ (l : Index) (query : Query) (k n reads : ℕ) {f : Found} {old new : List ℕ}
    (accepted : first (search_causes l query k (room_of k n)) ≡ Ok tt) (same : reads ≡ n)
    (found : Searches (first (search_causes l query k (room_of k reads))) l query k (Ok f) old new) where
  held : first (search_causes l query k (room_of k reads)) ≡ Ok tt
  held = rw same accepted

  pairs_are : pairs_in (take k f.entries) ≡ (searched l query k).best
  pairs_are = ap pairs_in (found_front l query k (room_of k reads) held found) ∙ pairs_back (searched l query k).best

  lines_are : (settings : List ℕ) → lines_of settings k f.count (pairs_in (take k f.entries)) ≡ answer_lines settings k (searched l query k)
  lines_are settings = rw (ap (λ (it : Found). it.count) (tells_found found).is, pairs_are)

  listed : (settings : List ℕ) → k ≤ max_neighbours → length settings ≡ l.n → Listed k settings f.entries
  listed settings small named = record {
    few = small;
    named = λ p m. rw named (best_below l query k p (subst (λ (ps : List Pair). p ∈ ps) pairs_are m));
  }

pub slice_bounds-reads-end : goal.slice_bounds-reads-end
slice_bounds-reads-end c =
    let terms = c.args.terms in
    let l = index_of terms c.args.marks.now c.args.codes.now c.args.components.now in
    let query = query_of terms c.args.query.now in
    let fits = few l query terms.k (room_of terms.k terms.n) c.requires.n_value in
    fits.vectors

pub slice_bounds-nearest_by_bounds-end : goal.slice_bounds-nearest_by_bounds-end
slice_bounds-nearest_by_bounds-end c =
    let terms = c.args.terms in
    let l = index_of terms c.args.marks.now c.args.codes.now c.args.components.now in
    let query = query_of terms c.args.query.now in
    let fits = few l query terms.k (room_of terms.k terms.n) c.requires.n_value in
    sym (length-take-le _ _ fits.vectors)

pub put_answer-requires-clause-listed : goal.put_answer-requires-clause-listed
put_answer-requires-clause-listed c =
    let terms = c.args.terms in
    let l = index_of terms c.args.marks.now c.args.codes.now c.args.components.now in
    let query = query_of terms c.args.query.now in
    let fits = few l query terms.k (room_of terms.k terms.n) c.requires.n_value in
    listed l query terms.k terms.n _ c.requires.n_value (length-take-le _ _ fits.vectors)
    (given c.in-Ok.is c.nearest_by_bounds.ensures)
    c.args.settings.now
    fits.entries
    c.requires.settings_len

pub put_answer-requires-clause-entries_in_bounds : goal.put_answer-requires-clause-entries_in_bounds
put_answer-requires-clause-entries_in_bounds c =
    let terms = c.args.terms in
    let l = index_of terms c.args.marks.now c.args.codes.now c.args.components.now in
    let query = query_of terms c.args.query.now in
    let fits = few l query terms.k (room_of terms.k terms.n) c.requires.n_value in
    rw (lines_are l query terms.k terms.n _ c.requires.n_value (length-take-le _ _ fits.vectors)
    (given c.in-Ok.is c.nearest_by_bounds.ensures)
    c.args.settings.now)
    c.requires.k_in_bounds

pub returns-in-Ok : goal.returns-in-Ok
returns-in-Ok c =
    let terms = c.args.terms in
    let l = index_of terms c.args.marks.now c.args.codes.now c.args.components.now in
    let query = query_of terms c.args.query.now in
    let fits = few l query terms.k (room_of terms.k terms.n) c.requires.n_value in
    puts_same (lines_are l query terms.k terms.n _ c.requires.n_value (length-take-le _ _ fits.vectors)
    (given c.in-Ok.is c.nearest_by_bounds.ensures)
    c.args.settings.now)
    c.put_answer.ensures

pub returns-in-Err : goal.returns-in-Err
returns-in-Err c =
    let terms = c.args.terms in
    let l = index_of terms c.args.marks.now c.args.codes.now c.args.components.now in
    let query = query_of terms c.args.query.now in
    let fits = few l query terms.k (room_of terms.k terms.n) c.requires.n_value in
    let some = answers l query terms.k terms.n _ c.requires.n_value (length-take-le _ _ fits.vectors) c.nearest_by_bounds.ensures in
    absurd (no_answer (sym some ∙ ap is_ok c.in-Err.is))
