-- The text is that of k's first cause, or of what follows k. Assumes nothing.
use Rattle.std.proofs.Common.{◌≡◌, sym, ap, ap₂, ◌∙◌, ◌&&◌, List, ℕ, ◌-◌, leb, length, take, drop, Ok}
use borrow.Author.Rules.{part_to_end}
use Rattle.library.specs.Library.{Library, library_with}
use Rattle.refusal.specs.First.{first}
use Rattle.matching.specs.Match.{k_length, k_causes, k_of}
use Rattle.text.specs.Puts.{puts_same}
use Rattle.matching.specs.Steps.{rest_text, query_text, k_refused, k_passes, k_among, k_there}
use Rattle.matching.proofs.parts.match_rest.Goals as goal

-- k and the bytes behind it, where k passes
text_is : (l : Library) (rest : List ℕ) {k : ℕ} → first (k_causes l.n rest) ≡ Ok tt → k ≡ k_of rest
    → query_text l k (take (length rest - k_length) (drop k_length rest)) ≡ rest_text l rest
text_is l rest accepted is = ap₂ (λ (k : ℕ) (bytes : List ℕ). query_text l k bytes) is (part_to_end rest k_length) ∙ sym (k_passes l rest accepted)

pub slice_bounds-match_query-count : goal.slice_bounds-match_query-count
slice_bounds-match_query-count c = k_there c.args.n c.args.rest.now (sym c.check_k.ensures ∙ c.in-Ok.is)

pub slice_bounds-match_query-start : goal.slice_bounds-match_query-start
slice_bounds-match_query-start c = k_there c.args.n c.args.rest.now (sym c.check_k.ensures ∙ c.in-Ok.is)

pub match_query-requires-clause-ready : goal.match_query-requires-clause-ready
match_query-requires-clause-ready c =
    let accepted = sym c.check_k.ensures ∙ c.in-Ok.is in
    (c.requires.ready, ap (λ (k : ℕ). leb 1 k && leb k c.args.n) c.u16_at-k.ensures ∙ k_among c.args.n c.args.rest.now accepted)

pub match_query-requires-clause-bytes_in_bounds : goal.match_query-requires-clause-bytes_in_bounds
match_query-requires-clause-bytes_in_bounds c =
    let a = c.args in
    let l = library_with a.d a.b a.n a.marks.now a.settings.now a.components.now in
    rw (text_is l a.rest.now (sym c.check_k.ensures ∙ c.in-Ok.is) c.u16_at-k.ensures) c.requires.rest_in_bounds

pub returns-in-Ok : goal.returns-in-Ok
returns-in-Ok c =
    let a = c.args in
    let l = library_with a.d a.b a.n a.marks.now a.settings.now a.components.now in
    puts_same (text_is l a.rest.now (sym c.check_k.ensures ∙ c.in-Ok.is) c.u16_at-k.ensures) c.match_query.ensures

pub returns-in-Err : goal.returns-in-Err
returns-in-Err c =
    let a = c.args in
    let l = library_with a.d a.b a.n a.marks.now a.settings.now a.components.now in
    puts_same (sym (k_refused l a.rest.now (sym c.check_k.ensures ∙ c.in-Err.is))) c.put_refusal.ensures
