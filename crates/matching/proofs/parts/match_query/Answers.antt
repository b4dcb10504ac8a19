-- The text is that of the query's first cause, or of the answer. Assumes nothing.
use Rattle.std.proofs.Common.{◌≡◌, sym, ap, ap₂, ◌∙◌, true, ◌&&◌, List, ℕ, leb, ℤ, length, Ok, Err}
use Rattle.std.proofs.lemmas.List.{length-take-le}
use Rattle.refusal.specs.declared.Refusal.{Refusal}
use Rattle.refusal.specs.Refusal.{Verdict}
use Rattle.refusal.specs.First.{first, outcome, outcome_accepted, outcome_refused}
use Rattle.limits.specs.Limits.{max_dimensions, is_dimension_count}
use Rattle.limits.specs.Tests.{between}
use Rattle.presence.specs.Presence.{word_causes}
use Rattle.signed.specs.Components.{are_components}
use Rattle.library.specs.Library.{Library, library_with}
use Rattle.query.specs.Query.{present_causes_of, present_query_causes, components_of, word_of}
use Rattle.query.specs.QueryLaws.{answer_accepted, answer_refused, components_length, present_components}
use Rattle.query.specs.WordLaws.{word_passes}
use Rattle.search.specs.Search.{Query, search_causes}
use Rattle.search.specs.Ready.{room_of}
use Rattle.matching.specs.Answer.{searchable, refused_text, answer_text}
use Rattle.order.proofs.Prefix.{back_within, shared_is}
use Rattle.text.specs.Puts.{puts_same}
use Rattle.matching.specs.Steps.{Ready, query_text, ready_dimensions, query_rows}
use Rattle.matching.proofs.parts.match_query.Goals as goal

-- a query that passes: the components that were shared, and its word
record Asked (d word : ℕ) (bytes : List ℕ) (components : List ℤ) : Type 0 where
  pub passes : first (present_causes_of d bytes) ≡ Ok tt
  pub components_are : components ≡ components_of d bytes
  pub word_is : word ≡ word_of d bytes

-- the verdict of the call is that of the query's records
module _ (d : ℕ) (bytes : List ℕ) (shared : List ℤ) (dimensions : is_dimension_count d ≡ true) (size : length shared ≡ d) where
  abbrev v : Verdict
  v = first (present_query_causes d (length shared) bytes)

  verdict_is : v ≡ first (present_causes_of d bytes)
  verdict_is = query_rows d (length shared) bytes dimensions size

  asked : {word : ℕ} {back components : List ℤ} → Ok word ≡ outcome v (Ok (word_of d bytes)) Err
      → back ≡ outcome v (components_of d bytes) (λ _. shared) → components ≡ back → Asked d word bytes components
  asked answer left are =
      let told = answer_accepted v (word_of d bytes) (sym answer) in
      record {
        passes = sym verdict_is ∙ told.0;
        components_are = are ∙ left ∙ outcome_accepted _ _ told.0;
        word_is = sym told.1;
      }

  refused_is : {cause : Refusal} → Err cause ≡ outcome v (Ok (word_of d bytes)) Err → first (present_causes_of d bytes) ≡ Err cause
  refused_is answer = sym verdict_is ∙ answer_refused v (word_of d bytes) (sym answer)

module _ (l : Library) (k word : ℕ) (bytes : List ℕ) (components : List ℤ) (is : Asked l.d word bytes components) where
  abbrev query : Query
  query = record { components = components; word = word }

  text_is : answer_text l query k ≡ query_text l k bytes
  text_is =
      let same = ap₂ (λ (components : List ℤ) (word : ℕ). record { components = components; word = word }) is.components_are is.word_is in
      ap (λ (query : Query). answer_text l query k) same ∙ sym (outcome_accepted _ refused_text is.passes)

  searched : Ready l → leb 1 k && leb k l.n ≡ true → first (search_causes (searchable l) query k (room_of k l.n)) ≡ Ok tt
  searched ready within =
      ready.of_search query k (ap length is.components_are ∙ components_length l.d bytes)
      (ap are_components is.components_are ∙ present_components l.d bytes is.passes)
      (ap (λ (w : ℕ). first (word_causes l.d w)) is.word_is ∙ word_passes l.d bytes is.passes)
      within

pub slice_bounds-query-end : goal.slice_bounds-query-end
slice_bounds-query-end c = (between 1 c.args.d max_dimensions (ready_dimensions c.requires.ready.0)).below

pub slice_bounds-query_present-end : goal.slice_bounds-query_present-end
slice_bounds-query_present-end c = sym (length-take-le _ _ (between 1 c.args.d max_dimensions (ready_dimensions c.requires.ready.0)).below)

pub slice_bounds-query-end-in-Ok : goal.slice_bounds-query-end-in-Ok
slice_bounds-query-end-in-Ok c =
    back_within _ _ c.query_present.new.components (between 1 c.args.d max_dimensions (ready_dimensions c.requires.ready.0)).below
    c.query_present.auto.components

pub slice_bounds-answer-end : goal.slice_bounds-answer-end
slice_bounds-answer-end c =
    sym (length-take-le _ _ (back_within _ _ c.query_present.new.components
    (between 1 c.args.d max_dimensions (ready_dimensions c.requires.ready.0)).below
    c.query_present.auto.components))

pub answer-requires-clause-n_value_2 : goal.answer-requires-clause-n_value_2
answer-requires-clause-n_value_2 c =
    let a = c.args in
    let l = library_with a.d a.b a.n a.marks.now a.settings.now a.components.now in
    let dimensions = ready_dimensions c.requires.ready.0 in
    let few = (between 1 a.d max_dimensions dimensions).below in
    let size = length-take-le _ _ few in
    let is = asked a.d a.bytes.now _ dimensions size (sym c.in-Ok.is ∙ c.query_present.ensures.0) c.query_present.ensures.1
    (shared_is _ _ c.query_present.new.components few c.query_present.auto.components) in
    searched l a.k c.in-Ok.word a.bytes.now _ is c.requires.ready.0 c.requires.ready.1

pub answer-requires-clause-k_in_bounds : goal.answer-requires-clause-k_in_bounds
answer-requires-clause-k_in_bounds c =
    let a = c.args in
    let l = library_with a.d a.b a.n a.marks.now a.settings.now a.components.now in
    let dimensions = ready_dimensions c.requires.ready.0 in
    let few = (between 1 a.d max_dimensions dimensions).below in
    let size = length-take-le _ _ few in
    let is = asked a.d a.bytes.now _ dimensions size (sym c.in-Ok.is ∙ c.query_present.ensures.0) c.query_present.ensures.1
    (shared_is _ _ c.query_present.new.components few c.query_present.auto.components) in
    rw (text_is l a.k c.in-Ok.word a.bytes.now _ is) c.requires.bytes_in_bounds

pub returns-in-Ok : goal.returns-in-Ok
returns-in-Ok c =
    let a = c.args in
    let l = library_with a.d a.b a.n a.marks.now a.settings.now a.components.now in
    let dimensions = ready_dimensions c.requires.ready.0 in
    let few = (between 1 a.d max_dimensions dimensions).below in
    let size = length-take-le _ _ few in
    let is = asked a.d a.bytes.now _ dimensions size (sym c.in-Ok.is ∙ c.query_present.ensures.0) c.query_present.ensures.1
    (shared_is _ _ c.query_present.new.components few c.query_present.auto.components) in
    puts_same (text_is l a.k c.in-Ok.word a.bytes.now _ is) c.answer.ensures

pub returns-in-Err : goal.returns-in-Err
returns-in-Err c =
    let a = c.args in
    let dimensions = ready_dimensions c.requires.ready.0 in
    let few = (between 1 a.d max_dimensions dimensions).below in
    let size = length-take-le _ _ few in
    puts_same (sym (outcome_refused _ refused_text (refused_is a.d a.bytes.now _ dimensions size (sym c.in-Err.is ∙ c.query_present.ensures.0))))
    c.put_refusal.ensures
