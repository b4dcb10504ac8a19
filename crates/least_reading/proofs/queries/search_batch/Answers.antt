use Rattle.std.proofs.Common.{◌≡◌, refl, sym, ap, ◌∙◌, subst, ℕ, List, length, slice_set, arith, Ok}
use Rattle.refusal.specs.First.{handed_on, first, outcome_accepted, outcome_refused}
use Rattle.entries.specs.declared.Entry.{Entry}
use Rattle.batch.specs.declared.Answer.{Answer}
use Rattle.batch.specs.Batch.{Batch, batch_of}
use Rattle.batch.specs.BatchCauses.{lengths_of, batch_causes}
use Rattle.batch.specs.Accepted.{Entered, entered}
use Rattle.least_reading.specs.Turned.{Turned}
use Rattle.least_reading.specs.Answering.{answers_after, entries_after, answers_next, entries_next, reads_next, entries_begun, reads_begun, ended}
use Rattle.least_reading.proofs.queries.search_batch.Goals as goal

-- the batch that is not refused
ready : (batch : Batch) (answers : List Answer) (entries : List Entry) (reads : List ℕ)
    → Ok tt ≡ first (batch_causes batch.terms (lengths_of batch (length answers) (length entries) (length reads)) batch.marks batch.codes)
    → Entered batch (length answers) (length entries) (length reads)
ready batch answers entries reads accepted = entered batch (length answers) (length entries) (length reads) (sym accepted)

pub loop-i-init : goal.loop-i-init
loop-i-init c =
    let a = c.args in
    let batch = batch_of a.terms a.queries.now a.words.now a.marks.now a.codes.now a.vectors.now in (
      refl,
      sym (entries_begun batch a.answers.now a.entries.now a.reads.now),
      sym (reads_begun batch a.answers.now a.entries.now a.reads.now),
    )

pub answer_query-answer-requires : goal.answer_query-answer-requires
answer_query-answer-requires c =
    let a = c.args in
    let batch = batch_of a.terms a.queries.now a.words.now a.marks.now a.codes.now a.vectors.now in
    let is = ready batch a.answers.now a.entries.now a.reads.now c.in_ok-check_batch.ensures in (
      is.ready,
      omega arith,
      c.loop-i.auto.entries ∙ is.of_entries,
      c.loop-i.auto.reads ∙ is.of_reads,
      c.put_regions.ensures,
    )

pub offset_bounds-answers-i : goal.offset_bounds-answers-i
offset_bounds-answers-i c =
    let a = c.args in
    let batch = batch_of a.terms a.queries.now a.words.now a.marks.now a.codes.now a.vectors.now in
    let is = ready batch a.answers.now a.entries.now a.reads.now c.in_ok-check_batch.ensures in
    omega (arith, is.ready.few)

pub bounds-answers-i : goal.bounds-answers-i
bounds-answers-i c =
    let a = c.args in
    let batch = batch_of a.terms a.queries.now a.words.now a.marks.now a.codes.now a.vectors.now in
    let is = ready batch a.answers.now a.entries.now a.reads.now c.in_ok-check_batch.ensures in
    omega (arith, is.of_answers, c.loop-i.auto.answers)

pub loop-i-preserved : goal.loop-i-preserved
loop-i-preserved c =
    let a = c.args in
    let batch = batch_of a.terms a.queries.now a.words.now a.marks.now a.codes.now a.vectors.now in
    let answers = a.answers.now in
    let entries = a.entries.now in
    let reads = a.reads.now in
    let at = c.loop-i.invariant in
    let i = c.loop-i.i in
    let r = c.answer_query-answer.result in
    let entries-then = c.answer_query-answer.new.entries in
    let reads-then = c.answer_query-answer.new.reads in
    let is = ready batch answers entries reads c.in_ok-check_batch.ensures in
    let turned =
    subst (λ (before : List ℕ). Turned batch i r (entries_after batch answers entries reads i) entries-then before reads-then) at.2
    (subst (λ (before : List Entry). Turned batch i r before entries-then c.loop-i.reads reads-then) at.1 c.answer_query-answer.ensures) in (
      ap (λ (l : List Answer). slice_set l i c.answer_of.result) at.0
          ∙ ap (slice_set (answers_after batch answers entries reads i) i) c.answer_of.ensures
          ∙ answers_next batch answers entries reads is i (omega arith) turned,
      entries_next batch answers entries reads is i (omega arith) turned,
      reads_next batch answers entries reads is i (omega arith) turned,
    )

pub returns : goal.returns
returns c =
    let a = c.args in
    let batch = batch_of a.terms a.queries.now a.words.now a.marks.now a.codes.now a.vectors.now in
    let at = c.loop-i.invariant in
    let all : c.loop-i.i ≡ a.terms.m = omega arith in
    let accepted = sym c.in_ok-check_batch.ensures in
    let end = ended batch a.answers.now a.entries.now a.reads.now (ready batch a.answers.now a.entries.now a.reads.now c.in_ok-check_batch.ensures) in (
      sym accepted,
      (rw all at at.0) ∙ end.answers_are ∙ sym (outcome_accepted _ _ accepted),
      (rw all at at.1) ∙ end.entries_are ∙ sym (outcome_accepted _ _ accepted),
      (rw all at at.2) ∙ end.reads_are ∙ sym (outcome_accepted _ _ accepted),
    )

pub returns-in_err-check_batch : goal.returns-in_err-check_batch
returns-in_err-check_batch c =
    let refused = sym c.in_err-check_batch.ensures in (
      handed_on c.from_residual.ensures.1 ∙ sym refused,
      sym (outcome_refused _ _ refused),
      sym (outcome_refused _ _ refused),
      sym (outcome_refused _ _ refused),
    )
