-- The tests, and then the three buffers.
use Rattle.std.proofs.Common.{◌≡◌, sym, ◌∙◌, List, ℕ, ℤ, length, arith, suc-mul}
use Rattle.refusal.specs.First.{first, outcome_accepted, outcome_refused, first_append, handed_on}
use Rattle.limits.specs.Limits.{max_vectors}
use Rattle.limits.specs.Tests.{between}
use Rattle.layout.specs.Stretch.{shape_causes}
use Rattle.refusal.specs.Refusal.{Verdict}
use Rattle.updating.specs.declared.Lengths.{Lengths}
use Rattle.updating.specs.Updated.{CodedLibrary, coded_library}
use Rattle.updating.specs.UpdateCauses.{lengths_with, add_causes}
use Rattle.updating.specs.Accepted.{addable}
use Rattle.updating.proofs.add.Goals as goal

-- what was tested of a layout's numbers and of buffers' lengths holds of the library's
tested : (l : CodedLibrary) (vector : List ℤ) (room : Lengths) {d b : ℕ} {lengths : Lengths} {answer : Verdict} → d ≡ l.d → b ≡ l.b → lengths ≡ room
    → answer ≡ first (add_causes (coded_library d b l.n l.marks l.codes l.settings l.vectors) vector lengths)
    → first (add_causes l vector room) ≡ answer
tested l vector room dimensions bits same is = sym (rw (dimensions, bits, same) at is)

pub returns-in_err-layout : goal.returns-in_err-layout
returns-in_err-layout c =
    let is = first_append (shape_causes c.args.terms.d c.args.terms.b) _ ∙ outcome_refused _ _ c.in_err-layout.ensures.err in
    (handed_on c.from_residual.ensures.1 ∙ sym is, sym (outcome_refused _ _ is), sym (outcome_refused _ _ is), sym (outcome_refused _ _ is))

pub returns-in_err-check_add : goal.returns-in_err-check_add
returns-in_err-check_add c =
    let a = c.args in
    let l = coded_library a.terms.d a.terms.b a.terms.n a.marks.now a.codes.now a.settings.now a.vectors.now in
    let room = lengths_with (length a.newvectors.now) (length a.newsettings.now) (length a.newcodes.now) in
    let made = c.in_ok-layout.ensures.ok in
    let is = tested l a.vector.now room made.0 made.1 c.of-room.ensures c.in_err-check_add.ensures in
    (handed_on c.from_residual-in_err-check_add.ensures.1 ∙ sym is, sym (outcome_refused _ _ is), sym (outcome_refused _ _ is), sym (outcome_refused _ _ is))

pub append_components-requires : goal.append_components-requires
append_components-requires c =
    let a = c.args in
    let l = coded_library a.terms.d a.terms.b a.terms.n a.marks.now a.codes.now a.settings.now a.vectors.now in
    let room = lengths_with (length a.newvectors.now) (length a.newsettings.now) (length a.newcodes.now) in
    let made = c.in_ok-layout.ensures.ok in
    let is = addable l a.vector.now room (tested l a.vector.now room made.0 made.1 c.of-room.ensures c.in_ok-check_add.ensures) in
    omega (arith, is.exact.of_vectors, is.library.exact.of_vectors, is.size, suc-mul l.n l.d)

pub append_setting-requires : goal.append_setting-requires
append_setting-requires c =
    let a = c.args in
    let l = coded_library a.terms.d a.terms.b a.terms.n a.marks.now a.codes.now a.settings.now a.vectors.now in
    let room = lengths_with (length a.newvectors.now) (length a.newsettings.now) (length a.newcodes.now) in
    let made = c.in_ok-layout.ensures.ok in
    let is = addable l a.vector.now room (tested l a.vector.now room made.0 made.1 c.of-room.ensures c.in_ok-check_add.ensures) in
    omega (arith, is.exact.of_settings, is.library.exact.of_settings)

pub append_code-requires : goal.append_code-requires
append_code-requires c =
    let a = c.args in
    let l = coded_library a.terms.d a.terms.b a.terms.n a.marks.now a.codes.now a.settings.now a.vectors.now in
    let room = lengths_with (length a.newvectors.now) (length a.newsettings.now) (length a.newcodes.now) in
    let made = c.in_ok-layout.ensures.ok in
    let is = addable l a.vector.now room (tested l a.vector.now room made.0 made.1 c.of-room.ensures c.in_ok-check_add.ensures) in
    rw (made.0, made.1)
    (record {
      shaped = is.library.shaped;
      few = (between 1 l.n max_vectors is.library.counted).below;
      exact = is.library.of_marks;
      size = is.size;
      bytes = is.exact.of_codes;
      components = is.contents.more_components;
      good = is.contents.good;
      inside = is.contents.more_inside;
    })

pub returns : goal.returns
returns c =
    let a = c.args in
    let l = coded_library a.terms.d a.terms.b a.terms.n a.marks.now a.codes.now a.settings.now a.vectors.now in
    let room = lengths_with (length a.newvectors.now) (length a.newsettings.now) (length a.newcodes.now) in
    let made = c.in_ok-layout.ensures.ok in
    let is = tested l a.vector.now room made.0 made.1 c.of-room.ensures c.in_ok-check_add.ensures in (
      sym is,
      c.append_components.ensures ∙ sym (outcome_accepted _ _ is),
      c.append_setting.ensures ∙ sym (outcome_accepted _ _ is),
      rw (made.0, made.1) at c.append_code.ensures ∙ sym (outcome_accepted _ _ is),
    )
