-- The tests, and then the three buffers.
use Rattle.std.proofs.Common.{◌≡◌, sym, ap, ◌∙◌, ℕ, suc, ◌+◌, ◌-◌, ◌*◌, length, arith, suc-mul, mul-le-mul_right}
use Rattle.std.proofs.Math.Bool.{and-eq-true_iff}
use Rattle.refusal.specs.First.{first, outcome_accepted, outcome_refused, first_append, handed_on}
use Rattle.limits.specs.Limits.{max_vectors}
use Rattle.limits.specs.Tests.{between}
use Rattle.layout.specs.Stretch.{shape_causes}
use Rattle.cells.specs.Cells.{no_empty_codes}
use Rattle.refusal.specs.Refusal.{Verdict}
use Rattle.updating.specs.declared.Lengths.{Lengths}
use Rattle.updating.specs.Updated.{CodedLibrary, coded_library}
use Rattle.updating.specs.UpdateCauses.{lengths_with, remove_causes}
use Rattle.updating.specs.Accepted.{removable}
use Rattle.updating.proofs.remove.Goals as goal

-- what was tested of a layout's numbers and of buffers' lengths holds of the library's
tested : (l : CodedLibrary) (i : ℕ) (room : Lengths) {d b : ℕ} {lengths : Lengths} {answer : Verdict} → d ≡ l.d → b ≡ l.b → lengths ≡ room
    → answer ≡ first (remove_causes (coded_library d b l.n l.marks l.codes l.settings l.vectors) i lengths)
    → first (remove_causes l i room) ≡ answer
tested l i room dimensions bits same is = sym (rw (dimensions, bits, same) at is)

pub returns-in_err-layout : goal.returns-in_err-layout
returns-in_err-layout c =
    let is = first_append (shape_causes c.args.terms.d c.args.terms.b) _ ∙ outcome_refused _ _ c.in_err-layout.ensures.err in
    (handed_on c.from_residual.ensures.1 ∙ sym is, sym (outcome_refused _ _ is), sym (outcome_refused _ _ is), sym (outcome_refused _ _ is))

pub returns-in_err-check_remove : goal.returns-in_err-check_remove
returns-in_err-check_remove c =
    let a = c.args in
    let l = coded_library a.terms.d a.terms.b a.terms.n a.marks.now a.codes.now a.settings.now a.vectors.now in
    let room = lengths_with (length a.newvectors.now) (length a.newsettings.now) (length a.newcodes.now) in
    let made = c.in_ok-layout.ensures.ok in
    let is = tested l a.terms.number room made.0 made.1 c.of-room.ensures c.in_err-check_remove.ensures in
    (handed_on c.from_residual-in_err-check_remove.ensures.1 ∙ sym is, sym (outcome_refused _ _ is), sym (outcome_refused _ _ is), sym (outcome_refused _ _ is))

pub cut_components-requires : goal.cut_components-requires
cut_components-requires c =
    let a = c.args in
    let l = coded_library a.terms.d a.terms.b a.terms.n a.marks.now a.codes.now a.settings.now a.vectors.now in
    let room = lengths_with (length a.newvectors.now) (length a.newsettings.now) (length a.newcodes.now) in
    let made = c.in_ok-layout.ensures.ok in
    let is = removable l a.terms.number room (tested l a.terms.number room made.0 made.1 c.of-room.ensures c.in_ok-check_remove.ensures) in
    let next : l.n ≡ suc (l.n - 1) = omega (arith, is.others) in
    let rows : l.n * l.d ≡ (l.n - 1) * l.d + l.d = ap (λ (n : ℕ). n * l.d) next ∙ suc-mul (l.n - 1) l.d in (
      rw is.library.exact.of_vectors (mul-le-mul_right l.d is.stored),
      omega (arith, is.exact.of_vectors, is.library.exact.of_vectors),
    )

pub cut_settings-requires : goal.cut_settings-requires
cut_settings-requires c =
    let a = c.args in
    let l = coded_library a.terms.d a.terms.b a.terms.n a.marks.now a.codes.now a.settings.now a.vectors.now in
    let room = lengths_with (length a.newvectors.now) (length a.newsettings.now) (length a.newcodes.now) in
    let made = c.in_ok-layout.ensures.ok in
    let is = removable l a.terms.number room (tested l a.terms.number room made.0 made.1 c.of-room.ensures c.in_ok-check_remove.ensures) in (
      omega (arith, is.stored, is.library.exact.of_settings),
      omega (arith, is.others, is.exact.of_settings, is.library.exact.of_settings),
    )

pub cut_code-requires : goal.cut_code-requires
cut_code-requires c =
    let a = c.args in
    let l = coded_library a.terms.d a.terms.b a.terms.n a.marks.now a.codes.now a.settings.now a.vectors.now in
    let room = lengths_with (length a.newvectors.now) (length a.newsettings.now) (length a.newcodes.now) in
    let made = c.in_ok-layout.ensures.ok in
    let is = removable l a.terms.number room (tested l a.terms.number room made.0 made.1 c.of-room.ensures c.in_ok-check_remove.ensures) in
    record {
      shaped = is.library.shaped;
      few = (between 1 l.n max_vectors is.library.counted).below;
      stored = is.stored;
      bytes = is.exact.of_codes;
      spare = ((and-eq-true_iff (no_empty_codes l.d l.b l.marks l.codes l.n) _).0 is.contents.named).1;
    }

pub returns : goal.returns
returns c =
    let a = c.args in
    let l = coded_library a.terms.d a.terms.b a.terms.n a.marks.now a.codes.now a.settings.now a.vectors.now in
    let room = lengths_with (length a.newvectors.now) (length a.newsettings.now) (length a.newcodes.now) in
    let made = c.in_ok-layout.ensures.ok in
    let is = tested l a.terms.number room made.0 made.1 c.of-room.ensures c.in_ok-check_remove.ensures in (
      sym is,
      c.cut_components.ensures ∙ sym (outcome_accepted _ _ is),
      c.cut_settings.ensures ∙ sym (outcome_accepted _ _ is),
      c.cut_code.ensures ∙ sym (outcome_accepted _ _ is),
    )
