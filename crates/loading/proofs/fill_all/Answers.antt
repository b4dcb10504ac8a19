use Rattle.std.proofs.Common.{◌≡◌, ℕ, ◌≤◌, ◌∙◌, List, length, mul-le-mul, arith}
use Rattle.layout.specs.declared.Layout.{Layout}
use Rattle.library.specs.Library.{mark_total, vector_place, library_length}
use Rattle.library.specs.Sizes.{vector_place_lem, library_length_lem, layout_marks}
use Rattle.loading.specs.Heads.{HeadOf}
use Rattle.loading.specs.Loadable.{Loadable, loadable}
use Rattle.loading.specs.Filled.{marks_filled, settings_filled, components_filled}
use Rattle.loading.proofs.fill_all.Goals as goal

-- the marks are few
few_marks : {m : ℕ} (l : Layout) → m ≡ mark_total l.d l.b → m ≤ 2080
few_marks l is = rw is (layout_marks l.d l.b l.some l.few l.within)

-- the vectors are there
vectors_within : {marks settings components m n : ℕ} {bytes : List ℕ} (l : Layout) → HeadOf bytes l.d l.b n
    → Loadable marks settings components bytes → m ≡ mark_total l.d l.b → vector_place m n ≤ length bytes
vectors_within {m = m} {n = n} {bytes = bytes} l of can is =
    let within : library_length l.d l.b n ≤ length bytes = rw (of.of_shape.d_is, of.of_shape.b_is, of.n_is) at can.whole in
    rw (vector_place_lem m n, is) (omega (arith, rw (library_length_lem l.d l.b n) at within))

pub fill_marks-requires : goal.fill_marks-requires
fill_marks-requires c =
    let can = loadable (length c.args.marks.now) (length c.args.settings.now) (length c.args.components.now) c.args.bytes.now c.requires.1 in
    let few = few_marks c.args.head.layout c.marks_length-m.ensures in
    (omega (arith, few), omega (arith, few, can.marks_count))

pub fill_settings-requires : goal.fill_settings-requires
fill_settings-requires c =
    let can = loadable (length c.args.marks.now) (length c.args.settings.now) (length c.args.components.now) c.args.bytes.now c.requires.1 in
    let few = few_marks c.args.head.layout c.marks_length-m.ensures in
    (omega (arith, few), omega (arith, c.requires.0.few), omega (arith, c.requires.0.few, can.settings_count))

pub fill_components-requires : goal.fill_components-requires
fill_components-requires c =
    let can = loadable (length c.args.marks.now) (length c.args.settings.now) (length c.args.components.now) c.args.bytes.now c.requires.1 in
    let layout = c.args.head.layout in
    let few = few_marks layout c.marks_length-m.ensures in
    let product = mul-le-mul c.requires.0.few layout.few in (
      omega (arith, few),
      layout.few,
      c.requires.0.few,
      omega (arith, product, can.components_count),
      vectors_within layout c.requires.0 can c.marks_length-m.ensures,
    )

pub returns-clause-marks_after : goal.returns-clause-marks_after
returns-clause-marks_after c =
    rw c.marks_length-m.ensures at c.fill_marks.ensures ∙ marks_filled c.args.bytes.now c.requires.0 c.args.marks.now

pub returns-clause-settings_after : goal.returns-clause-settings_after
returns-clause-settings_after c =
    rw c.marks_length-m.ensures at c.fill_settings.ensures ∙ settings_filled c.args.bytes.now c.requires.0 c.args.settings.now

pub returns-clause-components_after : goal.returns-clause-components_after
returns-clause-components_after c =
    rw c.marks_length-m.ensures at c.fill_components.ensures ∙ components_filled c.args.bytes.now c.requires.0 c.args.components.now
