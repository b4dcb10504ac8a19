use Rattle.std.proofs.Common.{refl, sym, ◌∙◌, arith}
use Rattle.std.proofs.lemmas.List.{length-take-le}
use Rattle.library.specs.Each.{each}
use Rattle.library.specs.Library.{settings_at}
use Rattle.library.specs.Sizes.{vector_place_lem}
use Rattle.library.proofs.Filling.{read_next}
use Rattle.loading.specs.ReadLaws.{settings_value}
use Rattle.loading.proofs.fill.fill_settings.Goals as goal

pub loop-i-init : goal.loop-i-init
unfolding each
loop-i-init c = refl

pub overflow_add-vector_place : goal.overflow_add-vector_place
overflow_add-vector_place c = omega (arith, vector_place_lem c.args.m c.loop-i.i, length-take-le c.args.n c.args.settings.now c.requires.2)

pub loop-i-preserved : goal.loop-i-preserved
loop-i-preserved c =
    read_next (settings_at c.args.m c.args.bytes.now) c.loop-i.setting-items c.loop-i.i (omega arith)
    (rw c.vector_place.ensures at c.u32_at.ensures ∙ sym (settings_value c.args.m c.args.bytes.now c.loop-i.i)) c.loop-i.invariant
