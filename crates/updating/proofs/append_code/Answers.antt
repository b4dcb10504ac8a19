-- The vector's code is made by itself, and its bits are put behind the others'.
use Rattle.std.proofs.Common.{◌≡◌, sym, ◌∙◌, ℕ, ◌≤◌, arith, one-mul}
use Rattle.std.proofs.Math.Seq.{length-take-le}
use Rattle.refusal.specs.First.{outcome_accepted}
use Rattle.layout.specs.declared.Layout.{Layout}
use Rattle.layout.specs.Layout.{code_length}
use Rattle.layout.specs.Stretch.{shape, codes_bits_le}
use Rattle.order.proofs.Prefix.{back_within, shared_is}
use Rattle.updating.specs.CodeMoves.{packs_one, appended}
use Rattle.updating.proofs.append_code.Goals as goal

-- one code is no longer than the most bytes
size_few : (l : Layout) {size : ℕ} → size ≡ code_length l.b 1 → size ≤ 24
size_few l is = omega (arith, is, one-mul l.b, l.within, l.few)

pub slice_bounds-code-end : goal.slice_bounds-code-end
slice_bounds-code-end c = size_few c.args.layout c.codes_length-size.ensures

pub slice_bounds-pack_vectors-end : goal.slice_bounds-pack_vectors-end
slice_bounds-pack_vectors-end c = sym (length-take-le _ _ (size_few c.args.layout c.codes_length-size.ensures))

pub overflow_mul-n : goal.overflow_mul-n
overflow_mul-n c =
    let l = c.args.layout in
    omega (arith, codes_bits_le {d = l.d} {b = l.b} c.args.n (shape l.d l.b c.requires.shaped) c.requires.few)

pub slice_bounds-code-end-2 : goal.slice_bounds-code-end-2
slice_bounds-code-end-2 c =
    back_within _ _ c.pack_vectors.new.codes (size_few c.args.layout c.codes_length-size.ensures) c.pack_vectors.auto.codes

pub slice_bounds-splice-end : goal.slice_bounds-splice-end
slice_bounds-splice-end c =
    sym (length-take-le _ _
    (back_within _ _ c.pack_vectors.new.codes (size_few c.args.layout c.codes_length-size.ensures) c.pack_vectors.auto.codes))

pub unwrap-requires : goal.unwrap-requires
unwrap-requires c =
    let lent = length-take-le _ _ (size_few c.args.layout c.codes_length-size.ensures) ∙ c.codes_length-size.ensures in
    rw (c.pack_vectors.ensures.value ∙ packs_one c.requires _ lent)

pub returns : goal.returns
returns c =
    let few = size_few c.args.layout c.codes_length-size.ensures in
    let lent = length-take-le _ _ few ∙ c.codes_length-size.ensures in
    let is = shared_is _ _ c.pack_vectors.new.codes few c.pack_vectors.auto.codes in
    appended c.requires c.args.codes.now (is ∙ c.pack_vectors.ensures.codes_after ∙ outcome_accepted _ _ (packs_one c.requires _ lent))
    c.splice.ensures
