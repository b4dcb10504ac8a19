-- `make_dimensions` meets its contract: the marks of the first t dimensions are written. Assumes nothing.
use Rattle.std.proofs.Common.{◌≡◌, refl, sym, ap, ◌∙◌, List, ◌++◌, ℕ, suc, ◌+◌, ◌-◌, ◌^◌, ◌≤◌, ◌<◌, ℤ, length, take, drop, arith, add-one, length-drop}
use Rattle.std.proofs.Math.Path.{ap₂}
use Rattle.std.proofs.Math.Seq.{length-take-le, take_all, take_at, take-append-add, take-append-le}
use borrow.Rule.Slice.PartMut.{mid_of, post_of, put_mid, same_len_mid}
use Rattle.refusal.specs.First.{outcome_accepted}
use Rattle.layout.specs.declared.Stretch.{Stretch}
use Rattle.layout.specs.Layout.{bits_of, first_marks}
use Rattle.layout.specs.Stretch.{stretch_of, shape, Stretches, stretches, dimension_accepted}
use Rattle.marking.specs.Made.{column, in_order, first_between, scale_ends, made_dimension, made_first}
use Rattle.marking.specs.MadeDimension.{between_length}
use Rattle.marking.specs.Making.{Given, given, MarksOf}
use Rattle.marking.proofs.make_dimensions.Goals as goal

-- ---- a part of the marks, from o on, lent and back

part_length : (o : ℕ) (marks : List ℤ) → length (mid_of o (length marks - o) marks) ≡ length marks - o
part_length o marks = length-take-le (length marks - o) (drop o marks) (rw length-drop (omega arith))

written : (o m k : ℕ) (marks last : List ℤ) → o ≤ length marks → m ≤ length last
    → take (o + m) (put_mid o k marks last) ≡ take o marks ++ take m last
written o m k marks last within count =
    ap (λ (n : ℕ). take (n + m) (put_mid o k marks last)) (sym (length-take-le o marks within))
    ∙ take-append-add (take o marks) (last ++ post_of o k marks) m
    ∙ ap (λ (l : List ℤ). take o marks ++ l) (take-append-le m last (post_of o k marks) count)

made_of : {s : Stretch} {o w : ℕ} → s.offset ≡ o → s.bits ≡ w → s ≡ record { offset = o; bits = w }
made_of offset bits = rw (← offset, ← bits)

-- ---- one dimension's stretch of the marks buffer, s

module _ {d b n : ℕ} {vectors : List ℤ} {room : ℕ} (is : Given d b n vectors room) (t : ℕ) (among : t < d)
    (s : Stretch) (offset : s.offset ≡ first_marks d b (t + 1 - 1)) (bits : s.bits ≡ bits_of d b (t + 1)) where
  stretch : Stretches d b (t + 1) s
  unfolding stretch_of
  stretch =
      let accepted = dimension_accepted d b t is.shaped among in
      stretches accepted (made_of offset bits ∙ sym (outcome_accepted _ _ accepted))

  ends : s.offset + (2 ^ s.bits + 1) ≤ room
  ends = omega (arith, stretch.end, stretch.within, is.exact)

  module _ (marks : List ℤ) (same : length marks ≡ room) {keys : ℕ} (all : keys ≡ n) where
    in_buffer : s.offset + (2 ^ s.bits + 1) ≤ length marks
    in_buffer = rw same ends

    asked : MarksOf d keys t s.bits vectors (length (mid_of s.offset (length marks - s.offset) marks))
    asked =
        let shaped = shape d b is.shaped in
        rw all
        record {
          of_column = record { few = shaped.few; among = among; count = is.count.below };
          shares = record { some = is.count.above; few = is.count.below; bits = stretch.few_bits };
          fits = omega (arith, ends, part_length s.offset marks);
          components = is.components;
        }

    turn : (last : List ℤ) → length last ≡ length (mid_of s.offset (length marks - s.offset) marks)
        → last ≡ made_dimension keys s.bits (in_order (column d keys vectors t)) ++ drop (2 ^ s.bits + 1)
        (mid_of s.offset (length marks - s.offset) marks)
        → take (first_marks d b t) marks ≡ made_first d b n vectors t
        → take (first_marks d b (t + 1)) (put_mid s.offset (length marks - s.offset) marks last) ≡ made_first d b n vectors (t + 1)
    unfolding first_between
    turn last kept made so_far =
        let o = s.offset in
        let m = 2 ^ s.bits + 1 in
        let start : t + 1 - 1 ≡ t = omega arith in
        let own = between_length scale_ends n s.bits (in_order (column d n vectors t)) in
        let front : take m last ≡ made_dimension n s.bits (in_order (column d n vectors t)) =
        ap (take m) (rw all at made) ∙ take_at _ _ m own in
        let before : take o marks ≡ made_first d b n vectors t = rw (stretch.offset_is, start) so_far in
        let bits : s.bits ≡ bits_of d b (suc t) = stretch.bits_are ∙ ap (bits_of d b) (add-one t) in
        ap (λ (k : ℕ). take k (put_mid o (length marks - o) marks last)) (sym stretch.end)
        ∙ written o m (length marks - o) marks last (omega (arith, ends)) (omega (arith, ends, part_length o marks))
        ∙ ap₂ ◌++◌ before (front ∙ ap (λ (w : ℕ). made_dimension n w (in_order (column d n vectors t))) bits)
        ∙ ap (made_first d b n vectors) (sym (add-one t))

pub loop-t-init : goal.loop-t-init
unfolding first_marks first_between
loop-t-init c = record { marks_kept = refl; made = refl; keys_kept = refl; spare_kept = refl }

pub offset_bounds-marks-offset : goal.offset_bounds-marks-offset
offset_bounds-marks-offset c =
    let facts = given c.args.layout.d c.args.layout.b (length c.args.keys.now) c.args.vectors.now (length c.args.marks.now) c.requires.marks_value in
    let is = c.loop-t.invariant in
    let h = in_buffer facts c.loop-t.t (omega arith) c.stretch-stretch.result c.stretch-stretch.ensures.offset c.stretch-stretch.ensures.bits c.loop-t.marks is.marks_kept
    is.keys_kept in
    omega arith

pub slice_bounds-make_dimension-count : goal.slice_bounds-make_dimension-count
slice_bounds-make_dimension-count c =
    let facts = given c.args.layout.d c.args.layout.b (length c.args.keys.now) c.args.vectors.now (length c.args.marks.now) c.requires.marks_value in
    let is = c.loop-t.invariant in
    let h = in_buffer facts c.loop-t.t (omega arith) c.stretch-stretch.result c.stretch-stretch.ensures.offset c.stretch-stretch.ensures.bits c.loop-t.marks is.marks_kept
    is.keys_kept in
    omega arith

pub slice_bounds-make_dimension-start : goal.slice_bounds-make_dimension-start
slice_bounds-make_dimension-start c =
    let facts = given c.args.layout.d c.args.layout.b (length c.args.keys.now) c.args.vectors.now (length c.args.marks.now) c.requires.marks_value in
    let is = c.loop-t.invariant in
    let h = in_buffer facts c.loop-t.t (omega arith) c.stretch-stretch.result c.stretch-stretch.ensures.offset c.stretch-stretch.ensures.bits c.loop-t.marks is.marks_kept
    is.keys_kept in
    omega arith

pub make_dimension-requires : goal.make_dimension-requires
make_dimension-requires c =
    let facts = given c.args.layout.d c.args.layout.b (length c.args.keys.now) c.args.vectors.now (length c.args.marks.now) c.requires.marks_value in
    let is = c.loop-t.invariant in (
      asked facts c.loop-t.t (omega arith) c.stretch-stretch.result c.stretch-stretch.ensures.offset c.stretch-stretch.ensures.bits c.loop-t.marks is.marks_kept
          is.keys_kept,
      omega arith,
    )

pub loop-t-preserved : goal.loop-t-preserved
loop-t-preserved c =
    let facts = given c.args.layout.d c.args.layout.b (length c.args.keys.now) c.args.vectors.now (length c.args.marks.now) c.requires.marks_value in
    let is = c.loop-t.invariant in
    let o = c.stretch-stretch.result.offset in
    let call = c.make_dimension in
    record {
      marks_kept = same_len_mid o (length c.loop-t.marks - o) c.loop-t.marks call.new.part call.auto.part ∙ is.marks_kept;
      made = turn facts c.loop-t.t (omega arith) c.stretch-stretch.result c.stretch-stretch.ensures.offset c.stretch-stretch.ensures.bits c.loop-t.marks is.marks_kept
          is.keys_kept call.new.part call.auto.part call.ensures is.made;
      keys_kept = call.auto.keys ∙ is.keys_kept;
      spare_kept = call.auto.spare ∙ is.spare_kept;
    }

pub returns : goal.returns
returns c =
    let a = c.args in
    let facts = given a.layout.d a.layout.b (length a.keys.now) a.vectors.now (length a.marks.now) c.requires.marks_value in
    let all : c.loop-t.t ≡ a.layout.d = omega arith in
    let exact : length c.loop-t.marks ≡ first_marks a.layout.d a.layout.b a.layout.d = c.loop-t.invariant.marks_kept ∙ facts.exact in
    sym (take_all (first_marks a.layout.d a.layout.b a.layout.d) c.loop-t.marks (omega arith)) ∙ (rw all at c.loop-t.invariant.made)
