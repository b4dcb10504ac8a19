use Rattle.std.proofs.Common.{◌≡◌, length, take}
use Rattle.layout.specs.Layout.{first_marks}
use Rattle.marking.specs.Made.{made_first}
use Rattle.marking.proofs.make_dimensions.Given as goal

abbrev pub invariant-loop-t : goal.invariant-loop-t
invariant-loop-t l = record {
  marks_kept : length l.marks ≡ length l.fn.marks;
  made : take (first_marks l.layout.d l.layout.b l.t) l.marks ≡ made_first l.layout.d l.layout.b (length l.fn.keys) l.vectors l.t;
  keys_kept : length l.keys ≡ length l.fn.keys;
  spare_kept : length l.spare ≡ length l.fn.spare;
}
