-- The bits, by the arm that was taken. Assumes nothing.
use Rattle.std.proofs.Common.{◌/◌, ◌%◌, sym, ◌∙◌, le-leb, add-zero}
use Rattle.std.proofs.lemmas.Bool.{lt-leb}
use Rattle.layout.specs.Layout.{bits_of}
use Rattle.layout.proofs.Layout.stretch.Goals as goal
use Rattle.layout.proofs.Layout.stretch.Goals.{then-j-self, else-j-self}

pub returns-clause-bits : goal.returns-clause-bits
unfolding bits_of
returns-clause-bits c =
    let d = c.args.self.d in
    let b = c.args.self.b in
    elim c.if-j-self.branch [
      | then-j-self w ↦ w.bits-is ∙ rw (le-leb c.args.j (b % d) w.if-j-self.true)
      | else-j-self w ↦ w.bits-is ∙ rw (lt-leb c.args.j (b % d) w.if-j-self.false) (sym (add-zero (b / d)))
    ]
