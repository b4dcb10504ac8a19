use Rattle.std.proofs.Common.{suc, add-one}
use Rattle.std.proofs.lemmas.Bool.{eq-eqb, ne_eqb}
use Rattle.approximation.proofs.column_behind.Goals as goal

pub returns-then-next-d : goal.returns-then-next-d
returns-then-next-d c = rw (eq-eqb (suc c.args.column) c.args.d (rw add-one at c.if-next-d.true))

pub returns-else-next-d : goal.returns-else-next-d
returns-else-next-d c = rw (ne_eqb (suc c.args.column) c.args.d (rw add-one at c.if-next-d.false), add-one)
