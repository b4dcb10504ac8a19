-- `next_offset` meets its contract. Assumes nothing.
use borrow.Author.Tests.{eq-eqb, ne_eqb}
use Rattle.approximation.proofs.next_offset.Goals as goal

pub returns-then-column-eq0 : goal.returns-then-column-eq0
returns-then-column-eq0 c = rw (eq-eqb c.args.column 0 c.if-column-eq0.true)

pub returns-else-column-eq0 : goal.returns-else-column-eq0
returns-else-column-eq0 c = rw (ne_eqb c.args.column 0 c.if-column-eq0.false)
