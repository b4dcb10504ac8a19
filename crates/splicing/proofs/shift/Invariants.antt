use Rattle.std.proofs.Common.{◌+◌, ◌-◌}
use Rattle.splicing.proofs.Shifting.{Shifting}
use Rattle.splicing.proofs.shift.Given as goal

abbrev pub invariant-loop-o : goal.invariant-loop-o
invariant-loop-o l = Shifting l.back l.first l.bit l.at l.initial.out l.out l.high (l.first + (l.o - l.at)) l.o
