use Rattle.std.proofs.Common.{length}
use Rattle.region.proofs.+locate.Given as goal

abbrev pub decreases-locate : goal.decreases-locate
decreases-locate l = length l.marks.now
