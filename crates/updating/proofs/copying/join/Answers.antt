-- `join` meets its contract: the two lists fill the buffer. Assumes nothing.
use Rattle.std.proofs.Common.{◌≡◌, ◌∙◌}
use Rattle.updating.proofs.Pasting.{paste_two}
use Rattle.updating.proofs.copying.join.Goals as goal

pub returns : goal.returns
returns g c = rw c.put.ensures at c.put-2.ensures ∙ paste_two c.args.out.now c.args.front.now c.args.back.now c.requires
