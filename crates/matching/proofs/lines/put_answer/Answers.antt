-- `put_answer` meets its contract: the entries stand behind line one. Assumes nothing.
use Rattle.text.specs.Puts.{puts_more, front_puts}
use Rattle.matching.proofs.lines.put_answer.Goals as goal

pub returns : goal.returns
returns c = puts_more (front_puts c.put_two-next.ensures.value c.put_two-next.ensures.text_after) c.put_entries.ensures
