-- `put_refusal` meets its contract: the line has the cause's number. Assumes nothing.
use Rattle.std.proofs.Common.{ap, ◌∙◌}
use Rattle.text.specs.Text.{refused_line}
use Rattle.text.specs.Puts.{puts_same, front_puts}
use Rattle.matching.proofs.lines.put_refusal.Goals as goal

pub returns : goal.returns
returns c =
    puts_same (ap refused_line (c.from.ensures ∙ c.number.ensures))
    (front_puts c.put_refused.ensures.value c.put_refused.ensures.text_after)
