-- `put_two` meets its contract: the second number stands behind the first. Assumes nothing.
use Rattle.text.specs.Puts.{puts_more, puts_same, puts_front, line_of_two}
use Rattle.text.proofs.put_two.Goals as goal

pub returns : goal.returns
returns c =
    let fields = puts_more c.put_field-second.ensures.0 c.put_field.ensures.0 in
    let put = puts_front (puts_same (line_of_two c.args.x c.args.y) fields) in
    record { value = put.0; text_after = put.1 }
