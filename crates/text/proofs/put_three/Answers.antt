-- `put_three` meets its contract: each number stands behind the one before it. Assumes nothing.
use Rattle.text.specs.Puts.{puts_more, puts_same, puts_front, line_of_three}
use Rattle.text.proofs.put_three.Goals as goal

pub returns : goal.returns
returns c =
    let fields = puts_more (puts_more c.put_field-second.ensures.0 c.put_field-third.ensures.0) c.put_field.ensures.0 in
    let put = puts_front (puts_same (line_of_three c.args.x c.args.y c.args.z) fields) in
    record { value = put.0; text_after = put.1 }
