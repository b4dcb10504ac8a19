-- `put_refused` meets its contract: the number stands behind the word. Assumes nothing.
use Rattle.text.specs.Puts.{puts_more, puts_same, puts_front, line_of_one}
use Rattle.text.proofs.put_refused.Goals as goal

pub returns : goal.returns
returns c =
    let number = puts_same (line_of_one c.args.x) c.put_field.ensures.0 in
    let put = puts_front (puts_more c.put_word-next.ensures number) in
    record { value = put.0; text_after = put.1 }
