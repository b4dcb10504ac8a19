-- `put_number` meets its contract: its tens are put first, and its last digit behind them. Assumes nothing.
use Rattle.std.proofs.Common.{◌≡◌, sym, ap, ◌∙◌, [], ◌∷◌, ℕ, ◌+◌, ◌/◌, ◌%◌, ◌≤◌, ◌<◌, length, length-append, arith}
use Rattle.text.specs.Text.{digit, decimal}
use Rattle.text.specs.TextLaws.{decimal_one, decimal_more}
use Rattle.text.specs.Puts.{puts_same, puts_more}
use Rattle.text.proofs.+put_number.Goals as goal

-- how many digits there are
one_length : (x : ℕ) → x < 10 → length (decimal x) ≡ 1
one_length x small = ap length (decimal_one x small)

more_length : (x : ℕ) → 10 ≤ x → length (decimal x) ≡ length (decimal (x / 10)) + 1
more_length x large = ap length (decimal_more x large) ∙ length-append (decimal (x / 10)) (digit (x % 10) ∷ [])

pub put_byte-requires : goal.put_byte-requires
put_byte-requires t c = omega (arith, one_length c.args.x c.if-x-lt10.true)

pub returns-then-x-lt10 : goal.returns-then-x-lt10
returns-then-x-lt10 t c = puts_same (sym (decimal_one c.args.x c.if-x-lt10.true)) c.put_byte.ensures

pub put_number-next-requires : goal.put_number-next-requires
put_number-next-requires t c = (omega arith, omega (arith, more_length c.args.x c.if-x-lt10.false))

pub put_byte-requires-2 : goal.put_byte-requires-2
put_byte-requires-2 t c = omega (arith, more_length c.args.x c.if-x-lt10.false, c.put_number-next.ensures.end)

pub returns : goal.returns
returns t c =
    puts_same (sym (decimal_more c.args.x c.if-x-lt10.false)) (puts_more c.put_number-next.ensures c.put_byte-2.ensures)
