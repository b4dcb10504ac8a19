-- The greatest of the numbers so far, and the numbers behind them, decide. Assumes nothing.
use Rattle.std.proofs.Common.{◌≡◌, sym, ◌∙◌, ◌^◌, max, get_or, arith}
use mathlib.Core.Bool.{and-true}
use borrow.Author.Tests.{lt-ltb}
use lib.ListN.{drop_of_length-le}
use lib.Pow.{pow_pos}
use Rattle.codes.specs.Fields.{all_below}
use Rattle.codes.specs.FieldLaws.{shifted, greatest_next}
use Rattle.codes.proofs.fit.Goals as goal

pub loop-number-init : goal.loop-number-init
loop-number-init c = rw (lt-ltb 0 (2 ^ c.args.w) (pow_pos c.args.w))

pub loop-number-preserved : goal.loop-number-preserved
loop-number-preserved c =
    let numbers = c.args.numbers.now in
    let i = c.loop-number.number-index in
    let is : c.max-greatest.result ≡ max c.loop-number.greatest (get_or numbers i 0) = grind arith in
    rw is (c.loop-number.invariant ∙ greatest_next (2 ^ c.args.w) c.loop-number.greatest numbers i c.loop-number-test.true)

pub returns : goal.returns
unfolding all_below
returns c =
    let none = drop_of_length-le c.args.numbers.now c.loop-number-test.false in
    sym (c.loop-number.invariant ∙ rw (none, and-true) (shifted c.loop-number.greatest c.args.w))
