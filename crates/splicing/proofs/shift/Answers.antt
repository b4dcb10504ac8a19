-- What is written so far, with the bits that are left, is the whole. Assumes nothing.
use Rattle.std.proofs.Common.{◌≡◌, ◌+◌, ◌-◌, refl, rules, arith}
use Rattle.codes.specs.BitLaws.{Bytes}
use Rattle.splicing.proofs.Shifting.{shifts, shifted}
use Rattle.splicing.proofs.shift.Goals as goal

pub loop-o-init : goal.loop-o-init
loop-o-init c =
    let none : c.args.first + (c.args.at - c.args.at) ≡ c.args.first = omega arith in
    rw none (record { room = refl; within = c.requires.2; place = refl; known = c.byte_at-high.ensures; so_far = refl })

pub loop-o-preserved : goal.loop-o-preserved
loop-o-preserved c =
    let next : c.args.first + (c.loop-o.o + 1 - c.args.at) ≡ c.args.first + (c.loop-o.o - c.args.at) + 1 = omega arith in
    let small : Bytes c.args.back.now = λ i. search rules in
    rw (c.middle.ensures, next)
    (shifts c.loop-o.invariant small c.requires.1 (omega (arith, c.loop-o-test.true, c.loop-o.invariant.room)) c.byte_at-next.ensures)

pub returns : goal.returns
returns c = shifted c.loop-o.invariant (omega (arith, c.loop-o.invariant.room, c.loop-o-test.false))
