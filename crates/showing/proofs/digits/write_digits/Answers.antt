use Rattle.std.proofs.Common.{ap, ◌+◌, ◌%◌}
use Rattle.showing.proofs.WrittenTexts.{digit-more, digits-end}
use Rattle.showing.proofs.digits.write_digits.Goals as goal

pub loop-left-preserved : goal.loop-left-preserved
loop-left-preserved g c =
    let (done, wrote, is) = c.loop-left.invariant in
    digit-more _ _ _ c.args.number c.loop-left.left _ _ done wrote is c.loop-left-test.true
    c.in_ok-write_all.ensures.bytes
    (ap (λ m. 48 + m % 10) c.shifted.ensures)

pub returns : goal.returns
returns g c =
    let (done, wrote, is) = c.loop-left.invariant in
    digits-end _ _ c.args.number c.loop-left.left _ done wrote is c.loop-left-test.false
