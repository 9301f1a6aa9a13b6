use Rattle.std.proofs.Common.{rules, arith, sym, ◌∙◌}
use Rattle.view_config.proofs.Digits.{digits-more, digits-none}
use Rattle.view_config.proofs.constants.digits_after.Goals as goal

pub loop-digit-preserved : goal.loop-digit-preserved
loop-digit-preserved c = (
  digits-more c.loop-digit.number c.saturating_add-number.result c.args.digits.now c.loop-digit.digit-index 0
      c.loop-digit-test.true (search rules)
      (omega (arith, c.saturating_add-number.ensures, c.saturating_mul.ensures, c.from.ensures))
      ∙ c.loop-digit.invariant.0,
  c.saturating_add-number.type_inv,
)

pub returns : goal.returns
returns c =
    sym (digits-none c.loop-digit.number c.args.digits.now c.loop-digit.digit-index c.loop-digit.invariant.1
    c.loop-digit-test.false)
    ∙ c.loop-digit.invariant.0
