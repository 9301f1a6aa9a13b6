use Rattle.std.proofs.Common.{sym, ◌∙◌, arith}
use Rattle.view_config.proofs.Digits.{pointed-some}
use Rattle.view_config.proofs.constants.pointed.Goals as goal

pub returns : goal.returns
returns c =
    c.digits_after.ensures
    ∙ pointed-some c.args.point c.args.text.now c.in_ok-some_digits.field-0 (omega (arith, c.requires))
    (grind (arith, c.if-text-point-ne46.false))
    (sym (c.in_ok-some_digits.was) ∙ c.some_digits.ensures)
