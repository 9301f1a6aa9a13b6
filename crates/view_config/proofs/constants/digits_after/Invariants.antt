use Rattle.std.proofs.Common.{◌≡◌, ◌<◌, ◌^◌, drop}
use Rattle.view_config.specs.Constants.{digits_after, held}
use Rattle.view_config.proofs.constants.digits_after.Given as goal

abbrev pub invariant-loop-digit : goal.invariant-loop-digit
invariant-loop-digit l =
    (held (digits_after l.number (drop l.digit-index l.digits)) ≡ held (digits_after l.fn.start l.digits))
    × (l.number < 2 ^ 128)
