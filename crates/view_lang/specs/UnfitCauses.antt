-- The cause for which an unfit edit is refused: the one of the same name.
use Rattle.values.specs.declared.causes.Cause.{Cause}
use Rattle.values.specs.declared.causes.Cause.TheVariants as cause
use Rattle.view_lang.specs.declared.unfit.Unfit.{Unfit}
use Rattle.view_lang.specs.declared.unfit.Unfit.TheVariants as unfit

abbrev pub named : Unfit → Cause
named unfit.NullKey = cause.NullKey
named unfit.DuplicateKey = cause.DuplicateKey
named unfit.UnknownKey = cause.UnknownKey
named unfit.TooManyRows = cause.TooManyRows
named unfit.CellTooHeavy = cause.CellTooHeavy
