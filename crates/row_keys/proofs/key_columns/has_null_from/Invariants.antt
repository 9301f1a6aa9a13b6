use Rattle.std.proofs.Common.{◌≡◌, drop}
use Rattle.view_lang.specs.Causes.{has_null}
use Rattle.row_keys.proofs.key_columns.has_null_from.Given as goal

abbrev pub invariant-loop-index : goal.invariant-loop-index
invariant-loop-index l = has_null (drop l.index l.column.cells) ≡ has_null (drop l.from l.column.cells)
