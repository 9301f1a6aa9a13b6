use Rattle.std.proofs.Common.{take}
use Rattle.row_keys.specs.KeyColumns.{PushesKeys}
use Rattle.row_keys.proofs.key_columns.push_keys.Given as goal

abbrev pub invariant-loop-index : goal.invariant-loop-index
invariant-loop-index l = PushesKeys (take l.index l.column.cells) l.fn.numbers l.numbers
