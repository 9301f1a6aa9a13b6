use Rattle.std.proofs.Common.{take}
use Rattle.row_keys.specs.Found.{FindsAll}
use Rattle.row_keys.proofs.key_columns.find_live.Given as goal

abbrev pub invariant-loop-index : goal.invariant-loop-index
invariant-loop-index l = FindsAll (take l.index l.column.cells) l.numbers l.found.items
