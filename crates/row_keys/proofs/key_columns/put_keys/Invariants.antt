use Rattle.std.proofs.Common.{take}
use Rattle.row_keys.specs.PutKeys.{PutsKeys}
use Rattle.row_keys.proofs.key_columns.put_keys.Given as goal

abbrev pub invariant-loop-index : goal.invariant-loop-index
invariant-loop-index l = PutsKeys (take l.index l.column.cells) l.fn.numbers l.replaced.items l.numbers
