use Rattle.std.proofs.Common.{◌≡◌, ◌++◌, ◌-◌, take, drop}
use Rattle.body_writer.proofs.from_columns.gather.push_values.Given as goal

abbrev pub invariant-loop-i : goal.invariant-loop-i
invariant-loop-i l =
    l.values.items ++ take (l.to - l.i) (drop l.i l.column.cells)
    ≡ l.fn.values.items ++ take (l.to - l.from) (drop l.from l.column.cells)
