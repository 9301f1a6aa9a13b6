use Rattle.std.proofs.Common.{◌≡◌, ◌++◌, drop}
use Rattle.row_keys.specs.RowsLeft.{unflagged}
use Rattle.row_keys.proofs.rewriting.push_numbers.Given as goal

abbrev pub invariant-loop-index : goal.invariant-loop-index
invariant-loop-index l =
    l.numbers.items ++ unflagged (drop l.index l.chunk.gone) (drop l.index l.chunk.numbers)
    ≡ l.fn.numbers.items ++ unflagged (drop l.from l.chunk.gone) (drop l.from l.chunk.numbers)
