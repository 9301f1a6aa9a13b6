use Rattle.std.proofs.Common.{◌≡◌, ◌++◌, filter}
use Rattle.view_lang.specs.Cells.{rows_of}
use Rattle.view_lang.specs.Truth.{passes}
use Rattle.view_lang.proofs.rows.passing_rows.Given as goal

abbrev pub invariant-loop-row : goal.invariant-loop-row
invariant-loop-row l =
    rows_of l.kept.items ++ filter (passes l.test) (rows_of l.row-iterator.rest.items)
    ≡ filter (passes l.test) (rows_of l.fn.rows.items)
