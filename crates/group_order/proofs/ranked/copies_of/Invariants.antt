use Rattle.std.proofs.Common.{◌≡◌, take}
use Rattle.view_lang.specs.Cells.{rows_of}
use Rattle.group_order.proofs.ranked.copies_of.Given as goal

abbrev pub invariant-loop-row : goal.invariant-loop-row
invariant-loop-row l = rows_of l.copies.items ≡ take l.row-index l.rows
