use Rattle.std.proofs.Common.{◌≤◌, ◌+◌, take}
use Rattle.view_lang.specs.Shifts.{Fits, NumberedRows, patched}
use Rattle.upkeep.specs.SideRows.{sided_change}
use Rattle.upkeep.specs.Stores.{HaveSameRows, rows_at, rows_in, visits_in}
use Rattle.upkeep.specs.ViewStates.{IsMaterialized}
use Rattle.upkeep.proofs.remaking.remake_numbers.Given as goal

abbrev pub invariant-loop-index : goal.invariant-loop-index
invariant-loop-index l = record {
  kept :
      (rows : NumberedRows)
      → Fits rows (sided_change (rows_at (rows_in l.fn.stores.items) 0) l.view l.sides l.numbers)
      → IsMaterialized l.view l.fn.kept rows
      → IsMaterialized l.view l.kept (patched rows (take l.index
      (sided_change (rows_at (rows_in l.fn.stores.items) 0) l.view l.sides l.numbers)));
  same_rows : HaveSameRows l.fn.stores.items l.stores.items;
  visits : visits_in l.stores.items ≤ visits_in l.fn.stores.items + l.index;
}
