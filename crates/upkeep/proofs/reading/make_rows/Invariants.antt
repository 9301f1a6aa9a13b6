use Rattle.std.proofs.Common.{◌≡◌, ◌≤◌, ◌+◌, take}
use Rattle.view_lang.specs.Cells.{rows_of}
use Rattle.upkeep.specs.Inputs.{side_by}
use Rattle.upkeep.specs.Reading.{projected_at}
use Rattle.upkeep.specs.Stores.{HaveSameRows, rows_at, rows_in, tables_in, visits_in}
use Rattle.upkeep.proofs.reading.make_rows.Given as goal

abbrev pub invariant-loop-number : goal.invariant-loop-number
invariant-loop-number l = record {
  made :
      rows_of l.made.items
      ≡ projected_at l.view (side_by (tables_in l.fn.stores.items) (rows_in l.fn.stores.items) l.view)
      (rows_at (rows_in l.fn.stores.items) 0) (take l.number-index l.numbers);
  same_rows : HaveSameRows l.fn.stores.items l.stores.items;
  visits : visits_in l.stores.items ≤ visits_in l.fn.stores.items + l.number-index;
}
