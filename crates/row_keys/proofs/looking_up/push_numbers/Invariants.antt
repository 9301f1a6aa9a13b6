use Rattle.std.proofs.Common.{◌≡◌, ◌++◌, ◌≤◌}
use Rattle.std.specs.Prelude.{map}
use Rattle.body_writer.specs.RowRanges.{cells_in, range_rows}
use Rattle.row_keys.specs.LookedUp.{AreFound, AreLive, found_rows, row_for}
use Rattle.row_keys.proofs.SideLookups.{rows_between}
use Rattle.row_keys.proofs.looking_up.push_numbers.Given as goal

abbrev pub invariant-loop-index : goal.invariant-loop-index
invariant-loop-index l = record {
  past : l.range.from ≤ l.index;
  rows : found_rows l.side l.numbers.items
      ++ map (row_for l.side l.on)
      (rows_between (cells_in l.range.batch.now.columns.items) l.range.batch.now.rows l.index l.range.to)
      ≡ found_rows l.side l.fn.numbers.items ++ map (row_for l.side l.on) (range_rows l.range);
  live : AreLive l.side l.fn.numbers.items → AreLive l.side l.numbers.items;
  found : AreFound l.side l.found.items;
}
