use Rattle.std.proofs.Common.{◌≡◌, ◌++◌, drop}
use Rattle.std.specs.Prelude.{map}
use Rattle.body_writer.specs.RowRanges.{ranges_rows}
use Rattle.row_keys.specs.LookedUp.{AreFound, AreLive, found_rows, row_for}
use Rattle.row_keys.proofs.looking_up.look_up_all.Given as goal

abbrev pub invariant-loop-range : goal.invariant-loop-range
invariant-loop-range l = record {
  rows : found_rows l.side l.numbers.items ++ map (row_for l.side l.on) (ranges_rows (drop l.range-index l.ranges))
      ≡ map (row_for l.side l.on) (ranges_rows l.ranges);
  live : AreLive l.side l.numbers.items;
  found : AreFound l.side l.found.items;
}
