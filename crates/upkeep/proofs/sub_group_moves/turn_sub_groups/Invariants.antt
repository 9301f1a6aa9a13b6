use Rattle.std.proofs.Common.{◌≡◌, List}
use Rattle.values.specs.Datum.{Datum}
use Rattle.group_order.specs.Ranked.{Keeps as KeepsRanked}
use Rattle.upkeep.specs.Inputs.{side_by}
use Rattle.upkeep.specs.Moves.{AreGrouped, out_at, projected_but}
use Rattle.upkeep.specs.Stores.{rows_in, tables_in}
use Rattle.upkeep.proofs.sub_group_moves.turn_sub_groups.Given as goal

abbrev pub invariant-loop-index : goal.invariant-loop-index
invariant-loop-index l = record {
  kept :
      (rows : List (List Datum)) → AreGrouped (tables_in l.stores) l.view l.sub_groups rows
      → KeepsRanked l.fn.groups (projected_but l.view (side_by (tables_in l.stores) (rows_in l.stores) l.view)
      l.sub_groups.groups.keys (out_at l.turn 0 l.tuples) rows)
      → KeepsRanked l.groups (projected_but l.view (side_by (tables_in l.stores) (rows_in l.stores) l.view)
      l.sub_groups.groups.keys (out_at l.turn l.index l.tuples) rows);
  keys : l.groups.groups.keys ≡ l.fn.groups.groups.keys;
  columns : l.groups.groups.columns ≡ l.fn.groups.groups.columns;
  ranking : l.groups.ranking ≡ l.fn.groups.ranking;
}
