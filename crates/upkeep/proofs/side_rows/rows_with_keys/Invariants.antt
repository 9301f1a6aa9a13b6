use Rattle.std.proofs.Common.{map, take}
use Rattle.values.specs.Keys.{datum_of_key}
use Rattle.view_lang.specs.Joined.{side_of}
use Rattle.row_keys.specs.Slots.{contents_of}
use Rattle.upkeep.specs.SideRows.{AreOfKeys}
use Rattle.upkeep.proofs.side_rows.rows_with_keys.Given as goal

abbrev pub invariant-loop-key : goal.invariant-loop-key
invariant-loop-key l =
    AreOfKeys (map datum_of_key (take l.key-index l.keys)) (side_of l.store.table (contents_of l.store.slots))
    l.rows.entries
