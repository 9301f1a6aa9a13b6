-- The entries of rows are stored sorted.
use Rattle.std.specs.Prelude.{◌≡◌}
use Rattle.std.specs.List.Sorted.{IsStrictlySortedBy}
use Rattle.std.specs.Map.{keys_of}
use Rattle.std.specs.Ordering.{nat_cmp}
use Rattle.view_lang.specs.Shifts.{NumberedRows}
use Rattle.top_rows.specs.Keeping.{Keeps}
use Rattle.top_rows.specs.OrderedEntries.{OrderedEntries}
use Rattle.top_rows.specs.EntryOrder.{entry_cmp}
use Rattle.top_rows.specs.Ties.{placed_by}

abbrev pub EntriesAreSorted : Type 0
EntriesAreSorted =
    (kept : OrderedEntries) (rows : NumberedRows) → IsStrictlySortedBy nat_cmp (keys_of rows)
    → IsStrictlySortedBy entry_cmp kept.order_entries → Keeps kept rows
    → kept.order_entries ≡ placed_by nat_cmp kept.order rows
