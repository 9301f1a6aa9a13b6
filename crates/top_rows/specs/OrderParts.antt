-- Orders of rows taken apart.
use Rattle.std.specs.List.Sorted.{IsStrictlySortedBy}
use Rattle.std.specs.Prelude.{map}
use Rattle.top_rows.specs.OrderedEntries.{OrderedEntries}
use Rattle.top_rows.specs.EntryOrder.{RowEntry, entry_cmp}
use Rattle.top_rows.specs.declared.parts.OrderedParts.{OrderedParts}
use Rattle.top_rows.specs.declared.parts.OrderEntryParts.{OrderEntryParts}

-- the entry that has these parts
abbrev pub entry_with : OrderEntryParts → RowEntry
entry_with p = (p.sort_keys.items, p.number)

-- the order that has these parts
abbrev pub ordered_with : OrderedParts → OrderedEntries
ordered_with p = record { order = p.order.items; order_entries = map entry_with p.order_entries.items }

-- The entries ascend.
abbrev pub AreAscending : OrderedParts → Type 0
AreAscending p = IsStrictlySortedBy entry_cmp (map entry_with p.order_entries.items)
