-- Entries of group rows: ordered by the sort keys one after the other, then by the grouping tuple.
use Rattle.std.specs.Prelude.{List}
use Rattle.std.specs.Cmp.{IsTotalOrder}
use Rattle.std.specs.declared.cmp.Ordering.{Ordering}
use Rattle.values.specs.declared.key.Key.{Key}
use Rattle.group_state.specs.Keys.{tuple_cmp, tuple_total}
use Rattle.top_rows.specs.EntryOrder.{tied_cmp, tied_total}
use Rattle.top_rows.specs.declared.sort_key.SortKey.{SortKey}

abbrev pub GroupEntry : Type 0
GroupEntry = List SortKey × List Key

abbrev pub group_entry_cmp : GroupEntry → GroupEntry → Ordering
group_entry_cmp = tied_cmp tuple_cmp

pub group_entry_total : IsTotalOrder group_entry_cmp
group_entry_total = tied_total tuple_cmp tuple_total
