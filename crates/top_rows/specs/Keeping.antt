-- When an order is that of some rows: it has an entry where the row of its number has its sort keys.
use Rattle.std.specs.Ordering.{nat_cmp}
use Rattle.view_lang.specs.Shifts.{NumberedRows}
use Rattle.top_rows.specs.OrderedEntries.{OrderedEntries}
use Rattle.top_rows.specs.Ties.{KeepsBy, named}

abbrev pub Keeps : OrderedEntries → NumberedRows → Type 0
Keeps kept rows = KeepsBy nat_cmp kept.order kept.order_entries (named nat_cmp rows)
