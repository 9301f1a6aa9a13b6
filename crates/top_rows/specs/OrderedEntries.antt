-- What contracts see of ordered rows.
use Rattle.std.specs.Prelude.{List}
use Rattle.view_lang.specs.declared.view.OrderBy.{OrderBy}
use Rattle.top_rows.specs.EntryOrder.{RowEntry}

-- the order, and the entries of the rows
pub record OrderedEntries : Type 0 where
  pub order : List OrderBy
  pub order_entries : List RowEntry
