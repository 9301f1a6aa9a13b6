-- What contracts see of the entries of an order, however they are stored.
use Rattle.std.specs.Prelude.{List}
use Rattle.top_rows.specs.EntryOrder.{RowEntry}
use Rattle.top_rows.specs.declared.row_entries.Form.{Form}
use Rattle.top_rows.specs.declared.row_entries.Form.TheVariants.{Entries, OneKey, TwoKeys}

abbrev pub entries_in : Form → List RowEntry
entries_in (OneKey entries) = entries
entries_in (TwoKeys entries) = entries
entries_in (Entries entries) = entries.keys
