-- What contracts see of the entries of group rows, however they are stored.
use Rattle.std.specs.Prelude.{List, map}
use Rattle.values.specs.declared.key.Key.{Key}
use Rattle.top_rows.specs.ShortEntries.{short_entry, sort_keys_of_one}
use Rattle.top_rows.specs.declared.short_key.ShortKey.{ShortKey}
use Rattle.group_order.specs.GroupEntries.{GroupEntry}
use Rattle.group_order.specs.declared.group_entries.Form.{Form}
use Rattle.group_order.specs.declared.group_entries.Form.TheVariants.{Entries, Short}

-- a short key, and the tuple of a group
abbrev pub ShortPair : Type 0
ShortPair = ShortKey × List Key

abbrev pub entries_in : Form → List GroupEntry
entries_in (Short pairs) = map (short_entry sort_keys_of_one) pairs.keys
entries_in (Entries entries) = entries.keys
