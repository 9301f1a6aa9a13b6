-- The keys of a table, however they are stored.
use Rattle.std.specs.Prelude.{List, []}
use Rattle.values.specs.declared.key.Key.{Key}
use Rattle.row_keys.specs.declared.key_table.Form.{Form}
use Rattle.row_keys.specs.declared.key_table.Form.TheVariants.{Empty, Mixed, Numbers}

abbrev pub keys_in : Form → List Key
keys_in Empty = []
keys_in (Numbers keys) = keys
keys_in (Mixed keys) = keys
