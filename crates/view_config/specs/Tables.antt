-- A table of the configuration: its columns, and which of them is the key.
use Rattle.std.specs.Prelude.{codes, ℕ, nat_le, not, ◌&&◌, Ok, List, [], ◌∷◌}
use Rattle.toml.specs.Data.{as_str, Data, Items, Members}
use Rattle.values.specs.Limits.{max_depth, max_main_rows}
use Rattle.values.specs.Reading.{◌>>=◌, both, first, mapped, must, refused_if}
use Rattle.values.specs.Rose.{Rose}
use Rattle.values.specs.Logical.{NamedType}
use Rattle.view_lang.specs.Config.{Table}
use Rattle.view_lang.specs.Limits.{max_columns}
use Rattle.view_config.specs.Reading.{Reading}
use Rattle.view_config.specs.Tree.{each_item, items_in, members_in, text_in, needed, only, count_items, pair_in}
use Rattle.view_config.specs.Columns.{find, ordered}
use Rattle.view_config.specs.ColumnTypes.{field_of}
use Rattle.view_config.specs.Limits.{column_name, column_limits}
use Rattle.view_config.specs.declared.faults.ConfigFault.TheVariants as fault

-- [name, type]
unfoldable pub column_of : Data → Reading (Rose NamedType)
column_of d = do
  parts ← must fault.Shape (pair_in d)
  name ← must fault.Shape (as_str parts.0)
  both first (field_of max_depth name parts.1) (column_name name)

-- 1 to 64 columns or outputs
abbrev pub few_columns : Items → Reading (Unit {0})
few_columns ds = refused_if fault.OverLimit (not (nat_le 1 (count_items ds) && nat_le (count_items ds) max_columns))

unfoldable pub columns_of : Data → Reading (List (Rose NamedType))
columns_of d = do
  ds ← items_in d
  _ ← few_columns ds
  cs ← each_item column_of ds
  _ ← column_limits cs
  Ok cs

-- the column of this name, whose values must have an order
unfoldable pub ordered_column : List (Rose NamedType) → List ℕ → Reading (ℕ × Rose NamedType)
ordered_column cs name = must fault.UnknownName (find 0 name cs) >>= ordered

abbrev pub key_of : List (Rose NamedType) → List ℕ → Reading ℕ
key_of cs name = mapped (λ f. f.0) (ordered_column cs name)

abbrev pub table_entries : List (List ℕ)
table_entries = codes "key" ∷ codes "columns" ∷ []

abbrev pub keyed : ℕ → List (Rose NamedType) → ℕ → Table
keyed max_rows cs key = record { key = key; max_rows = max_rows; columns = cs }

-- a table that may have at most this many live rows
unfoldable pub table_of : ℕ → Members → Reading Table
table_of max_rows ms = do
  _ ← only table_entries ms
  name ← needed (codes "key") ms >>= text_in
  cs ← needed (codes "columns") ms >>= columns_of
  mapped (keyed max_rows cs) (key_of cs name)

-- [main]
unfoldable pub main_of : Members → Reading Table
main_of ms = needed (codes "main") ms >>= members_in >>= table_of max_main_rows
