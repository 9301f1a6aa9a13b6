-- The columns of joined rows, of feeds and of views.
use Rattle.std.specs.Prelude.{suc, ◌++◌, List, [], ◌∷◌, map, Option, None, Some}
use Rattle.values.specs.Logical.{NamedType}
use Rattle.values.specs.Rose.{Rose}
use Rattle.view_lang.specs.Aggregates.{aggregate_field}
use Rattle.view_lang.specs.Config.{Table, View}
use Rattle.view_lang.specs.Edits.{table_of}
use Rattle.view_lang.specs.Fields.{field_at, renamed}
use Rattle.view_lang.specs.Outputs.{Output, Outputs, columns, groups}
use Rattle.view_lang.specs.World.{table_at}
use Rattle.view_lang.specs.declared.config.Role.{Role}
use Rattle.view_lang.specs.declared.config.Role.TheVariants as role
use Rattle.view_lang.specs.declared.view.Lookup.{Lookup}

-- The columns of a feed's batches: all columns of its table, or the key column alone.

abbrev pub key_column : Table → List (Rose NamedType)
key_column t = field_at t.columns t.key ∷ []

abbrev pub columns_by : Role → Table → List (Rose NamedType)
columns_by role.Append t = t.columns
columns_by role.Retract t = key_column t
columns_by (role.Put side) t = t.columns
columns_by (role.Drop side) t = key_column t

abbrev pub feed_columns : List Table → Role → List (Rose NamedType)
feed_columns tables r = columns_by r (table_at tables (table_of r))

-- The columns of a view.

-- the columns of the joined rows from which a view is computed
abbrev pub joined_columns : List Table → Option Lookup → List (Rose NamedType)
joined_columns tables None = (table_at tables 0).columns
joined_columns tables (Some l) = (table_at tables 0).columns ++ (table_at tables (suc l.side)).columns

abbrev pub output_field : List (Rose NamedType) → Output → Rose NamedType
output_field fields o = renamed o.name (field_at fields o.column)

abbrev pub output_fields : List (Rose NamedType) → Outputs → List (Rose NamedType)
output_fields fields (columns outputs) = map (output_field fields) outputs
output_fields fields (groups by outputs having) = map (λ o. aggregate_field fields by o.name o.aggregate) outputs

abbrev pub view_columns : List Table → View → List (Rose NamedType)
view_columns tables v = output_fields (joined_columns tables v.lookup) v.outputs
