-- Lookups: which side table a view's rows are joined with.
use Rattle.std.specs.Prelude.{codes, ℕ, not, Bool, false, Option, None, Some, Ok, List, [], ◌∷◌, if◌then◌else◌, length}
use Rattle.std.specs.Prelude.{slice_get}
use Rattle.std.specs.Str.{bytes_eq}
use Rattle.toml.specs.Data.{Data}
use Rattle.values.specs.Logical.{NamedType}
use Rattle.values.specs.Reading.{◌>>=◌, must, refused_if}
use Rattle.values.specs.Rose.{Rose}
use Rattle.values.specs.declared.col_type.ColType.{ColType}
use Rattle.values.specs.contracts.col_type.ColTypePartialEq.TheImpl as equality
use Rattle.view_lang.specs.Config.{SideTable, Table}
use Rattle.view_lang.specs.TableRules.{type_of}
use Rattle.view_lang.specs.declared.view.Lookup.{Lookup}
use Rattle.view_lang.specs.declared.view.Missing.{Missing}
use Rattle.view_lang.specs.declared.view.Missing.TheVariants as missing
use Rattle.view_config.specs.Reading.{Reading}
use Rattle.view_config.specs.Sides.{side_called}
use Rattle.view_config.specs.Tables.{ordered_column}
use Rattle.view_config.specs.Tree.{members_in, needed, only, text_in}
use Rattle.view_config.specs.declared.faults.ConfigFault.TheVariants as fault

abbrev pub missing_by : List ℕ → Option Missing
missing_by w =
    if bytes_eq w (codes "null") then Some missing.Null
    else if bytes_eq w (codes "drop") then Some missing.Drop else None

-- A column is compared with one of its own type.
abbrev pub is_alike : ColType → Option (Rose NamedType) → Bool
is_alike t None = false
is_alike t (Some f) = equality.ghosts.eq t (type_of f)

-- the type of a table's key is this one
abbrev pub has_key_of : ColType → Table → Bool
has_key_of t table = is_alike t (slice_get table.columns table.key)

-- a lookup, and the side table that it is in
abbrev pub Looked : Type 0
Looked = Lookup × SideTable

abbrev pub looked_up : ℕ × SideTable → ℕ → Missing → Looked
looked_up s on m =
    (record { side = s.0; on = on; missing = m; columns = length s.1.table.columns }, s.1)

abbrev pub lookup_entries : List (List ℕ)
lookup_entries = codes "side" ∷ codes "on" ∷ codes "missing" ∷ []

-- { side, on, missing }
unfoldable pub lookup_of : Table → List SideTable → Data → Reading Looked
lookup_of main sides d = do
  ms ← members_in d
  _ ← only lookup_entries ms
  side_name ← needed (codes "side") ms >>= text_in
  on_name ← needed (codes "on") ms >>= text_in
  word ← needed (codes "missing") ms >>= text_in
  m ← must fault.Shape (missing_by word)
  side ← side_called sides side_name
  on ← ordered_column main.columns on_name
  _ ← refused_if fault.ConstantType (not (has_key_of (type_of on.1) side.1.table))
  Ok (looked_up side on.0 m)
