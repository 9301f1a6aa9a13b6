-- Side tables, each with its name.
use Rattle.std.specs.Prelude.{codes, ℕ, ◌+◌, Option, None, Some, List, [], ◌∷◌, if◌then◌else◌}
use Rattle.std.specs.Str.{bytes_eq}
use Rattle.toml.specs.Data.{Data, Members, get_member}
use Rattle.values.specs.Reading.{◌>>=◌, both, must}
use Rattle.view_lang.specs.Config.{SideTable, Table}
use Rattle.view_lang.specs.Limits.{max_side_rows, max_sides}
use Rattle.view_config.specs.Entries.{each_entry, entry_name}
use Rattle.view_config.specs.Reading.{Reading}
use Rattle.view_config.specs.Tables.{table_of}
use Rattle.view_config.specs.Tree.{members_in}
use Rattle.view_config.specs.declared.faults.ConfigFault.TheVariants as fault

-- [side.NAME]
abbrev pub side_named : List ℕ → Table → SideTable
side_named name t = record { name = name; table = t }

unfoldable pub side_of : List ℕ → Data → Reading SideTable
side_of key d = both side_named (entry_name key) (members_in d >>= table_of max_side_rows)

-- at most 4 side tables
abbrev pub sides_of : Members → Reading (List SideTable)
sides_of ms = each_entry max_sides side_of (get_member (codes "side") ms)

-- the side table of this name, with its number, where the first of these has number i
abbrev pub find_side : ℕ → List ℕ → List SideTable → Option (ℕ × SideTable)
find_side i name [] = None
find_side i name (s ∷ ss) = if bytes_eq s.name name then Some (i, s) else find_side (i + 1) name ss

abbrev pub side_called : List SideTable → List ℕ → Reading (ℕ × SideTable)
side_called sides name = must fault.UnknownName (find_side 0 name sides)
