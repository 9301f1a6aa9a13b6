-- Rows of the main table with the columns of a side table.
use Rattle.std.specs.Prelude.{ℕ, List, ◌++◌, find, replicate, Option, None, Some}
use Rattle.std.specs.Option.{option_map}
use Rattle.std.specs.List.{filter_map}
use Rattle.values.specs.Datum.{Datum, null}
use Rattle.view_lang.specs.Cells.{cell_at}
use Rattle.view_lang.specs.Config.{Table}
use Rattle.view_lang.specs.Contents.{Contents, key_in, same_key}
use Rattle.view_lang.specs.declared.view.Lookup.{Lookup}
use Rattle.view_lang.specs.declared.view.Missing.{Missing}
use Rattle.view_lang.specs.declared.view.Missing.TheVariants as missing

-- a side table: the row of each key
abbrev pub Side : Type 0
Side = Datum → Option (List Datum)

-- A null is no row's key.
unfoldable pub side_of : Table → Contents → Side
side_of t c null = None
side_of t c key = find (λ row. same_key key (key_in t row)) c.live

-- where there is no row: nulls, or nothing
abbrev pub or_missing : Missing → ℕ → Option (List Datum) → Option (List Datum)
or_missing m n (Some cells) = Some cells
or_missing missing.Null n None = Some (replicate n null)
or_missing missing.Drop n None = None

-- a row with the cells of the side table's row, if there is one
abbrev pub joined_by : Option Lookup → List Datum → Option (List Datum) → Option (List Datum)
joined_by None row cells = Some row
joined_by (Some l) row cells = option_map (λ more. row ++ more) (or_missing l.missing l.columns cells)

-- the side table's row for a row
abbrev pub looked_up : Option Lookup → Side → List Datum → Option (List Datum)
looked_up None side row = None
looked_up (Some l) side row = side (cell_at row l.on)

-- a row of the main table, joined; `None` where it is left out
unfoldable pub joined_row : Option Lookup → Side → List Datum → Option (List Datum)
joined_row l side row = joined_by l row (looked_up l side row)

-- all rows of the main table, joined
unfoldable pub joined : Option Lookup → Side → List (List Datum) → List (List Datum)
joined l side rows = filter_map (joined_row l side) rows
