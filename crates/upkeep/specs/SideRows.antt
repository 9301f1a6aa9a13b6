-- Rows of a side table by their keys, with a change and without it.
use Rattle.std.specs.Prelude.{◌≡◌, ℕ, ◌++◌, true, cond, List, Option, None, Some, Vec}
use Rattle.std.specs.BTreeMap.{is_at}
use Rattle.std.specs.Map.{lookup}
use Rattle.std.specs.Option.{option_and_then, option_map}
use Rattle.std.specs.declared.alloc.Global.{Global}
use Rattle.values.specs.Datum.{Datum}
use Rattle.values.specs.Keys.{key_of}
use Rattle.values.specs.declared.key.Key.{Key}
use Rattle.view_lang.specs.Config.{View}
use Rattle.view_lang.specs.Contents.{is_among}
use Rattle.view_lang.specs.Joined.{Side, joined_by}
use Rattle.view_lang.specs.Shifts.{Shift, shift}
use Rattle.view_lang.specs.Truth.{passes}
use Rattle.lookups.specs.Refers.{key_cmp}
use Rattle.row_keys.specs.Slots.{Slot}
use Rattle.upkeep.specs.JoinedRows.{side_cells}
use Rattle.upkeep.specs.ViewStates.{projected_by, projected_row, reprojected_by}
use Rattle.upkeep.specs.declared.side_rows.SideRows.{SideRows}
use Rattle.upkeep.specs.declared.sided_row.SidedRow.{SidedRow}

-- the row under each of some keys, or that there is none
abbrev pub RowsByKey : Type 0
RowsByKey = List (Key × Option (Vec Datum Global))

-- what is known of a key: nothing, that it has no row, or its row
abbrev pub known_at : RowsByKey → Option Key → Option (Option (Vec Datum Global))
known_at rows k = option_and_then (λ x. lookup (is_at (key_cmp x)) rows) k

abbrev pub row_in : Option (Option (Vec Datum Global)) → Option (List Datum)
row_in None = None
row_in (Some None) = None
row_in (Some (Some row)) = Some row.items

-- the side table that has these rows
abbrev pub side_of_rows : RowsByKey → Side
side_of_rows rows d = row_in (known_at rows (key_of d))

-- For each of these keys this is the row of a side table, or there is none.
abbrev pub AreOfKeys : List Datum → Side → RowsByKey → Type 0
AreOfKeys keys side rows = (d : Datum) → is_among d keys ≡ true → side_of_rows rows d ≡ side d

-- the change of a view's projected rows, of the rows of these numbers, where it looks up the rows after a change of the
-- side table in place of those before it
abbrev pub sided_change : List Slot → View → SideRows → List ℕ → List Shift
sided_change slots v sides ns =
    reprojected_by (projected_row v (side_of_rows sides.before.entries))
    (projected_row v (side_of_rows sides.after.entries)) slots ns

-- the projected row of a row with this row of a side table
abbrev pub kept_with : View → List Datum → Option (List Datum) → Option (List Datum)
kept_with v row found = option_and_then (λ r. cond (passes v.filter r) (Some r) None) (joined_by v.lookup row found)

abbrev pub sided_cells : SidedRow → List Datum
sided_cells s = s.main.now ++ side_cells (option_map (λ cells. cells.now) s.side) s.nulls

-- the change at a number where the projected row of a row of the main table was one and is another now
abbrev pub sided_shift : View → ℕ → Option SidedRow → Option SidedRow → Shift
sided_shift v n before after =
    shift n (projected_by v.outputs (option_map sided_cells before))
    (projected_by v.outputs (option_map sided_cells after))
