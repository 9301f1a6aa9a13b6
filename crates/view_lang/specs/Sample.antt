-- Two tables with some edits. The main table has a key `k`, a whole number, and `b`, a list of values of 65,535 bytes;
-- the side table has a key `k` and a whole number `z`.
use Rattle.std.specs.Prelude.{ℕ, List, [], ◌∷◌, None, Some, pos, replicate, true}
use Rattle.values.specs.Datum.{Datum, null, whole, list, items_of}
use Rattle.values.specs.Rose.{Rose, node, none, more}
use Rattle.values.specs.declared.layout.IntWidth.TheVariants as int
use Rattle.values.specs.declared.layout.OffsetWidth.TheVariants as offset
use Rattle.values.specs.declared.col_type.ColType.TheVariants as col
use Rattle.values.specs.Logical.{NamedType, item_name}
use Rattle.view_lang.specs.Config.{Table, View}
use Rattle.view_lang.specs.Edits.{Edit, append, edit_at, put, retract}
use Rattle.view_lang.specs.Outputs.{columns}
use Rattle.view_lang.specs.World.{World}
use Rattle.view_lang.specs.declared.view.Missing.TheVariants as missing

abbrev pub key_field : Rose NamedType
key_field = node (record { name = 107 ∷ []; col_type = col.Int int.Bits64 true }) none

abbrev pub item_field : Rose NamedType
item_field = node (record { name = item_name; col_type = col.FixedSizeBinary 65535 }) none

abbrev pub list_field : Rose NamedType
list_field = node (record { name = 98 ∷ []; col_type = col.List offset.Bits32 }) (more item_field none)

abbrev pub zone_field : Rose NamedType
zone_field = node (record { name = 122 ∷ []; col_type = col.Int int.Bits64 true }) none

abbrev pub main_table : Table
main_table = record { key = 0; max_rows = 3; columns = key_field ∷ list_field ∷ [] }

abbrev pub side_table : Table
side_table = record { key = 0; max_rows = 2; columns = key_field ∷ zone_field ∷ [] }

abbrev pub sample_tables : List Table
sample_tables = main_table ∷ side_table ∷ []

abbrev pub number : ℕ → Datum
number n = whole (pos n)

abbrev pub row_with : Datum → Datum → List Datum
row_with first second = first ∷ second ∷ []

-- a list of n nulls, each of the weight 65,536
abbrev pub nulls : ℕ → Datum
nulls n = list (items_of (replicate n null))

-- From the newest on: a side row is removed, one replaces another, two are put; a row of the main table is retracted
-- after three were appended.
abbrev pub sample_edits : List Edit
sample_edits =
    edit_at 1 (retract (number 2 ∷ [])) ∷ edit_at 1 (put (row_with (number 1) (number 20) ∷ []))
    ∷ edit_at 1 (put (row_with (number 1) (number 10) ∷ row_with (number 2) (number 10) ∷ []))
    ∷ edit_at 0 (retract (number 2 ∷ [])) ∷ edit_at 0 (append (row_with (number 3) (nulls 1) ∷ []))
    ∷ edit_at 0 (append (row_with (number 1) null ∷ row_with (number 2) null ∷ [])) ∷ []

abbrev pub sample_world : World
sample_world =
    record { live = row_with (number 1) null ∷ row_with (number 3) (nulls 1) ∷ []; appended = 3 }
    ∷ record { live = row_with (number 1) (number 20) ∷ []; appended = 3 } ∷ []

-- `b` of the main table, and `z` of the side table
abbrev pub sample_view : View
sample_view =
    record {
      name = 118 ∷ [];
      lookup = Some (record { side = 0; on = 0; missing = missing.Null; columns = 2 });
      filter = None;
      outputs = columns (record { name = 98 ∷ []; column = 1 } ∷ record { name = 122 ∷ []; column = 3 } ∷ []);
      order = [];
      first = None;
      coded_outputs = [];
    }

abbrev pub sample_shown : List (List Datum)
sample_shown = (null ∷ number 20 ∷ []) ∷ (nulls 1 ∷ null ∷ []) ∷ []

-- An edit for each cause: a null key with one that is live, a live key, a key twice, a key that isn't live, a row too
-- many, and a list of 16 nulls.

abbrev pub null_key : Edit
null_key = edit_at 0 (append (row_with (number 1) null ∷ row_with null null ∷ []))

abbrev pub live_key : Edit
live_key = edit_at 0 (append (row_with (number 4) null ∷ row_with (number 1) (nulls 16) ∷ []))

abbrev pub repeated_key : Edit
repeated_key = edit_at 0 (retract (number 9 ∷ number 9 ∷ []))

abbrev pub unknown_key : Edit
unknown_key = edit_at 0 (retract (number 1 ∷ number 2 ∷ []))

abbrev pub many_rows : Edit
many_rows = edit_at 0 (append (row_with (number 5) null ∷ row_with (number 6) null ∷ []))

abbrev pub heavy_row : Edit
heavy_row = edit_at 0 (append (row_with (number 5) (nulls 16) ∷ []))

-- a row that is just light enough
abbrev pub light_row : Edit
light_row = edit_at 0 (append (row_with (number 5) (nulls 15) ∷ []))

-- A side row may replace another, but a key may not be there twice, and the rows may not become too many.

abbrev pub put_again : Edit
put_again = edit_at 1 (put (row_with (number 1) null ∷ row_with (number 2) null ∷ []))

abbrev pub put_twice : Edit
put_twice = edit_at 1 (put (row_with (number 3) null ∷ row_with (number 3) null ∷ []))

abbrev pub put_many : Edit
put_many = edit_at 1 (put (row_with (number 3) null ∷ row_with (number 2) null ∷ []))
