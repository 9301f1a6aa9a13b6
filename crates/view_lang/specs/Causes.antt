-- Why an edit doesn't fit its table: the causes that apply, and the least of them.
use Rattle.std.specs.Prelude.{◌+◌, Bool, true, false, cond, not, ◌||◌, nat_lt, List, [], ◌∷◌, Option, find, length}
use Rattle.values.specs.Datum.{Datum, items_of, is_null}
use Rattle.values.specs.Rose.{Roses, none, more, kids_of}
use Rattle.values.specs.declared.layout.Layout.{Layout}
use Rattle.values.specs.Layouts.{row_weight, weight}
use Rattle.values.specs.Limits.{max_cell_weight, max_row_weight}
use Rattle.values.specs.Logical.{trees_of}
use Rattle.view_lang.specs.Limits.{max_appended_rows}
use Rattle.view_lang.specs.Config.{Table}
use Rattle.view_lang.specs.Contents.{Contents, is_among, keys_in, without_keys}
use Rattle.view_lang.specs.Edits.{Edit, TableEdit, append, put, retract}
use Rattle.view_lang.specs.World.{World, contents_at, table_at}
use Rattle.view_lang.specs.declared.unfit.Unfit.{Unfit}
use Rattle.view_lang.specs.declared.unfit.Unfit.TheVariants as unfit

unfoldable pub has_null : List Datum → Bool
has_null [] = false
has_null (k ∷ ks) = is_null k || has_null ks

-- a key is there twice
unfoldable pub has_repeated : List Datum → Bool
has_repeated [] = false
has_repeated (k ∷ ks) = is_among k ks || has_repeated ks

unfoldable pub any_among : List Datum → List Datum → Bool
any_among [] others = false
any_among (k ∷ ks) others = is_among k others || any_among ks others

unfoldable pub all_among : List Datum → List Datum → Bool
all_among [] others = true
all_among (k ∷ ks) others = cond (is_among k others) (all_among ks others) false

-- a cell is above the limit of a cell's weight
unfoldable pub has_heavy_cell : Roses Layout → List Datum → Bool
has_heavy_cell none row = false
has_heavy_cell (more t ts) [] = false
has_heavy_cell (more t ts) (c ∷ cs) = nat_lt max_cell_weight (weight t c) || has_heavy_cell ts cs

-- a row, or one of its cells, is above its limit
unfoldable pub is_heavy : Roses Layout → List Datum → Bool
is_heavy ls row = nat_lt max_row_weight (row_weight ls (items_of row)) || has_heavy_cell ls row

unfoldable pub any_heavy : Roses Layout → List (List Datum) → Bool
any_heavy ls [] = false
any_heavy ls (row ∷ rows) = is_heavy ls row || any_heavy ls rows

-- the layouts of a table's columns
abbrev pub layouts_of : Table → Roses Layout
layouts_of t = trees_of (kids_of t.columns)

-- Whether a cause applies to rows that are added after all others.
abbrev pub rows_have_cause : Table → Contents → List (List Datum) → Unfit → Bool
rows_have_cause t c rows unfit.NullKey = has_null (keys_in t rows)
rows_have_cause t c rows unfit.DuplicateKey =
    has_repeated (keys_in t rows) || any_among (keys_in t rows) (keys_in t c.live)
rows_have_cause t c rows unfit.UnknownKey = false
rows_have_cause t c rows unfit.TooManyRows =
    nat_lt t.max_rows (length c.live + length rows) || nat_lt max_appended_rows (c.appended + length rows)
rows_have_cause t c rows unfit.CellTooHeavy = any_heavy (layouts_of t) rows

-- Whether a cause applies to keys whose rows are to be removed. Weight is no cause here: keys of live rows aren't too
-- heavy.
abbrev pub keys_have_cause : Table → Contents → List Datum → Unfit → Bool
keys_have_cause t c keys unfit.NullKey = has_null keys
keys_have_cause t c keys unfit.DuplicateKey = has_repeated keys
keys_have_cause t c keys unfit.UnknownKey = not (all_among keys (keys_in t c.live))
keys_have_cause t c keys unfit.TooManyRows = false
keys_have_cause t c keys unfit.CellTooHeavy = false

-- Rows that are put are added after the others once those with their keys are removed.
abbrev pub stands : Table → Contents → TableEdit → Unfit → Bool
stands t c (append rows) u = rows_have_cause t c rows u
stands t c (retract keys) u = keys_have_cause t c keys u
stands t c (put rows) u = rows_have_cause t (without_keys t (keys_in t rows) c) rows u

-- all causes, in the order of their numbers
abbrev pub causes : List Unfit
causes = unfit.NullKey ∷ unfit.DuplicateKey ∷ unfit.UnknownKey ∷ unfit.TooManyRows ∷ unfit.CellTooHeavy ∷ []

-- the least cause that applies; none where the edit fits
unfoldable pub cause_of : Table → Contents → TableEdit → Option Unfit
cause_of t c e = find (stands t c e) causes

abbrev pub cause_in : List Table → World → Edit → Option Unfit
cause_in tables w e = cause_of (table_at tables e.table) (contents_at w e.table) e.change
