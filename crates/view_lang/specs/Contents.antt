-- What a table holds, and what it holds after an edit.
use Rattle.std.specs.Prelude.{ℕ, ◌+◌, ◌++◌, Bool, false, not, ◌||◌, List, [], ◌∷◌, filter, length, map}
use Rattle.std.specs.Ordering.{is_eq}
use Rattle.values.specs.Datum.{Datum}
use Rattle.values.specs.Order.{datum_cmp}
use Rattle.view_lang.specs.Cells.{cell_at}
use Rattle.view_lang.specs.Config.{Table}
use Rattle.view_lang.specs.Edits.{TableEdit, append, put, retract}

-- the live rows in the order in which they were added, and how many rows were added in all, removed ones too
pub record Contents : Type 0 where
  pub live : List (List Datum)
  pub appended : ℕ

abbrev pub no_contents : Contents
no_contents = record { live = []; appended = 0 }

-- Two keys are the same where their values are: neither comes before the other.
abbrev pub same_key : Datum → Datum → Bool
same_key a b = is_eq (datum_cmp a b)

unfoldable pub is_among : Datum → List Datum → Bool
is_among key [] = false
is_among key (k ∷ ks) = same_key key k || is_among key ks

abbrev pub key_in : Table → List Datum → Datum
key_in t row = cell_at row t.key

abbrev pub keys_in : Table → List (List Datum) → List Datum
keys_in t rows = map (key_in t) rows

-- the rows whose keys aren't among these
unfoldable pub without : Table → List Datum → List (List Datum) → List (List Datum)
without t keys rows = filter (λ row. not (is_among (key_in t row) keys)) rows

abbrev pub with_rows : List (List Datum) → Contents → Contents
with_rows rows c = record { live = c.live ++ rows; appended = c.appended + length rows }

abbrev pub without_keys : Table → List Datum → Contents → Contents
without_keys t keys c = record { live = without t keys c.live; appended = c.appended }

-- the table after an edit
abbrev pub applied : Table → TableEdit → Contents → Contents
applied t (append rows) c = with_rows rows c
applied t (retract keys) c = without_keys t keys c
applied t (put rows) c = with_rows rows (without_keys t (keys_in t rows) c)
