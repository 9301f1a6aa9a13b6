-- The rows of a record batch, and the values of a dictionary batch: Arrow Columnar Format, "RecordBatch message" and
-- "Dictionary Messages". Row i has the i-th cell of each column.
use Rattle.std.specs.Prelude.{ℕ, ℤ, zero, suc, ◌+◌, List, [], ◌∷◌, map, get_or, Ok}
use Rattle.values.specs.Datum.{Datum, null}
use Rattle.values.specs.Reading.{Reading, ◌>>=◌, both, cons, mapped, must}
use Rattle.values.specs.Rose.{Rose, Roses, none, more}
use Rattle.values.specs.declared.faults.StreamFault.TheVariants as fault
use Rattle.array_layout.specs.declared.array.ArrayData.{ArrayData}
use Rattle.array_layout.specs.Cells.{column_of}
use Rattle.schema_meta.specs.Entry.{Entry}
use Rattle.schema_meta.specs.BatchHead.{BatchHead}
use Rattle.schema_meta.specs.declared.header.DictionaryHeader.{DictionaryHeader}
use Rattle.schema_meta.specs.Dictionaries.{value_type}
use Rattle.schema_meta.specs.Parts.{arrays_of, values_array}

-- the columns, each checked by itself
unfoldable pub columns_in : List ℕ → Roses ArrayData → Reading (List (List Datum))
columns_in body none = Ok []
columns_in body (more t ts) = both cons (column_of body t) (columns_in body ts)

abbrev pub row_at : List (List Datum) → ℕ → List Datum
row_at columns i = map (λ c. get_or c i null) columns

-- n rows, the first of them row i
unfoldable pub rows_from : List (List Datum) → ℕ → ℕ → List (List Datum)
rows_from columns i zero = []
rows_from columns i (suc n) = row_at columns i ∷ rows_from columns (i + 1) n

abbrev pub rows_in : ℕ → List (List Datum) → List (List Datum)
rows_in n columns = rows_from columns 0 n

-- the rows of a batch of these fields, whose dictionaries have these values, or the faults of its body, of the body
-- stage
unfoldable pub rows_of : (ℤ → List Datum) → List (Rose Entry) → BatchHead → List ℕ → Reading (List (List Datum))
rows_of values fields head body = mapped (rows_in head.rows) (columns_in body (arrays_of values fields head))

-- the values of a dictionary batch, or the faults of its body, of the body stage
unfoldable pub values_of : List (Rose Entry) → DictionaryHeader → List ℕ → Reading (List Datum)
values_of fields d body =
    must fault.UnknownDictionary (value_type fields d.id) >>= λ s. column_of body (values_array s d.batch)
