-- Cells by ranges of slots: of a struct, child by child. They have a fault exactly where the cells of the rows have it.
use Rattle.std.specs.Prelude.{ℕ, List, Ok, if◌then◌else◌}
use Rattle.values.specs.Reading.{Reading, each, both, second}
use Rattle.values.specs.Datum.{Datum, null}
use Rattle.values.specs.Rose.{Roses, none, more}
use Rattle.array_layout.specs.declared.array.ArrayData.{ArrayData}
use Rattle.array_layout.specs.Buffers.{is_null}
use Rattle.array_layout.specs.Cells.{cell}

-- what a slot reads as where these bits say that it is valid; a null has no fault
unfoldable pub where_valid : List ℕ → (ℕ → Reading Datum) → ℕ → Reading Datum
where_valid bits f i = if is_null bits i then Ok null else f i

-- n slots of each child, the first of them slot i, as far as these bits say that they are valid
abbrev pub columns : List ℕ → List ℕ → Roses ArrayData → ℕ → ℕ → Reading (Unit {0})
columns body bits none i n = Ok tt
columns body bits (more t ts) i n = both second (each (where_valid bits (cell body t)) i n) (columns body bits ts i n)
