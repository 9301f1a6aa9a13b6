-- The checked columns of a batch: their cells, and their layouts.
use Rattle.std.specs.Prelude.{List, map}
use Rattle.values.specs.Datum.{Datum}
use Rattle.values.specs.Rose.{Roses, kids_of}
use Rattle.values.specs.declared.layout.Layout.{Layout}
use Rattle.arrays.specs.Checked.{CheckedColumn}

abbrev pub cells_in : List CheckedColumn → List (List Datum)
cells_in columns = map (λ c. c.cells) columns

abbrev pub layouts_in : List CheckedColumn → Roses Layout
layouts_in columns = kids_of (map (λ c. c.layouts) columns)
