-- A checked column as contracts see it: the layouts of its type, and its cells.
use Rattle.std.specs.Prelude.{List, [], Ok, Err, refl}
use Rattle.std.specs.Coded.{Coded, code_by, coded×, coded_list}
use Rattle.values.specs.Reading.{Reading}
use Rattle.values.specs.Rose.{Rose, rose_code}
use Rattle.values.specs.Datum.{Datum, datum_code}
use Rattle.values.specs.contracts.layout.Layout.{the_row}
use Rattle.values.specs.declared.layout.Layout.{Layout}

pub record CheckedColumn : Type 0 where
  pub layouts : Rose Layout
  pub cells : List Datum

abbrev pub column_code : Coded CheckedColumn
column_code =
    code_by (Rose Layout × List Datum) (coded× (rose_code the_row.coded) (coded_list datum_code))
    (λ c. (c.layouts, c.cells))
    (λ p. record { layouts = p.0; cells = p.1 }) (λ _. refl)

-- the values where there is no fault
abbrev pub valid_of : Reading (List Datum) → List Datum
valid_of (Ok ds) = ds
valid_of (Err fs) = []
