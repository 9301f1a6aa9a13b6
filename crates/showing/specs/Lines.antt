-- Lines of CSV (RFC 4180, section 2): the fields of a line have a comma between each two, and a line feed ends it.
use Rattle.std.specs.Prelude.{ℕ, List, [], ◌∷◌, ◌++◌, ◌==◌, codes, if◌then◌else◌, length, map}
use Rattle.values.specs.Datum.{Datum, null, truth, whole, text, bytes}
use Rattle.values.specs.Rose.{Rose}
use Rattle.schema_meta.specs.Entry.{Entry}
use Rattle.arrays.specs.Checked.{CheckedColumn}
use Rattle.showing.specs.Csv.{field_text, quoted}
use Rattle.showing.specs.Digits.{hex_text}
use Rattle.showing.specs.Fields.{entry}
use Rattle.showing.specs.Joined.{joined}
use Rattle.showing.specs.Json.{json}
use Rattle.showing.specs.Numbers.{number_text, truth_text}
use Rattle.showing.specs.Shown.{cell_in}

-- bytes by hexadecimal digits, and none as an empty text
abbrev pub bytes_field : List ℕ → List ℕ
bytes_field b = if length b == 0 then quoted [] else hex_text b

-- JSON, always between quotes
abbrev pub nested_field : Rose Entry → Datum → List ℕ
nested_field f d = quoted (json (codes "\"") f d)

-- a cell of a field of the schema
abbrev pub cell_field : Rose Entry → Datum → List ℕ
cell_field f null = []
cell_field f (truth b) = truth_text b
cell_field f (whole z) = number_text (entry f).stored z
cell_field f (text t) = field_text t
cell_field f (bytes b) = bytes_field b
cell_field f d = nested_field f d

abbrev pub line : List (List ℕ) → List ℕ
line fields = joined (codes ",") fields ++ codes "\n"

-- the names of the columns
abbrev pub name_fields : List (Rose Entry) → List (List ℕ)
name_fields fs = map (λ f. field_text (entry f).name) fs

-- the cells of some columns at one index
abbrev pub row_fields : List (Rose Entry) → List CheckedColumn → ℕ → List (List ℕ)
row_fields [] cs i = []
row_fields (f ∷ fs) [] i = []
row_fields (f ∷ fs) (c ∷ cs) i = cell_field f (cell_in c i) ∷ row_fields fs cs i
