-- The checked columns of a batch that may be appended to a table, or that has its keys.
use Rattle.std.specs.Prelude.{◌≡◌, ℕ, All, List, [], ◌∷◌, get_or, length, map}
use Rattle.values.specs.Datum.{Datum}
use Rattle.values.specs.Layouts.{Holds, weight}
use Rattle.values.specs.Logical.{tree_of}
use Rattle.values.specs.Rose.{Rose, Roses, none, more, kids_of}
use Rattle.values.specs.declared.layout.Layout.{Layout}
use Rattle.arrays.specs.Checked.{CheckedColumn}
use Rattle.schema_meta.specs.Rows.{rows_in}
use Rattle.view_lang.specs.Causes.{layouts_of}
use Rattle.view_lang.specs.Config.{Table}
use Rattle.view_lang.specs.Edits.{first_cell}
use Rattle.view_lang.specs.Fields.{no_field}

-- Layouts of the same values: what the second holds the first holds, with the same weight. This holds of layouts that
-- differ only in the width of offsets.
pub record IsAlike (t u : Rose Layout) : Type 0 where
  pub holds : (d : Datum) → Holds u d → Holds t d
  pub weighs : (d : Datum) → weight t d ≡ weight u d

abbrev pub AreAlike : Roses Layout → Roses Layout → Type 0
AreAlike none none = Unit {0}
AreAlike none (more u us) = ⊥
AreAlike (more t ts) none = ⊥
AreAlike (more t ts) (more u us) = IsAlike t u × AreAlike ts us

abbrev pub cells_in : List CheckedColumn → List (List Datum)
cells_in columns = map (λ c. c.cells) columns

abbrev pub layouts_in : List CheckedColumn → Roses Layout
layouts_in columns = kids_of (map (λ c. c.layouts) columns)

-- the rows of a batch
abbrev pub batch_rows : ℕ → List CheckedColumn → List (List Datum)
batch_rows rows columns = rows_in rows (cells_in columns)

-- the layouts hold each cell
abbrev pub HoldsCells : CheckedColumn → Type 0
HoldsCells c = All (λ d. Holds c.layouts d) c.cells

-- columns of `rows` cells each, which the table's columns hold
pub record IsBatch (t : Table) (rows : ℕ) (columns : List CheckedColumn) : Type 0 where
  pub alike : AreAlike (layouts_of t) (layouts_in columns)
  pub long : All (λ c. length c.cells ≡ rows) columns

abbrev pub key_layout : Table → Rose Layout
key_layout t = tree_of (get_or t.columns t.key no_field)

-- a column of keys
abbrev pub AreKeys : Table → CheckedColumn → Type 0
AreKeys t column = IsAlike (key_layout t) column.layouts

-- The keys of a batch of one column are its cells.
abbrev pub KeysAreCells : Type 0
KeysAreCells = (cells : List Datum) → map first_cell (rows_in (length cells) (cells ∷ [])) ≡ cells
