-- The columns of a view as contracts see them.
use Rattle.std.specs.Prelude.{◌≡◌, ℕ, List, [], Option, None, Some, refl}
use Rattle.std.specs.Coded.{Coded, code_by, coded×, coded_ℕ, coded_list, coded_option}
use Rattle.view_lang.specs.Filter.{Filter, filter_code}
use Rattle.view_lang.specs.contracts.aggregate.Aggregate as aggregate_type
use Rattle.view_lang.specs.declared.aggregate.Aggregate.{Aggregate}

-- a column of a view: its name, and the number of the column that it shows
pub record Output : Type 0 where
  pub name : List ℕ
  pub column : ℕ

-- a column of a view of groups: its name, and what it shows of a group
pub record GroupOutput : Type 0 where
  pub name : List ℕ
  pub aggregate : Aggregate

-- columns of each row, or a row for each group of rows that are alike in these columns, if a filter is true of it
pub data Outputs : Type 0 where
  columns : List Output → Outputs
  groups : List ℕ → List GroupOutput → Option Filter → Outputs

-- Each is encoded as the tuple of its parts; outputs are groups where they have grouping columns.

abbrev pub output_code : Coded Output
output_code =
    code_by (List ℕ × ℕ) (coded× (coded_list coded_ℕ) coded_ℕ) (λ o. (o.name, o.column))
    (λ p. record { name = p.0; column = p.1 }) (λ _. refl)

abbrev pub group_output_code : Coded GroupOutput
group_output_code =
    code_by (List ℕ × Aggregate) (coded× (coded_list coded_ℕ) aggregate_type.the_row.coded)
    (λ o. (o.name, o.aggregate)) (λ p. record { name = p.0; aggregate = p.1 }) (λ _. refl)

abbrev pub Grouping : Type 0
Grouping = List ℕ × (List GroupOutput × Option Filter)

abbrev pub Parts : Type 0
Parts = Option Grouping × List Output

abbrev pub parts_of : Outputs → Parts
parts_of (columns outputs) = (None, outputs)
parts_of (groups by outputs having) = (Some (by, (outputs, having)), [])

abbrev pub outputs_by : Option Grouping → List Output → Outputs
outputs_by None outputs = columns outputs
outputs_by (Some g) outputs = groups g.0 g.1.0 g.1.1

pub outputs_by-parts_of : (o : Outputs) → outputs_by (parts_of o).0 (parts_of o).1 ≡ o
outputs_by-parts_of (columns outputs) = refl
outputs_by-parts_of (groups by outputs having) = refl

abbrev pub grouping_code : Coded Grouping
grouping_code = coded× (coded_list coded_ℕ) (coded× (coded_list group_output_code) (coded_option filter_code))

abbrev pub outputs_code : Coded Outputs
outputs_code =
    code_by Parts (coded× (coded_option grouping_code) (coded_list output_code)) parts_of (λ p. outputs_by p.0 p.1)
    outputs_by-parts_of
