-- The columns of a view are columns as a table's are.
use Rattle.std.proofs.Common.{ℕ, suc, List, [], ◌∷◌, ◌<◌, All, None, Option, Some, length, map, arith}
use Rattle.std.proofs.lemmas.List.Elements.{All-get_or, All-head, All-tail}
use Rattle.values.specs.Logical.{NamedType}
use Rattle.values.specs.Rose.{Rose}
use Rattle.view_lang.specs.Config.{Table}
use Rattle.view_lang.specs.ConfigRules.{AreOutputs, IsGroupOutput, IsLookup, IsOutput}
use Rattle.view_lang.specs.Aggregates.{aggregate_field}
use Rattle.view_lang.specs.Fields.{IsOrdered, field_at}
use Rattle.view_lang.specs.Laws.{ViewsAreTables}
use Rattle.view_lang.specs.Outputs.{GroupOutput, Output, Outputs, columns, groups}
use Rattle.view_lang.specs.TableRules.{IsTable}
use Rattle.view_lang.specs.ViewColumns.{joined_columns, output_field, output_fields, view_columns}
use Rattle.view_lang.specs.World.{table_at}
use Rattle.view_lang.specs.declared.view.Lookup.{Lookup}
use Rattle.view_lang.proofs.OwnColumns.{
  AreSuch,
  column_at,
  column_renamed,
  no_columns,
  one_more,
  such_append,
  such_table,
}
use Rattle.view_lang.proofs.AggregateCases.{aggregate_such}

module _ (fs : List (Rose NamedType)) (a : AreSuch fs) where
  output_such : (os : List Output) → All (IsOutput fs) os → AreSuch (map (output_field fs) os)
  output_such [] all = no_columns
  output_such (o ∷ os) all =
      let here : IsOutput fs o = All-head (IsOutput fs) o os all in
      one_more (output_field fs o) (map (output_field fs) os)
      (column_renamed (field_at fs o.column) o.name here.0 (column_at fs o.column a here.1))
      (output_such os (All-tail (IsOutput fs) o os all))

  groups_such :
      (by : List ℕ) (os : List GroupOutput) → All (IsOrdered fs) by → All (IsGroupOutput fs by) os
      → AreSuch (map (λ o. aggregate_field fs by o.name o.aggregate) os)
  groups_such by [] ordered all = no_columns
  groups_such by (o ∷ os) ordered all =
      let here : IsGroupOutput fs by o = All-head (IsGroupOutput fs by) o os all in
      one_more (aggregate_field fs by o.name o.aggregate) (map (λ p. aggregate_field fs by p.name p.aggregate) os)
      (aggregate_such fs a by o.name o.aggregate ordered here.0 here.1)
      (groups_such by os ordered (All-tail (IsGroupOutput fs by) o os all))

  outputs_such : (os : Outputs) → AreOutputs fs os → AreSuch (output_fields fs os)
  outputs_such (columns outputs) is = output_such outputs is
  outputs_such (groups by outputs having) is = groups_such by outputs is.0 is.1

table_such : (tables : List Table) (n : ℕ) → All IsTable tables → n < length tables
    → AreSuch (table_at tables n).columns
table_such tables n all there =
    such_table (table_at tables n).columns (All-get_or IsTable tables n _ there all).columns

-- the columns of no table
first_table : (tables : List Table) → All IsTable tables → AreSuch (table_at tables 0).columns
first_table [] all = no_columns
first_table (t ∷ ts) all = table_such (t ∷ ts) 0 all (omega arith)

pub joined_such : (tables : List Table) (l : Option Lookup) → All IsTable tables → IsLookup tables l
    → AreSuch (joined_columns tables l)
joined_such tables None all is = first_table tables all
joined_such tables (Some l) all is =
    such_append (table_at tables 0).columns (table_at tables (suc l.side)).columns (first_table tables all)
    (table_such tables (suc l.side) all is.0)

pub views_are_tables : ViewsAreTables
views_are_tables tables v all is =
    let made : AreSuch (view_columns tables v) =
    outputs_such (joined_columns tables v.lookup) (joined_such tables v.lookup all is.lookup) v.outputs is.outputs in
    record {
      some = is.some;
      few = is.few;
      small = is.small;
      shallow = made.shallow;
      within = made.within;
      slim = made.slim;
      layouts = made.layouts;
      logical = made.logical;
    }
