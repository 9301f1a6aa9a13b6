-- The rules that a configuration obeys that was read without a fault.
use Rattle.std.specs.Prelude.{◌≡◌, ℕ, suc, ◌<◌, ◌≤◌, true, All, List, length, Option, None, Some}
use Rattle.std.specs.Str.{is_utf8}
use Rattle.values.specs.Coded.{AreCoded}
use Rattle.values.specs.Limits.{max_fields, max_main_rows}
use Rattle.values.specs.Logical.{NamedType}
use Rattle.values.specs.Rose.{Rose, kids_of, roses_size}
use Rattle.view_lang.specs.Config.{Config, FeedConfig, Table, View, tables_of}
use Rattle.view_lang.specs.Edits.{table_of}
use Rattle.view_lang.specs.Filter.{Filter, Filters, all_of, compare, negation, no_part, null_in, one_of, part}
use Rattle.view_lang.specs.Limits.{max_columns, max_feeds, max_sides, max_views}
use Rattle.view_lang.specs.Outputs.{GroupOutput, Output, Outputs, columns, groups}
use Rattle.view_lang.specs.TableRules.{IsName, IsSideTable, IsTable}
use Rattle.view_lang.specs.ViewColumns.{joined_columns, view_columns}
use Rattle.view_lang.specs.Aggregates.{IsAggregate}
use Rattle.view_lang.specs.Fields.{IsColumn, IsOrdered}
use Rattle.view_lang.specs.World.{table_at}
use Rattle.view_lang.specs.declared.filter.Operand.{Operand}
use Rattle.view_lang.specs.declared.filter.Operand.TheVariants as operand
use Rattle.view_lang.specs.declared.view.Lookup.{Lookup}

-- The columns of a side table come after those of the main table. No view looks up rows of the main table.
abbrev pub IsLookup : List Table → Option Lookup → Type 0
IsLookup tables None = Unit {0}
IsLookup tables (Some l) =
    (suc l.side < length tables) × IsOrdered (table_at tables 0).columns l.on
    × (l.columns ≡ length (table_at tables (suc l.side)).columns) × IsSideTable (table_at tables (suc l.side))

abbrev pub IsOperand : List (Rose NamedType) → Operand → Type 0
IsOperand fields (operand.Constant d) = Unit {0}
IsOperand fields (operand.Column k) = IsOrdered fields k

-- What is compared exists, and has an order.
abbrev mutual
  pub IsFilter : List (Rose NamedType) → Filter → Type 0
  IsFilter fields (compare c k o) = IsOrdered fields k × IsOperand fields o
  IsFilter fields (null_in k) = IsColumn fields k
  IsFilter fields (negation f) = IsFilter fields f
  IsFilter fields (all_of fs) = AreFilters fields fs
  IsFilter fields (one_of fs) = AreFilters fields fs

  pub AreFilters : List (Rose NamedType) → Filters → Type 0
  AreFilters fields no_part = Unit {0}
  AreFilters fields (part f fs) = IsFilter fields f × AreFilters fields fs

abbrev pub IsFilterOf : List (Rose NamedType) → Option Filter → Type 0
IsFilterOf fields None = Unit {0}
IsFilterOf fields (Some f) = IsFilter fields f

-- a name of an output
abbrev pub IsText : List ℕ → Type 0
IsText name = IsName name × (is_utf8 name ≡ true)

abbrev pub IsOutput : List (Rose NamedType) → Output → Type 0
IsOutput fields o = IsText o.name × IsColumn fields o.column

abbrev pub IsGroupOutput : List (Rose NamedType) → List ℕ → GroupOutput → Type 0
IsGroupOutput fields by o = IsText o.name × IsAggregate fields by o.aggregate

abbrev pub AreOutputs : List (Rose NamedType) → Outputs → Type 0
AreOutputs fields (columns outputs) = All (IsOutput fields) outputs
AreOutputs fields (groups by outputs having) = All (IsOrdered fields) by × All (IsGroupOutput fields by) outputs

-- The columns that the filter of group rows names are columns of the output.
abbrev pub IsHaving : List (Rose NamedType) → Outputs → Type 0
IsHaving fields (columns outputs) = Unit {0}
IsHaving fields (groups by outputs having) = IsFilterOf fields having

-- A view of these tables: 1 to 64 columns, with at most 1,024 fields at all levels, each column that it names exists,
-- and those that are coded are texts.
pub record IsView (tables : List Table) (v : View) : Type 0 where
  pub lookup : IsLookup tables v.lookup
  pub filter : IsFilterOf (joined_columns tables v.lookup) v.filter
  pub outputs : AreOutputs (joined_columns tables v.lookup) v.outputs
  pub some : 1 ≤ length (view_columns tables v)
  pub few : length (view_columns tables v) ≤ max_columns
  pub small : roses_size (kids_of (view_columns tables v)) ≤ max_fields
  pub having : IsHaving (view_columns tables v) v.outputs
  pub order : All (λ o. IsOrdered (view_columns tables v) o.column) v.order
  pub coded : AreCoded v.coded_outputs (view_columns tables v)

-- a feed of a table that exists
abbrev pub IsFeed : List Table → FeedConfig → Type 0
IsFeed tables f = table_of f.role < length tables

-- A configuration that a session can have: its tables obey their rules, the main one with at most 2^24 rows and each
-- side table with 2^20; its feeds change tables that exist; its views obey their rules; and there are no more of all
-- these than the limits. Names may be there twice.
pub record IsConfig (c : Config) : Type 0 where
  pub main : IsTable c.main
  pub main_rows : c.main.max_rows ≡ max_main_rows
  pub sides : All (λ s. IsTable s.table) c.sides
  pub side_rows : All (λ s. IsSideTable s.table) c.sides
  pub few_sides : length c.sides ≤ max_sides
  pub feeds : All (IsFeed (tables_of c)) c.feeds
  pub few_feeds : length c.feeds ≤ max_feeds
  pub views : All (IsView (tables_of c)) c.views
  pub few_views : length c.views ≤ max_views
