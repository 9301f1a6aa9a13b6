-- Fields below a field, columns that are logical, and tables by number.
use Rattle.std.proofs.Common.{
  ◌≡◌,
  ℕ,
  zero,
  suc,
  Some,
  List,
  [],
  ◌∷◌,
  ◌<◌,
  ◌≤◌,
  All,
  get_or,
  length,
  map,
  refl,
  ap,
  arith,
  ◌∙◌,
}
use Rattle.std.proofs.lemmas.List.Elements.{All-cons, All-get_or, All-map}
use Rattle.std.proofs.lemmas.Option.{none-some}
use Rattle.std.specs.Prelude.{slice_get}
use Rattle.values.proofs.Logicals.{is-same}
use Rattle.values.proofs.Roses.{kid_smaller}
use Rattle.values.specs.Logical.{AreLogicalColumns, IsLogical, NamedType, logical_column}
use Rattle.values.specs.Rose.{Rose, kids_of, rose_size, roses_size}
use Rattle.values.specs.declared.col_type.ColType.TheVariants as col
use Rattle.view_lang.specs.Config.{Config, SideTable, Table, tables_of}
use Rattle.view_lang.specs.ConfigRules.{IsConfig}
use Rattle.view_lang.specs.Edits.{table_of}
use Rattle.view_lang.specs.TableRules.{IsTable}
use Rattle.view_lang.specs.ViewColumns.{columns_by, feed_columns}
use Rattle.view_lang.specs.Fields.{no_field}
use Rattle.view_lang.specs.World.{table_at}
use Rattle.view_lang.specs.declared.config.Role.{Role}
use Rattle.view_lang.specs.declared.config.Role.TheVariants as role

pub field_below :
    (fs : List (Rose NamedType)) (k : ℕ) (f d : Rose NamedType) → f ≡ get_or fs k d → k < length fs
    → rose_size f ≤ roses_size (kids_of fs)
field_below fs k f d is below = kid_smaller fs k f d is below

same_columns : (fs : List (Rose NamedType)) → AreLogicalColumns fs → map logical_column fs ≡ fs
same_columns [] h = refl
same_columns (f ∷ fs) h = ap (λ g. g ∷ map logical_column fs) (is-same col.Struct f h.0)
    ∙ ap (λ gs. f ∷ gs) (same_columns fs h.1)

-- columns that are logical already
pub logical_again :
    (made fs : List (Rose NamedType)) → made ≡ fs → AreLogicalColumns fs → map logical_column made ≡ fs
logical_again made fs is logical = ap (λ gs. map logical_column gs) is ∙ same_columns fs logical

logical_at :
    (fs : List (Rose NamedType)) (k : ℕ) (f : Rose NamedType) → slice_get fs k ≡ Some f → AreLogicalColumns fs
    → IsLogical col.Struct (get_or fs k no_field)
logical_at [] k f there h = absurd (none-some f there)
logical_at (g ∷ fs) zero f there h = h.0
logical_at (g ∷ fs) (suc k) f there h = logical_at fs k f there h.1

columns_logical : (t : Table) (r : Role) → IsTable t → AreLogicalColumns (columns_by r t)
columns_logical t role.Append is = is.columns.logical
columns_logical t role.Retract is = (logical_at t.columns t.key is.key.0 is.key.1 is.columns.logical, tt)
columns_logical t (role.Put side) is = is.columns.logical
columns_logical t (role.Drop side) is = (logical_at t.columns t.key is.key.0 is.key.1 is.columns.logical, tt)

-- The tables of a configuration

pub tables_right : (c : Config) → IsConfig c → All IsTable (tables_of c)
tables_right c is = All-cons IsTable c.main (map (λ s. s.table) c.sides) is.main (All-map IsTable (λ s. s.table)
    c.sides is.sides)

pub feed_logical :
    (c : Config) (r : Role) → IsConfig c → table_of r < length (tables_of c)
    → AreLogicalColumns (feed_columns (tables_of c) r)
feed_logical c r is there =
    columns_logical (table_at (tables_of c) (table_of r)) r
    (All-get_or IsTable (tables_of c) (table_of r) _ there (tables_right c is))

side_table : (sides : List SideTable) (k : ℕ) (d : SideTable) (e : Table) → k < length sides
    → get_or (map (λ s. s.table) sides) k e ≡ (get_or sides k d).table
side_table [] k d e below = absurd (omega (arith, below))
side_table (s ∷ ss) zero d e below = refl
side_table (s ∷ ss) (suc k) d e below = side_table ss k d e (omega (arith, below))
