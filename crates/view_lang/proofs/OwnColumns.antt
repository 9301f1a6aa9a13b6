-- Columns that a table may have: one by one, in a list, renamed, of counts and of sums.
use Rattle.std.proofs.Common.{ℕ, zero, suc, List, [], ◌∷◌, ◌++◌, ◌<◌, ◌≤◌, length, refl, arith}
use Rattle.values.specs.ColTypes.{IsType}
use Rattle.values.specs.declared.col_type.ColType.{ColType}
use Rattle.values.specs.declared.col_type.ColType.TheVariants as col
use Rattle.values.specs.Layouts.{AreLayouts, IsLayout}
use Rattle.values.specs.Limits.{max_depth}
use Rattle.values.specs.Logical.{AreLogicalColumns, IsLogical, NamedType, tree_of, trees_of}
use Rattle.values.specs.Rose.{Rose, node, kids_of, rose_depth, roses_depth}
use Rattle.view_lang.specs.ConfigRules.{IsText}
use Rattle.view_lang.specs.Aggregates.{IsAddable, count_type, sum_type}
use Rattle.view_lang.specs.Fields.{field_at, renamed, simple_field}
use Rattle.view_lang.specs.TableRules.{AreColumns, AreSlim, AreWithin, IsSlim, IsWithin, type_of}

-- a column of its own
pub record IsColumn (f : Rose NamedType) : Type 0 where
  pub shallow : rose_depth f ≤ max_depth
  pub within : IsWithin f
  pub slim : IsSlim (tree_of f)
  pub layout : IsLayout (tree_of f)
  pub logical : IsLogical col.Struct f

-- columns by themselves
pub record AreSuch (fields : List (Rose NamedType)) : Type 0 where
  pub shallow : roses_depth (kids_of fields) ≤ max_depth
  pub within : AreWithin (kids_of fields)
  pub slim : AreSlim (trees_of (kids_of fields))
  pub layouts : AreLayouts (trees_of (kids_of fields))
  pub logical : AreLogicalColumns fields

pub no_columns : AreSuch []
no_columns = record { shallow = omega arith; within = tt; slim = tt; layouts = tt; logical = tt }

first_such : (f : Rose NamedType) (fs : List (Rose NamedType)) → AreSuch (f ∷ fs) → IsColumn f
first_such f fs a = record {
  shallow = omega (arith, a.shallow);
  within = a.within.0;
  slim = a.slim.0;
  layout = a.layouts.0;
  logical = a.logical.0;
}

others_such : (f : Rose NamedType) (fs : List (Rose NamedType)) → AreSuch (f ∷ fs) → AreSuch fs
others_such f fs a = record {
  shallow = omega (arith, a.shallow);
  within = a.within.1;
  slim = a.slim.1;
  layouts = a.layouts.1;
  logical = a.logical.1;
}

pub one_more : (f : Rose NamedType) (fs : List (Rose NamedType)) → IsColumn f → AreSuch fs → AreSuch (f ∷ fs)
one_more f fs c a = record {
  shallow = omega (arith, a.shallow, c.shallow);
  within = (c.within, a.within);
  slim = (c.slim, a.slim);
  layouts = (c.layout, a.layouts);
  logical = (c.logical, a.logical);
}

pub column_at : (fs : List (Rose NamedType)) (k : ℕ) → AreSuch fs → k < length fs → IsColumn (field_at fs k)
column_at [] k a below = absurd (omega (arith, below))
column_at (f ∷ fs) zero a below = first_such f fs a
column_at (f ∷ fs) (suc k) a below = column_at fs k (others_such f fs a) (omega (arith, below))

pub such_table : (fields : List (Rose NamedType)) → AreColumns fields → AreSuch fields
such_table fields t =
    record { shallow = t.shallow; within = t.within; slim = t.slim; layouts = t.layouts; logical = t.logical }

pub such_append : (fs gs : List (Rose NamedType)) → AreSuch fs → AreSuch gs → AreSuch (fs ++ gs)
such_append [] gs a b = b
such_append (f ∷ fs) gs a b =
    one_more f (fs ++ gs) (first_such f fs a) (such_append fs gs (others_such f fs a) b)

pub column_renamed : (f : Rose NamedType) (name : List ℕ) → IsText name → IsColumn f → IsColumn (renamed name f)
column_renamed (node f kids) name text c = record {
  shallow = c.shallow;
  within = (text.0, c.within.1, c.within.2);
  slim = c.slim;
  layout = c.layout;
  logical = (text.1, refl, c.logical.2, c.logical.3);
}

pub count_column : (name : List ℕ) → IsText name → IsColumn (simple_field name count_type)
count_column name text = record {
  shallow = omega arith;
  within = (text.0, tt, tt);
  slim = (omega arith, tt);
  layout = (tt, tt);
  logical = (text.1, refl, refl, tt);
}

decimal_column : (name : List ℕ) (s : ℕ) → IsText name → s ≤ 38 → IsColumn (simple_field name (col.Decimal 38 s))
decimal_column name s text few = record {
  shallow = omega arith;
  within = (text.0, (omega arith, omega arith, few), tt);
  slim = (omega arith, tt);
  layout = (omega arith, tt);
  logical = (text.1, refl, refl, tt);
}

-- What can be added has few digits after the point, as its column is right.
pub sum_column : (name : List ℕ) (t : ColType) → IsText name → IsAddable t → IsType t
    → IsColumn (simple_field name (sum_type t))
sum_column name (col.Int w s) text can is = decimal_column name 0 text (omega arith)
sum_column name (col.Decimal p s) text can is = decimal_column name s text (omega (arith, can, is.2))
sum_column name col.Bool text can is = absurd can
sum_column name (col.Date u) text can is = absurd can
sum_column name (col.Time u) text can is = absurd can
sum_column name (col.Timestamp u z) text can is = absurd can
sum_column name (col.Duration u) text can is = absurd can
sum_column name (col.Utf8 o) text can is = absurd can
sum_column name (col.Binary o) text can is = absurd can
sum_column name (col.FixedSizeBinary w) text can is = absurd can
sum_column name (col.List o) text can is = absurd can
sum_column name col.Struct text can is = absurd can

pub type_within : (f : Rose NamedType) → IsWithin f → IsType (type_of f)
type_within (node f kids) h = h.1
