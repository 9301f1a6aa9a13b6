-- The rows that a view is made of hold the columns of joined rows, and are at most as many as the main table's.
use Rattle.std.proofs.Common.{
  ℕ,
  suc,
  Bool,
  true,
  false,
  List,
  [],
  ◌∷◌,
  ◌++◌,
  ◌≤◌,
  All,
  IfSome,
  None,
  Option,
  Some,
  filter,
  filter_map,
  if◌then◌else◌,
  length,
  replicate,
  sym,
  arith,
  subst,
}
use Rattle.std.proofs.lemmas.List.Elements.{All-cons, All-filter, All-get_or, All-head, All-nil, All-tail}
use Rattle.std.specs.List.{cons_option}
use Rattle.std.specs.Option.{option_map}
use Rattle.values.specs.Datum.{Datum, null}
use Rattle.values.specs.Logical.{NamedType}
use Rattle.values.specs.Rose.{Rose}
use Rattle.values.specs.Limits.{max_main_rows}
use Rattle.view_lang.specs.Config.{Table, View}
use Rattle.view_lang.specs.ConfigRules.{IsLookup}
use Rattle.view_lang.specs.Joined.{Side, joined, joined_row, looked_up, or_missing}
use Rattle.view_lang.specs.Laws.{IsLookedUp, Viewed}
use Rattle.view_lang.specs.Rows.{IsRow}
use Rattle.view_lang.specs.TableRules.{IsTable}
use Rattle.view_lang.specs.Truth.{passes}
use Rattle.view_lang.specs.ViewColumns.{joined_columns}
use Rattle.view_lang.specs.Views.{view_input}
use Rattle.view_lang.specs.World.{no_table, table_at}
use Rattle.view_lang.specs.declared.view.Lookup.{Lookup}
use Rattle.view_lang.specs.declared.view.Missing.{Missing}
use Rattle.view_lang.specs.declared.view.Missing.TheVariants as missing
use Rattle.view_lang.proofs.CellFits.{AreFit, append_fits, nulls_fit, row_fits}

-- The rows that a map to options leaves

mapped_some : {X Y : Type 0} (P : Y → Type 0) (h : X → Option Y) (xs : List X) (y : Option Y) → IfSome y P
    → All P (filter_map h xs) → All P (cons_option y (filter_map h xs))
mapped_some P h xs None is rest = rest
mapped_some P h xs (Some y) is rest = All-cons P y (filter_map h xs) is rest

few_some : {X Y : Type 0} (h : X → Option Y) (xs : List X) (y : Option Y) (n : ℕ) → length (filter_map h xs) ≤ n
    → length (cons_option y (filter_map h xs)) ≤ suc n
few_some h xs None n few = omega (arith, few)
few_some h xs (Some y) n few = omega (arith, few)

few_mapped : {X Y : Type 0} (h : X → Option Y) (xs : List X) → length (filter_map h xs) ≤ length xs
few_mapped h [] = omega arith
few_mapped h (x ∷ xs) = few_some h xs (h x) (length xs) (few_mapped h xs)

few_left : {X : Type 0} (p : X → Bool) (x : X) (xs : List X) (b : Bool) (n : ℕ) → length (filter p xs) ≤ n
    → length (if b then x ∷ filter p xs else filter p xs) ≤ suc n
few_left p x xs true n few = omega (arith, few)
few_left p x xs false n few = omega (arith, few)

pub few_filtered : {X : Type 0} (p : X → Bool) (xs : List X) → length (filter p xs) ≤ length xs
few_filtered p [] = omega arith
few_filtered p (x ∷ xs) = few_left p x xs (p x) (length xs) (few_filtered p xs)

-- a row joined with what was looked up
with_side :
    (fs gs : List (Rose NamedType)) (m : Missing) (row : List Datum) (cells : Option (List Datum)) → AreFit fs row
    → AreFit gs (replicate (length gs) null)
    → IfSome cells (AreFit gs)
    → IfSome (option_map (λ more. row ++ more) (or_missing m (length gs) cells)) (AreFit (fs ++ gs))
with_side fs gs m row (Some cells) fit nulls is = append_fits fs gs row cells fit is
with_side fs gs missing.Null row None fit nulls is = append_fits fs gs row (replicate (length gs) null) fit nulls
with_side fs gs missing.Drop row None fit nulls is = tt

-- The rows of a view

fit_some : (fs : List (Rose NamedType)) (o : Option (List Datum)) → IfSome o (IsRow fs) → IfSome o (AreFit fs)
fit_some fs None is = tt
fit_some fs (Some row) is = row_fits fs row is

joined_fits :
    (tables : List Table) (side : Side) (l : Option Lookup) (row : List Datum) → All IsTable tables → IsLookup tables l
    → IsLookedUp tables l side row → AreFit (table_at tables 0).columns row
    → IfSome (joined_row l side row) (AreFit (joined_columns tables l))
unfolding joined_row
joined_fits tables side None row all is looked fit = fit
joined_fits tables side (Some l) row all is looked fit =
    let t : Table = table_at tables (suc l.side) in
    let slim = (All-get_or IsTable tables (suc l.side) no_table is.0 all).columns.slim in
    let P : ℕ → Type 0 = λ n.
    IfSome (option_map (λ more. row ++ more) (or_missing l.missing n (looked_up (Some l) side row)))
    (AreFit ((table_at tables 0).columns ++ t.columns)) in
    subst P (sym is.2)
    (with_side (table_at tables 0).columns t.columns l.missing row (looked_up (Some l) side row) fit
    (nulls_fit t.columns slim) (fit_some t.columns (looked_up (Some l) side row) looked))

all_joined :
    (tables : List Table) (side : Side) (l : Option Lookup) (rows : List (List Datum)) → All IsTable tables
    → IsLookup tables l → All (IsRow (table_at tables 0).columns) rows → All (IsLookedUp tables l side) rows
    → All (AreFit (joined_columns tables l)) (filter_map (joined_row l side) rows)
all_joined tables side l [] all is have looked = All-nil (AreFit (joined_columns tables l))
all_joined tables side l (row ∷ rows) all is have looked =
    mapped_some (AreFit (joined_columns tables l)) (joined_row l side) rows (joined_row l side row)
    (joined_fits tables side l row all is (All-head (IsLookedUp tables l side) row rows looked)
    (row_fits (table_at tables 0).columns row (All-head (IsRow (table_at tables 0).columns) row rows have)))
    (all_joined tables side l rows all is (All-tail (IsRow (table_at tables 0).columns) row rows have)
    (All-tail (IsLookedUp tables l side) row rows looked))

pub input_fits :
    (tables : List Table) (v : View) (side : Side) (rows : List (List Datum)) → Viewed tables v side rows
    → All (AreFit (joined_columns tables v.lookup)) (view_input v side rows)
unfolding view_input joined
input_fits tables v side rows is =
    All-filter (passes v.filter) (AreFit (joined_columns tables v.lookup)) (joined v.lookup side rows)
    (all_joined tables side v.lookup rows is.right is.view.lookup is.held is.looked_up)

pub input_few :
    (tables : List Table) (v : View) (side : Side) (rows : List (List Datum)) → Viewed tables v side rows
    → length (view_input v side rows) ≤ max_main_rows
unfolding view_input joined
input_few tables v side rows is =
    omega (
      arith,
      few_filtered (passes v.filter) (joined v.lookup side rows),
      few_mapped (joined_row v.lookup side) rows,
      is.few,
    )
