-- The rows from which a view is computed, row by row.
use Rattle.std.proofs.Common.{◌≡◌, ℕ, zero, suc, ◌<◌, Bool, cond, List, [], ◌∷◌, ◌++◌, Option, None, Some, length, get_or, refl, ap, sym, subst, ◌∙◌, append-nil, arith}
use Rattle.std.specs.Prelude.{IfOk, Result, Ok, Err, Vec}
use Rattle.std.specs.declared.alloc.Global.{Global}
use Rattle.std.specs.Option.{option_and_then}
use Rattle.std.proofs.lemmas.List.{map-append}
use Rattle.values.specs.CellViews.{shallow}
use Rattle.values.specs.Datum.{Datum}
use Rattle.view_lang.specs.Cells.{cell_at, rows_of}
use Rattle.view_lang.specs.Config.{View}
use Rattle.view_lang.specs.ConfigRules.{IsLookup}
use Rattle.view_lang.specs.TableRules.{IsSideTable}
use Rattle.view_lang.specs.Joined.{Side, joined, joined_by, joined_row, looked_up, side_of}
use Rattle.view_lang.specs.Truth.{passes}
use Rattle.view_lang.specs.Views.{passing_row, side_in}
use Rattle.view_lang.specs.World.{contents_at, table_at}
use Rattle.view_lang.specs.declared.view.Lookup.{Lookup}
use Rattle.row_keys.specs.Slots.{contents_of}
use Rattle.row_keys.specs.Store.{Store}
use Rattle.upkeep.specs.Inputs.{side_by}
use Rattle.upkeep.specs.Stores.{rows_in, tables_in, world_of}
use Rattle.upkeep.specs.StoreLaws.{table_there, tables_length}

-- a side table

pub contents_stored : (stores : List Store) (n : ℕ) (s : Store) → s ≡ get_or stores n s → n < length stores
    → contents_at (world_of (rows_in stores)) n ≡ contents_of s.slots
contents_stored [] n s is below = absurd (omega (arith, below))
contents_stored (t ∷ ts) zero s is below = ap (λ (x : Store). contents_of x.slots) (sym is)
contents_stored (t ∷ ts) (suc n) s is below = contents_stored ts n s is (omega (arith, below))

pub side_found :
    (stores : List Store) (n : ℕ) (s : Store) (row : List Datum) (k : ℕ) (cell : Datum) (found : Option (List Datum))
    → s ≡ get_or stores n s → n < length stores → cell ≡ cell_at row k
    → found ≡ side_of s.table (contents_of s.slots) cell
    → found ≡ side_of (table_at (tables_in stores) n) (contents_at (world_of (rows_in stores)) n) (cell_at row k)
side_found stores n s row k cell found is below there same =
    same
    ∙ ap (λ t. side_of t (contents_of s.slots) cell) (sym (table_there stores n s is below))
    ∙ ap (λ c. side_of (table_at (tables_in stores) n) c cell) (sym (contents_stored stores n s is below))
    ∙ ap (side_of (table_at (tables_in stores) n) (contents_at (world_of (rows_in stores)) n))
    there

-- one row

pub row_kept :
    (v : View) (side : Side) (row : List Datum) (cells joined : Option (List Datum)) (r : List Datum) (b : Bool)
    → cells ≡ looked_up v.lookup side row → joined ≡ joined_by v.lookup row cells → joined ≡ Some r
    → b ≡ passes v.filter r → cond b (Some r) None ≡ passing_row v side row
unfolding joined_row
row_kept v side row cells joined r b looked made some passed =
    let whole : joined_by v.lookup row (looked_up v.lookup side row) ≡ Some r =
    sym (ap (joined_by v.lookup row) looked) ∙ sym made ∙ some in
    ap (λ x. cond x (Some r) None) passed
    ∙ sym (ap (option_and_then (λ x. cond (passes v.filter x) (Some x) None)) whole)

pub row_dropped :
    (v : View) (side : Side) (row : List Datum) (cells joined : Option (List Datum))
    → cells ≡ looked_up v.lookup side row → joined ≡ joined_by v.lookup row cells → joined ≡ None
    → None ≡ passing_row v side row
unfolding joined_row
row_dropped v side row cells joined looked made none =
    let whole : joined_by v.lookup row (looked_up v.lookup side row) ≡ None =
    sym (ap (joined_by v.lookup row) looked) ∙ sym made ∙ none in
    sym (ap (option_and_then (λ x. cond (passes v.filter x) (Some x) None)) whole)

-- what is looked up in a store

look_there :
    (stores : List Store) (l : Lookup) (n : ℕ) (s : Store) → IsLookup (tables_in stores) (Some l) → n ≡ suc l.side
    → (n < length stores)
look_there stores l n s is same = let many = tables_length stores in omega (arith, is.0, many, same)

pub look_side : (stores : List Store) (o : Option Lookup) (l : Lookup) (n : ℕ) (s : Store)
    → IsLookup (tables_in stores) o → o ≡ Some l → n ≡ suc l.side → s ≡ get_or stores n s → IsSideTable s.table
look_side stores o l n s right some at is =
    let look : IsLookup (tables_in stores) (Some l) = subst (IsLookup (tables_in stores)) some right in
    let P : ℕ → Type 0 = λ m. IsSideTable (table_at (tables_in stores) m) in
    subst IsSideTable (table_there stores n s is (look_there stores l n s look at)) (subst P (sym at) look.3)

pub look_row :
    {E : Type 0} (stores : List Store) (o : Option Lookup) (l : Lookup) (n : ℕ) (s : Store) (row : List Datum)
    (seen : Datum) (r : Result (Option (List Datum)) E) → IsLookup (tables_in stores) o → o ≡ Some l
    → n ≡ suc l.side → s ≡ get_or stores n s → seen ≡ shallow (cell_at row l.on)
    → IfOk r (λ found. (d : Datum) → seen ≡ shallow d → found ≡ side_of s.table (contents_of s.slots) d)
    → IfOk r (λ found. found ≡ looked_up o (side_in (tables_in stores) (world_of (rows_in stores)) o) row)
look_row stores o l n s row seen (Err e) right some at is there h = tt
look_row stores o l n s row seen (Ok found) right some at is there h =
    let look : IsLookup (tables_in stores) (Some l) = subst (IsLookup (tables_in stores)) some right in
    let cell : Datum = cell_at row l.on in
    let made = side_found stores n s row l.on cell found is (look_there stores l n s look at) refl (h cell there) in
    let P : ℕ → Type 0 = λ m. found
    ≡ side_of (table_at (tables_in stores) m) (contents_at (world_of (rows_in stores)) m) (cell_at row l.on) in
    let Q : Option Lookup → Type 0 = λ x. found
    ≡ looked_up x (side_in (tables_in stores) (world_of (rows_in stores)) x) row in
    subst Q (sym some) (subst P at made)

-- what was looked up, however it was named
pub row_looked :
    (stores now : List Store) (v : View) (l : Option Lookup) (row given : List Datum) (cells : Option (List Datum))
    → now ≡ stores → l ≡ v.lookup → given ≡ row
    → cells ≡ looked_up l (side_in (tables_in now) (world_of (rows_in now)) l) given
    → cells ≡ looked_up v.lookup (side_by (tables_in stores) (rows_in stores) v) row
row_looked stores now v l row given cells same named is found =
    found ∙ ap (looked_up l (side_in (tables_in now) (world_of (rows_in now)) l)) is
    ∙ ap (λ ss. looked_up l (side_in (tables_in ss) (world_of (rows_in ss)) l) row) same
    ∙ ap (λ o. looked_up o (side_in (tables_in stores) (world_of (rows_in stores)) o) row) named

pub rows_pushed : (xs : List (Vec Datum Global)) (x : Vec Datum Global)
    → rows_of (xs ++ x ∷ []) ≡ rows_of xs ++ x.items ∷ []
rows_pushed xs x = map-append (λ (r : Vec Datum Global). r.items) xs (x ∷ [])

pub none_pushed : (xs : List (List Datum)) → xs ≡ xs ++ []
none_pushed xs = sym (append-nil xs)

pub ruleset pushing = (rows_pushed, none_pushed)
