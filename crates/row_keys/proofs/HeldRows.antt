-- The layouts of a table hold the rows of its store.
use Rattle.std.proofs.Common.{
  ◌≡◌,
  ℕ,
  zero,
  suc,
  ◌+◌,
  ◌<◌,
  ◌≤◌,
  All,
  Bool,
  true,
  false,
  Some,
  List,
  [],
  ◌∷◌,
  drop,
  get_or,
  length,
  ap,
  refl,
  ◌∙◌,
  subst,
  sym,
  arith,
}
use Rattle.std.specs.Prelude.{if◌then◌else◌}
use Rattle.std.proofs.lemmas.List.{drop_all, drop_more}
use Rattle.std.proofs.lemmas.List.Elements.{All-cons, All-get_or, All-head, All-nil, All-tail}
use Rattle.values.specs.Datum.{Datum, is_null, items_of, null}
use Rattle.values.specs.Layouts.{Holds, HoldsEach}
use Rattle.arrays.specs.Checked.{CheckedColumn}
use Rattle.schema_meta.specs.Rows.{row_at, rows_from}
use Rattle.view_lang.specs.Causes.{layouts_of}
use Rattle.view_lang.specs.Config.{Table}
use Rattle.view_lang.specs.Rows.{IsRow}
use Rattle.row_keys.specs.Batches.{AreAlike, HoldsCells, cells_in, layouts_in}
use Rattle.row_keys.specs.Numbers.{Numbered, numbered}
use Rattle.row_keys.specs.Slots.{live}
use Rattle.row_keys.specs.Stored.{AreGiven, AreKeyed, HoldsRow, IsRight, joined}
use Rattle.row_keys.proofs.StoreStates.{held_alike, keyed_row}

-- those of the columns from one on: what remains to be shown
abbrev pub Rest : List CheckedColumn → ℕ → Type 0
Rest columns i = All HoldsCells (drop i columns) → All HoldsCells columns

pub rest_more :
    (columns : List CheckedColumn) (i : ℕ) (c : CheckedColumn) → c ≡ get_or columns i c → i < length columns
    → HoldsCells c → Rest columns i → Rest columns (i + 1)
rest_more columns i c is below holds h = λ all.
    let P : CheckedColumn → Type 0 = λ x. drop i columns ≡ x ∷ drop (i + 1) columns in
    let split : drop i columns ≡ c ∷ drop (i + 1) columns = subst P (sym is) (drop_more columns i c below) in
    let Q : List CheckedColumn → Type 0 = λ cs. All HoldsCells cs in
    h (subst Q (sym split) (All-cons HoldsCells c (drop (i + 1) columns) holds all))

pub rest_end : (columns : List CheckedColumn) (i : ℕ) → length columns ≤ i → Rest columns i → All HoldsCells columns
rest_end columns i end h =
    let Q : List CheckedColumn → Type 0 = λ cs. All HoldsCells cs in
    h (subst Q (sym (drop_all i columns end)) (All-nil HoldsCells))

pub ruleset holding = (rest_more, rest_end)

row_held :
    (columns : List CheckedColumn) (rows i : ℕ) → All HoldsCells columns → All (λ c. length c.cells ≡ rows) columns
    → i < rows → HoldsEach (layouts_in columns) (items_of (row_at (cells_in columns) i))
row_held [] rows i holds long below = tt
row_held (c ∷ cs) rows i holds long below =
    let many = All-head (λ x. length x.cells ≡ rows) c cs long in (
      All-get_or (λ d. Holds c.layouts d) c.cells i null (omega (arith, below, many)) (All-head HoldsCells c cs holds),
      row_held cs rows i (All-tail HoldsCells c cs holds) (All-tail (λ x. length x.cells ≡ rows) c cs long) below,
    )

pub rows_held :
    (t : Table) (columns : List CheckedColumn) (rows i n : ℕ) → AreAlike (layouts_of t) (layouts_in columns)
    → All HoldsCells columns → All (λ c. length c.cells ≡ rows) columns → i + n ≤ rows
    → All (HoldsRow t) (rows_from (cells_in columns) i n)
unfolding rows_from
rows_held t columns rows i zero alike holds long below = All-nil (HoldsRow t)
rows_held t columns rows i (suc n) alike holds long below =
    All-cons (HoldsRow t) (row_at (cells_in columns) i) (rows_from (cells_in columns) (i + 1) n)
    (held_alike (layouts_of t) (layouts_in columns) (row_at (cells_in columns) i) alike
    (row_held columns rows i holds long (omega (arith, below))))
    (rows_held t columns rows (i + 1) n alike holds long (omega (arith, below)))

-- Live rows are rows of the table.
pub rows_right :
    (t : Table) (rows : List (List Datum)) (xs : List Numbered) → AreKeyed t rows xs → AreGiven xs
    → All (IsRight t) rows → All (IsRow t.columns) (live (joined rows xs))
unfolding live
rows_right t [] [] keyed given right = All-nil (IsRow t.columns)
rows_right t [] (x ∷ xs) keyed given right = absurd keyed
rows_right t (r ∷ rs) [] keyed given right = absurd keyed
rows_right t (r ∷ rs) (x ∷ xs) keyed given right =
    by x.live refl
    (rows_right t rs xs keyed.1 (λ n k at. given (suc n) k at) (All-tail (IsRight t) r rs right))
  where
    by : (b : Bool) → x.live ≡ b → All (IsRow t.columns) (live (joined rs xs))
        → All (IsRow t.columns) (if b then r ∷ live (joined rs xs) else live (joined rs xs))
    by true lives rest =
        let key = ap is_null keyed.0 ∙ given 0 x.key (ap (λ b. Some (numbered x.key b)) lives) in
        All-cons (IsRow t.columns) r (live (joined rs xs)) (keyed_row t r (All-head (IsRight t) r rs right) key) rest
    by false lives rest = rest
