-- A batch of keys: its one column has them.
use Rattle.std.proofs.Common.{
  ◌≡◌,
  ℕ,
  zero,
  suc,
  ◌+◌,
  All,
  List,
  [],
  ◌∷◌,
  length,
  drop,
  get_or,
  map,
  ap,
  sym,
  subst,
  ◌∙◌,
  arith,
  add-one,
  drop-cons,
}
use Rattle.std.proofs.lemmas.List.{drop_all}
use Rattle.std.proofs.lemmas.List.Elements.{All-head}
use Rattle.values.specs.Datum.{Datum, null}
use Rattle.values.specs.Rose.{Rose, more, none}
use Rattle.values.specs.declared.layout.Layout.{Layout}
use Rattle.arrays.specs.Checked.{CheckedColumn}
use Rattle.schema_meta.specs.Rows.{rows_from}
use Rattle.view_lang.specs.Config.{Table}
use Rattle.view_lang.specs.Edits.{first_cell, retract}
use Rattle.view_lang.specs.ViewColumns.{key_column}
use Rattle.view_lang.specs.declared.config.Role.TheVariants as role
use Rattle.row_keys.specs.Batches.{AreAlike, AreKeys, IsAlike, key_layout, layouts_in}
use Rattle.row_keys.specs.TableChanges.{IsBatchOf, change_by}

rows_keys : (cells : List Datum) (i n : ℕ) → i + n ≡ length cells
    → map first_cell (rows_from (cells ∷ []) i n) ≡ drop i cells
unfolding rows_from
rows_keys cells i zero all = sym (drop_all i cells (omega (arith, all)))
rows_keys cells i (suc n) all =
    let rest : map first_cell (rows_from (cells ∷ []) (i + 1) n) ≡ drop (i + 1) cells =
    rows_keys cells (i + 1) n (omega (arith, all)) in
    let here : drop i cells ≡ get_or cells i null ∷ drop (suc i) cells = drop-cons cells i null (omega (arith, all)) in
    let next : drop (i + 1) cells ≡ drop (suc i) cells = ap (λ k. drop k cells) (add-one i) in
    ap (λ ks. get_or cells i null ∷ ks) (rest ∙ next) ∙ sym here

-- the column of a batch whose feed retracts
one_column : (t : Rose Layout) (columns : List CheckedColumn) (c : CheckedColumn)
    → AreAlike (more t none) (layouts_in columns) → c ≡ get_or columns 0 c
    → (columns ≡ c ∷ []) × IsAlike t c.layouts
one_column t [] c alike is = absurd alike
one_column t (x ∷ []) c alike is =
    (ap (λ (y : CheckedColumn). y ∷ []) (sym is), subst (λ (y : CheckedColumn). IsAlike t y.layouts) (sym is) alike.0)
one_column t (x ∷ y ∷ ys) c alike is = absurd alike.1

pub are_keys :
    (t : Table) (columns : List CheckedColumn) (c : CheckedColumn) (rows : ℕ)
    → IsBatchOf (key_column t) columns rows → c ≡ get_or columns 0 c
    → AreKeys t c
are_keys t columns c rows batch is = (one_column (key_layout t) columns c batch.alike is).1

-- the edit of the batch
pub keys_edit :
    (t : Table) (columns : List CheckedColumn) (c : CheckedColumn) (rows : ℕ)
    → IsBatchOf (key_column t) columns rows → c ≡ get_or columns 0 c
    → retract c.cells ≡ change_by role.Retract columns rows
keys_edit t columns c rows batch is =
    let one : columns ≡ c ∷ [] = (one_column (key_layout t) columns c batch.alike is).0 in
    let lengths : All (λ (x : CheckedColumn). length x.cells ≡ rows) (c ∷ []) =
    subst (λ (cs : List CheckedColumn). All (λ (x : CheckedColumn). length x.cells ≡ rows) cs) one batch.lengths in
    let long : length c.cells ≡ rows = All-head (λ (x : CheckedColumn). length x.cells ≡ rows) c [] lengths in
    let keys : map first_cell (rows_from (c.cells ∷ []) 0 rows) ≡ c.cells =
    rows_keys c.cells 0 rows (omega (arith, long)) in
    let named : retract c.cells ≡ change_by role.Retract (c ∷ []) rows = ap retract (sym keys) in
    subst (λ (cs : List CheckedColumn). retract c.cells ≡ change_by role.Retract cs rows) (sym one) named
