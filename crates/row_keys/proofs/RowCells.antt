-- The cells of a row, column by column.
use Rattle.std.proofs.Common.{
  ◌≡◌,
  ℕ,
  List,
  [],
  ◌∷◌,
  ◌++◌,
  ◌+◌,
  ◌<◌,
  ◌≤◌,
  length,
  drop,
  get_or,
  Some,
  slice_get,
  refl,
  sym,
  subst,
  ◌∙◌,
  append_assoc,
  append-nil,
}
use Rattle.std.proofs.lemmas.List.{drop_all, drop_more}
use Rattle.std.proofs.lemmas.Option.{get_or_from_slice_get}
use Rattle.values.specs.Datum.{Datum, items_of, null}
use Rattle.values.specs.Layouts.{Holds, HoldsEach}
use Rattle.arrays.specs.Checked.{CheckedColumn}
use Rattle.schema_meta.specs.Rows.{row_at}
use Rattle.row_keys.specs.Batches.{cells_in, layouts_in}

split_at :
    (columns : List CheckedColumn) (i : ℕ) (c : CheckedColumn) → c ≡ get_or columns i c → i < length columns
    → drop i columns ≡ c ∷ drop (i + 1) columns
split_at columns i c is below =
    let P : CheckedColumn → Type 0 = λ x. drop i columns ≡ x ∷ drop (i + 1) columns in
    subst P (sym is) (drop_more columns i c below)

pub row-more :
    (columns : List CheckedColumn) (i k : ℕ) (c : CheckedColumn) (made whole : List Datum) (d : Datum)
    → c ≡ get_or columns i c → i < length columns
    → slice_get c.cells k ≡ Some d → made ++ row_at (cells_in (drop i columns)) k ≡ whole
    → (made ++ d ∷ []) ++ row_at (cells_in (drop (i + 1) columns)) k ≡ whole
row-more columns i k c made whole d is below here all =
    let P : List CheckedColumn → Type 0 = λ cs. made ++ row_at (cells_in cs) k ≡ whole in
    let rest : List Datum = row_at (cells_in (drop (i + 1) columns)) k in
    let cell : get_or c.cells k null ≡ d = get_or_from_slice_get c.cells k d null here in
    let Q : Datum → Type 0 = λ x. made ++ x ∷ rest ≡ whole in
    append_assoc made (d ∷ []) rest ∙ subst Q cell (subst P (split_at columns i c is below) all)

pub row-none :
    (columns : List CheckedColumn) (k : ℕ) (made : List Datum) → made ≡ []
    → made ++ row_at (cells_in columns) k ≡ row_at (cells_in columns) k
row-none columns k made empty =
    let P : List Datum → Type 0 = λ m. m ++ row_at (cells_in columns) k ≡ row_at (cells_in columns) k in
    subst P (sym empty) refl

pub row-end :
    (columns : List CheckedColumn) (i k : ℕ) (made whole : List Datum) → length columns ≤ i
    → made ++ row_at (cells_in (drop i columns)) k ≡ whole → made ≡ whole
row-end columns i k made whole all is =
    let P : List CheckedColumn → Type 0 = λ cs. made ++ row_at (cells_in cs) k ≡ whole in
    sym (append-nil made) ∙ subst P (drop_all i columns all) is

-- Cells that the remaining columns hold make these a row that all columns hold.
unfoldable pub Leads : List Datum → List CheckedColumn → List CheckedColumn → Type 0
Leads made left columns = (rest : List Datum) → HoldsEach (layouts_in left) (items_of rest)
    → HoldsEach (layouts_in columns) (items_of (made ++ rest))

pub leads-none : (columns : List CheckedColumn) (made : List Datum) → made ≡ [] → Leads made columns columns
unfolding Leads
leads-none columns made empty = λ rest held.
    let P : List Datum → Type 0 = λ m. HoldsEach (layouts_in columns) (items_of (m ++ rest)) in subst P (sym empty) held

pub leads-more :
    (columns whole : List CheckedColumn) (i : ℕ) (c : CheckedColumn) (made : List Datum) (d : Datum)
    → c ≡ get_or columns i c → i < length columns
    → Holds c.layouts d → Leads made (drop i columns) whole → Leads (made ++ d ∷ []) (drop (i + 1) columns) whole
unfolding Leads
leads-more columns whole i c made d is below here leads = λ rest held.
    let P : List CheckedColumn → Type 0 = λ cs. HoldsEach (layouts_in cs) (items_of (d ∷ rest)) in
    let Q : List Datum → Type 0 = λ m. HoldsEach (layouts_in whole) (items_of m) in
    let longer : HoldsEach (layouts_in (drop i columns)) (items_of (d ∷ rest)) =
    subst P (sym (split_at columns i c is below)) (here, held) in
    subst Q (sym (append_assoc made (d ∷ []) rest)) (leads (d ∷ rest) longer)

pub leads-end :
    (columns whole : List CheckedColumn) (i : ℕ) (made : List Datum) → length columns ≤ i
    → Leads made (drop i columns) whole
    → HoldsEach (layouts_in whole) (items_of made)
unfolding Leads
leads-end columns whole i made all leads =
    let P : List CheckedColumn → Type 0 = λ cs. HoldsEach (layouts_in cs) (items_of []) in
    let Q : List Datum → Type 0 = λ m. HoldsEach (layouts_in whole) (items_of m) in
    subst Q (append-nil made) (leads [] (subst P (sym (drop_all i columns all)) tt))

pub ruleset cells = (row-none, row-more, row-end, leads-none, leads-more, leads-end)
