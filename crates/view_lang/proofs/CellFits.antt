-- Cells that the columns of a row hold, each light enough.
use Rattle.std.proofs.Common.{
  ◌≡◌,
  ℕ,
  zero,
  suc,
  Bool,
  true,
  false,
  ◌||◌,
  List,
  [],
  ◌∷◌,
  ◌++◌,
  ◌*◌,
  ◌<◌,
  ◌≤◌,
  length,
  replicate,
  refl,
  arith,
  true≢false,
}
use Rattle.std.proofs.lemmas.Bool.{le-ltb, ltb-false}
use Rattle.values.specs.Datum.{Datum, null, items_of}
use Rattle.values.specs.Layouts.{Holds, HoldsEach, null_weight, row_weight, weight}
use Rattle.values.specs.Limits.{max_cell_weight, max_null_weight, max_row_weight}
use Rattle.values.specs.Logical.{NamedType, tree_of, trees_of}
use Rattle.values.specs.Rose.{Rose, node, Roses, more, kids_of}
use Rattle.values.specs.declared.layout.Layout.{Layout}
use Rattle.values.specs.declared.layout.Layout.TheVariants as layout
use Rattle.view_lang.specs.Causes.{has_heavy_cell, is_heavy}
use Rattle.view_lang.specs.Cells.{cell_at}
use Rattle.view_lang.specs.Limits.{max_columns}
use Rattle.view_lang.specs.Rows.{IsRow, RowsAreLight}
use Rattle.view_lang.specs.TableRules.{AreSlim, IsSlim}
use Rattle.view_lang.specs.Fields.{field_at, renamed}

neither : (a b : Bool) → (a || b) ≡ false → (a ≡ false) × (b ≡ false)
neither true b e = absurd (true≢false e)
neither false b e = (refl, e)

pub record Fits (t : Rose Layout) (d : Datum) : Type 0 where
  pub held : Holds t d
  pub light : weight t d ≤ max_cell_weight

-- one a column
abbrev pub AreFit : List (Rose NamedType) → List Datum → Type 0
AreFit [] [] = Unit {0}
AreFit [] (c ∷ cs) = ⊥
AreFit (f ∷ fs) [] = ⊥
AreFit (f ∷ fs) (c ∷ cs) = Fits (tree_of f) c × AreFit fs cs

-- The cells of a row fit, and cells that fit are a row where they are few.

cells_fit :
    (fs : List (Rose NamedType)) (row : List Datum) → HoldsEach (trees_of (kids_of fs)) (items_of row)
    → has_heavy_cell (trees_of (kids_of fs)) row ≡ false → AreFit fs row
unfolding has_heavy_cell
cells_fit [] [] held light = tt
cells_fit [] (c ∷ cs) held light = absurd held
cells_fit (f ∷ fs) [] held light = absurd held
cells_fit (f ∷ fs) (c ∷ cs) held light = (
  record { held = held.0; light = ltb-false max_cell_weight (weight (tree_of f) c) (neither _ _ light).0 },
  cells_fit fs cs held.1 (neither _ _ light).1,
)

pub row_fits : (fs : List (Rose NamedType)) (row : List Datum) → IsRow fs row → AreFit fs row
unfolding is_heavy
row_fits fs row is = cells_fit fs row is.held (neither _ _ is.light).1

record Made (ls : Roses Layout) (cells : List Datum) (n : ℕ) : Type 0 where
  held : HoldsEach ls (items_of cells)
  light : has_heavy_cell ls cells ≡ false
  whole : row_weight ls (items_of cells) ≤ n * max_cell_weight

made_more :
    (t : Rose Layout) (ls : Roses Layout) (c : Datum) (cells : List Datum) (n : ℕ) → Fits t c → Made ls cells n
    → Made (more t ls) (c ∷ cells) (suc n)
unfolding has_heavy_cell
made_more t ls c cells n fits made = record {
  held = (fits.held, made.held);
  light = rw (le-ltb max_cell_weight (weight t c) fits.light, made.light) refl;
  whole = omega (arith, fits.light, made.whole);
}

made_of : (fs : List (Rose NamedType)) (row : List Datum) → AreFit fs row → Made (trees_of (kids_of fs)) row (length fs)
unfolding has_heavy_cell
made_of [] [] fit = record { held = tt; light = refl; whole = omega arith }
made_of [] (c ∷ cs) fit = absurd fit
made_of (f ∷ fs) [] fit = absurd fit
made_of (f ∷ fs) (c ∷ cs) fit =
    made_more (tree_of f) (trees_of (kids_of fs)) c cs (length fs) fit.0 (made_of fs cs fit.1)

light_enough : (w n : ℕ) → w ≤ n * max_cell_weight → n ≤ max_columns → w ≤ max_row_weight
light_enough w n whole few = omega (arith, whole, few)

pub fit_row : (fs : List (Rose NamedType)) (row : List Datum) → length fs ≤ max_columns → AreFit fs row → IsRow fs row
unfolding is_heavy
fit_row fs row few fit =
    let ls : Roses Layout = trees_of (kids_of fs) in
    let made : Made ls row (length fs) = made_of fs row fit in
    let whole : row_weight ls (items_of row) ≤ max_row_weight =
    light_enough (row_weight ls (items_of row)) (length fs) made.whole few in
    record {
      held = made.held;
      light = rw (le-ltb max_row_weight (row_weight ls (items_of row)) whole, made.light) refl;
    }

pub rows_are_light : RowsAreLight
unfolding is_heavy
rows_are_light fs row is =
    ltb-false max_row_weight (row_weight (trees_of (kids_of fs)) (items_of row)) (neither _ _ is.light).0

-- Cells by number, and of two rows joined

pub cell_fits :
    (fs : List (Rose NamedType)) (row : List Datum) (k : ℕ) → AreFit fs row → k < length fs
    → Fits (tree_of (field_at fs k)) (cell_at row k)
cell_fits [] row k fit below = absurd (omega (arith, below))
cell_fits (f ∷ fs) [] k fit below = absurd fit
cell_fits (f ∷ fs) (c ∷ cs) zero fit below = fit.0
cell_fits (f ∷ fs) (c ∷ cs) (suc k) fit below = cell_fits fs cs k fit.1 (omega (arith, below))

pub append_fits :
    (fs gs : List (Rose NamedType)) (row cells : List Datum) → AreFit fs row → AreFit gs cells
    → AreFit (fs ++ gs) (row ++ cells)
append_fits [] gs [] cells fit rest = rest
append_fits [] gs (c ∷ cs) cells fit rest = absurd fit
append_fits (f ∷ fs) gs [] cells fit rest = absurd fit
append_fits (f ∷ fs) gs (c ∷ cs) cells fit rest = (fit.0, append_fits fs gs cs cells fit.1 rest)

pub renamed_fits :
    (name : List ℕ) (f : Rose NamedType) (d : Datum) → Fits (tree_of f) d → Fits (tree_of (renamed name f)) d
renamed_fits name (node f kids) d fits = fits

-- Each layout holds null, which weighs its slot.

weight_of_null : (t : Rose Layout) → weight t null ≡ null_weight t
weight_of_null (node layout.Bool kids) = refl
weight_of_null (node (layout.Int w s) kids) = refl
weight_of_null (node (layout.Decimal p) kids) = refl
weight_of_null (node (layout.FixedSizeBinary w) kids) = refl
weight_of_null (node (layout.Utf8 o) kids) = refl
weight_of_null (node (layout.Binary o) kids) = refl
weight_of_null (node (layout.List o) kids) = refl
weight_of_null (node layout.Struct kids) = refl

null_held : (t : Rose Layout) → Holds t null
null_held (node layout.Bool kids) = tt
null_held (node (layout.Int w s) kids) = tt
null_held (node (layout.Decimal p) kids) = tt
null_held (node (layout.FixedSizeBinary w) kids) = tt
null_held (node (layout.Utf8 o) kids) = tt
null_held (node (layout.Binary o) kids) = tt
null_held (node (layout.List o) kids) = tt
null_held (node layout.Struct kids) = tt

slim_slot : (t : Rose Layout) → IsSlim t → null_weight t ≤ max_null_weight
slim_slot (node l kids) slim = slim.0

pub null_fits : (t : Rose Layout) → IsSlim t → Fits t null
null_fits t slim = record { held = null_held t; light = omega (arith, weight_of_null t, slim_slot t slim) }

pub nulls_fit : (fs : List (Rose NamedType)) → AreSlim (trees_of (kids_of fs)) → AreFit fs (replicate (length fs) null)
nulls_fit [] slim = tt
nulls_fit (f ∷ fs) slim = (null_fits (tree_of f) slim.0, nulls_fit fs slim.1)
