-- Rows whose cells lie elsewhere, column by column.
use Rattle.std.proofs.Common.{
  ◌≡◌,
  ℕ,
  zero,
  suc,
  ◌+◌,
  ◌-◌,
  ◌*◌,
  ◌<◌,
  ◌≤◌,
  All,
  List,
  [],
  ◌∷◌,
  drop,
  get_or,
  length,
  take,
  ap,
  arith,
  inl,
  inr,
  refl,
  subst,
  sym,
  ◌∙◌,
}
use Rattle.std.specs.Prelude.{Vec, map, max, min}
use Rattle.std.specs.List.{drop-map, take-map}
use Rattle.std.specs.declared.alloc.Global.{Global}
use Rattle.std.proofs.lemmas.Bool.{cases_lt}
use Rattle.std.proofs.lemmas.List.{drop_more, get_or-drop, get_or-map, get_or-take, length-drop, length-map, length-take, take_all}
use Rattle.std.proofs.lemmas.List.Elements.{All-get_or, All-head, All-more, All-tail, All-weaker}
use Rattle.values.specs.CellViews.{viewed}
use Rattle.values.specs.Datum.{Datum, null}
use Rattle.values.specs.Layouts.{weight}
use Rattle.values.specs.Logical.{NamedType, tree_of, trees_of}
use Rattle.values.specs.Rose.{Rose, node, Roses, none, more, kids_of}
use Rattle.values.specs.declared.cell_view.CellView.{CellView}
use Rattle.values.specs.declared.cell_view.CellView.TheVariants.{Null}
use Rattle.values.specs.declared.layout.Layout.{Layout}
use Rattle.values.specs.declared.layout.Layout.TheVariants.{Struct}
use Rattle.array_layout.specs.declared.array.BufferRange.{BufferRange}
use Rattle.array_layout.specs.declared.array.FieldNode.{FieldNode}
use Rattle.values.proofs.Roses.{kids_end, kids_step}
use Rattle.schema_meta.specs.Rows.{row_at, rows_from}
use Rattle.body_writer.specs.Batch.{row_cells, row_weight}
use Rattle.body_writer.specs.Slots.{part}
use Rattle.body_writer.specs.declared.body.Body.{Body}
use Rattle.body_writer.proofs.Ahead.{Ahead, ahead-first}
use Rattle.body_writer.proofs.RowRangeLemmas.{rows-column, rows-dropped, rows-taken}
use Rattle.stream_writer.specs.BatchRows.{max_light_row}
use Rattle.stream_writer.specs.Stream.{beginning, trees}
use Rattle.stream_writer.specs.ViewedRows.{AreFlat, IsFlat, viewed_columns}
use Rattle.stream_writer.proofs.Cut.{beginning-heavy, beginning-light, beginning-none}

-- columns without lists and structs with fields

pub flat-step : (fs : List (Rose NamedType)) (i : ℕ) (f d : Rose NamedType) → i < length fs → f ≡ get_or fs i d
    → IsFlat (tree_of f) → AreFlat (trees (drop (i + 1) fs)) → AreFlat (trees (drop i fs))
flat-step fs i f d h e here rest =
    subst (λ (gs : Roses NamedType). AreFlat (trees_of gs)) (sym (kids_step fs i f d e h)) (here, rest)

pub flat-end : (fs : List (Rose NamedType)) (i : ℕ) → length fs ≤ i → AreFlat (trees (drop i fs))
flat-end fs i h = subst (λ (gs : Roses NamedType). AreFlat (trees_of gs)) (sym (kids_end fs i h)) tt

pub flat-at : (ts : List (Rose Layout)) (j : ℕ) (t d : Rose Layout) → j < length ts → t ≡ get_or ts j d
    → AreFlat (kids_of ts) → IsFlat t
flat-at [] j t d h e flat = absurd (omega (arith, h))
flat-at (u ∷ ts) zero t d h e flat = subst IsFlat (sym e) flat.0
flat-at (u ∷ ts) (suc j) t d h e flat = flat-at ts j t d (omega (arith, h)) e flat.1

pub flat-own : (t : Rose Layout) (l : Layout) (kids : Roses Layout) → t ≡ node l kids → IsFlat t → t ≡ node l none
flat-own t l kids is flat =
    is ∙ by-kids kids (subst IsFlat is flat)
  where
    by-kids : (ks : Roses Layout) → IsFlat (node l ks) → node l ks ≡ node l none
    by-kids none h = refl
    by-kids (more u us) h = absurd h

-- the cells of a row

pub view-at :
    (columns : List (Vec CellView Global)) (j i : ℕ) (column : Vec CellView Global) (cell : CellView)
    → j < length columns → column ≡ get_or columns j column → i < length column.items
    → cell ≡ get_or column.items i cell
    → viewed cell ≡ get_or (row_at (viewed_columns columns) i) j null
view-at columns j i column cell h e inside is =
    let items : Vec CellView Global → List Datum = λ c. map viewed c.items in
    let many = length-map columns items in
    sym (get_or-map (λ ds. get_or ds i null) (viewed_columns columns) j [] null (omega (arith, h, many))
    ∙ ap (λ ds. get_or ds i null) (get_or-map items columns j column [] h ∙ ap items (sym e))
    ∙ get_or-map viewed column.items i cell null inside ∙ ap viewed (sym is))

pub row-long : (columns : List (List Datum)) (i : ℕ) → length (row_at columns i) ≡ length columns
row-long columns i = length-map columns (λ c. get_or c i null)

pub weight-step :
    (ts : List (Rose Layout)) (row : List Datum) (j : ℕ) (t : Rose Layout) (l : Layout) (c : Datum)
    → j < length ts → j < length row → t ≡ get_or ts j t → c ≡ get_or row j null → t ≡ node l none
    → row_weight (kids_of (drop j ts)) (drop j row)
    ≡ weight (node l none) c + row_weight (kids_of (drop (j + 1) ts)) (drop (j + 1) row)
weight-step ts row j t l c h g e is own =
    ap (λ (ks : Roses Layout). row_weight ks (drop j row)) (kids_step ts j t t e h)
    ∙ ap (row_weight (more t (kids_of (drop (j + 1) ts)))) (drop_more row j null g)
    ∙ ap (λ d. weight t d + row_weight (kids_of (drop (j + 1) ts)) (drop (j + 1) row)) (sym is)
    ∙ ap (λ (u : Rose Layout). weight u c + row_weight (kids_of (drop (j + 1) ts)) (drop (j + 1) row)) own

-- Cell j of a row adds its weight.
pub weighs-next :
    (ts : List (Rose Layout)) (columns : List (Vec CellView Global)) (i j sum w : ℕ) (t : Rose Layout) (l : Layout)
    (kids : Roses Layout) (column : Vec CellView Global) (cell : CellView)
    → AreFlat (kids_of ts) → length columns ≡ length ts
    → All (λ (c : Vec CellView Global). i < length c.items) columns → j < length ts → t ≡ get_or ts j t
    → t ≡ node l kids → column ≡ get_or columns j column → cell ≡ get_or column.items i cell
    → w ≡ weight (node l none) (viewed cell)
    → sum + row_weight (kids_of (drop j ts)) (drop j (row_at (viewed_columns columns) i))
    ≡ row_weight (kids_of ts) (row_at (viewed_columns columns) i)
    → sum + w + row_weight (kids_of (drop (j + 1) ts)) (drop (j + 1) (row_at (viewed_columns columns) i))
    ≡ row_weight (kids_of ts) (row_at (viewed_columns columns) i)
weighs-next ts columns i j sum w t l kids column cell flat many there h e is read found weighs so =
    let row = row_at (viewed_columns columns) i in
    let wide = row-long (viewed_columns columns) i in
    let as_many = length-map columns (λ (c : Vec CellView Global). map viewed c.items) in
    let within : j < length columns = omega (arith, h, many) in
    let P : Vec CellView Global → Type 0 = λ c. i < length c.items in
    let inside : i < length column.items = subst P (sym read) (All-get_or P columns j column within there) in
    let own = flat-own t l kids is (flat-at ts j t t h e flat) in
    let step =
    weight-step ts row j t l (viewed cell) h (omega (arith, within, wide, as_many)) e
    (view-at columns j i column cell within read inside found) own in
    omega (arith, step, weighs, so)

pub weight-end : (ts : List (Rose Layout)) (row : List Datum) (j : ℕ) → length ts ≤ j
    → row_weight (kids_of (drop j ts)) (drop j row) ≡ 0
weight-end ts row j h = ap (λ (ks : Roses Layout). row_weight ks (drop j row)) (kids_end ts j h)

-- row after row

pub views-next : (columns : List (List Datum)) (at n : ℕ) → 0 < n
    → rows_from columns at n ≡ row_at columns at ∷ rows_from columns (at + 1) (n - 1)
unfolding rows_from
views-next columns at zero h = absurd (omega (arith, h))
views-next columns at (suc n) h =
    let same : n ≡ suc n - 1 = omega arith in
    ap (λ k. row_at columns at ∷ rows_from columns (at + 1) k) same

pub view-in : (P : List Datum → Type 0) (columns : List (List Datum)) (at n k : ℕ) → k < n
    → All P (rows_from columns at n) → P (row_at columns (at + k))
unfolding rows_from
view-in P columns at zero k h all = absurd (omega (arith, h))
view-in P columns at (suc n) zero h all =
    let same : at ≡ at + 0 = omega arith in
    subst (λ i. P (row_at columns i)) same (All-head P (row_at columns at) (rows_from columns (at + 1) n) all)
view-in P columns at (suc n) (suc k) h all =
    let same : at + 1 + k ≡ at + suc k = omega arith in
    subst (λ i. P (row_at columns i)) same
    (view-in P columns (at + 1) n k (omega (arith, h)) (All-tail P (row_at columns at) (rows_from columns (at + 1) n)
    all))

pub fitting-heavy :
    (ls : Roses Layout) (columns : List (List Datum)) (most room at left : ℕ) → 0 < left
    → room < row_weight ls (row_at columns at) → beginning ls most room (rows_from columns at left) ≡ 0
fitting-heavy ls columns most room at left some heavy =
    ap (beginning ls most room) (views-next columns at left some)
    ∙ beginning-heavy ls most room (row_at columns at) (rows_from columns (at + 1) (left - 1)) heavy

pub fitting-light :
    (ls : Roses Layout) (columns : List (List Datum)) (most room at left : ℕ) → 0 < left → 0 < most
    → row_weight ls (row_at columns at) ≤ room
    → beginning ls most room (rows_from columns at left)
    ≡ 1 + beginning ls (most - 1) (room - row_weight ls (row_at columns at)) (rows_from columns (at + 1) (left - 1))
fitting-light ls columns most room at left some few light =
    ap (beginning ls most room) (views-next columns at left some)
    ∙ beginning-light ls most room (row_at columns at) (rows_from columns (at + 1) (left - 1)) few light

pub fitting-none : (ls : Roses Layout) (columns : List (List Datum)) (most room at left : ℕ) → left ≡ 0
    → beginning ls most room (rows_from columns at left) ≡ 0
unfolding rows_from
fitting-none ls columns most room at zero is = beginning-none ls most room
fitting-none ls columns most room at (suc n) is = absurd (omega (arith, is))

pub fitting-full : (ls : Roses Layout) (most room : ℕ) (rows : List (List Datum)) → most ≡ 0
    → beginning ls most room rows ≡ 0
fitting-full ls zero room rows is = refl
fitting-full ls (suc n) room rows is = absurd (omega (arith, is))

-- No more rows fit than these.
pub fits-none :
    (ls : Roses Layout) (columns : List (List Datum)) (most count room from left w : ℕ) → count < left
    → w ≡ row_weight ls (row_at columns (from + count)) → room < w
    → count + beginning ls (most - count) room (rows_from columns (from + count) (left - count)) ≡ count
fits-none ls columns most count room from left w some weighs heavy =
    let none_fits =
    fitting-heavy ls columns (most - count) room (from + count) (left - count) (omega (arith, some)) (omega (
      arith,
      weighs,
      heavy,
    )) in
    omega (arith, none_fits)

-- One more fits.
pub fits-one :
    (ls : Roses Layout) (columns : List (List Datum)) (most count room from left w : ℕ) → count < left → count < most
    → w ≡ row_weight ls (row_at columns (from + count)) → w ≤ room
    → count + 1 + beginning ls (most - (count + 1)) (room - w) (rows_from columns (from + (count + 1)) (left - (count + 1)))
    ≡ count + beginning ls (most - count) room (rows_from columns (from + count) (left - count))
fits-one ls columns most count room from left w some few weighs light =
    let row = row_at columns (from + count) in
    let rest : ℕ → ℕ → ℕ → ℕ → ℕ = λ n r at k. beginning ls n r (rows_from columns at k) in
    let one =
    fitting-light ls columns (most - count) room (from + count) (left - count) (omega (arith, some)) (omega (
      arith,
      few,
    )) (omega (arith, weighs, light)) in
    let a : most - (count + 1) ≡ most - count - 1 = omega arith in
    let b : room - w ≡ room - row_weight ls row = ap (λ x. room - x) weighs in
    let d : from + (count + 1) ≡ from + count + 1 = omega arith in
    let e : left - (count + 1) ≡ left - count - 1 = omega arith in
    let same : rest (most - (count + 1)) (room - w) (from + (count + 1)) (left - (count + 1))
    ≡ rest (most - count - 1) (room - row_weight ls row) (from + count + 1) (left - count - 1) =
    ap (λ n. rest n (room - w) (from + (count + 1)) (left - (count + 1))) a
    ∙ ap (λ r. rest (most - count - 1) r (from + (count + 1)) (left - (count + 1))) b
    ∙ ap (λ at. rest (most - count - 1) (room - row_weight ls row) at (left - (count + 1))) d
    ∙ ap (rest (most - count - 1) (room - row_weight ls row) (from + count + 1)) e in
    omega (arith, one, same)

-- All that may fit do.
pub fits-all :
    (ls : Roses Layout) (columns : List (List Datum)) (most count room from left : ℕ) → count ≡ min left most
    → count + beginning ls (most - count) room (rows_from columns (from + count) (left - count)) ≡ count
fits-all ls columns most count room from left is =
    elim (cases_lt most left) [
      | inl over ↦
          let full =
          fitting-full ls (most - count) room (rows_from columns (from + count) (left - count)) (omega (
            arith,
            is,
            over,
          )) in
          omega (arith, full)
      | inr few ↦
          let whole =
          fitting-none ls columns (most - count) room (from + count) (left - count) (omega (arith, is, few)) in
          omega (arith, whole)
    ]

-- where rows are light, as many fit as may
pub light-fit :
    (ls : Roses Layout) (columns : List (List Datum)) (most room from left : ℕ) → most * max_light_row ≤ room
    → ((k : ℕ) → k < min left most → row_weight ls (row_at columns (from + k)) ≤ max_light_row)
    → beginning ls most room (rows_from columns from left) ≡ min left most
light-fit ls columns most room from zero fits light =
    let none_fit = fitting-none ls columns most room from zero refl in omega (arith, none_fit)
light-fit ls columns zero room from (suc left) fits light =
    let none_fit = fitting-full ls zero room (rows_from columns from (suc left)) refl in omega (arith, none_fit)
light-fit ls columns (suc most) room from (suc left) fits light =
    let first = light 0 (omega arith) in
    let at : from + 0 ≡ from = omega arith in
    let own = ap (λ i. row_weight ls (row_at columns i)) at in
    let here = fitting-light ls columns (suc most) room from (suc left) (omega arith) (omega arith) (omega (
      arith,
      first,
      own,
      fits,
    )) in
    let rest = light-fit ls columns most (room - row_weight ls (row_at columns from)) (from + 1) left (omega (
      arith,
      first,
      own,
      fits,
    )) (λ k below.
    let next : from + suc k ≡ from + 1 + k = omega arith in
    subst (λ i. row_weight ls (row_at columns i) ≤ max_light_row) next (light (suc k) (omega (arith, below)))) in
    let fewer : suc most - 1 ≡ most = omega arith in
    let shorter : suc left - 1 ≡ left = omega arith in
    let others : ℕ → ℕ → ℕ =
    λ n k. beginning ls n (room - row_weight ls (row_at columns from)) (rows_from columns (from + 1) k) in
    let same = ap (λ n. others n (suc left - 1)) fewer ∙ ap (others most) shorter in
    omega (arith, here, same, rest)

-- the heaviest cell
abbrev pub AreWithin : Layout → ℕ → List CellView → Type 0
AreWithin l most cells = All (λ cell. weight (node l none) (viewed cell) ≤ most) cells

pub within-more :
    (l : Layout) (cells : List CellView) (i most w next : ℕ) → i < length cells
    → w ≡ weight (node l none) (viewed (get_or cells i Null)) → next ≡ max most w
    → AreWithin l most (take i cells) → AreWithin l next (take (i + 1) cells)
within-more l cells i most w next h weighs grown so =
    let W : ℕ → CellView → Type 0 = λ n c. weight (node l none) (viewed c) ≤ n in
    All-more (W next) cells i Null h
    (All-weaker (W most) (W next) (λ c light. omega (arith, light, grown)) (take i cells) so)
    (omega (arith, weighs, grown))

pub within-all : (l : Layout) (cells : List CellView) (i most : ℕ) → length cells ≤ i → AreWithin l most (take i cells)
    → AreWithin l most cells
within-all l cells i most h so = subst (AreWithin l most) (take_all i cells h) so

-- column by column, no row weighs more than the bounds so far and the remaining columns

abbrev pub IsLightSoFar : List (Rose Layout) → List (Vec CellView Global) → ℕ → ℕ → ℕ → ℕ → Type 0
IsLightSoFar ts columns from count j sum =
    (k : ℕ) → k < count
    → row_weight (kids_of ts) (row_at (viewed_columns columns) (from + k))
    ≤ sum + row_weight (kids_of (drop j ts)) (drop j (row_at (viewed_columns columns) (from + k)))

same-default : {A : Type 0} (xs : List A) (i : ℕ) (d e : A) → i < length xs → get_or xs i d ≡ get_or xs i e
same-default [] i d e h = absurd (omega (arith, h))
same-default (x ∷ xs) zero d e h = refl
same-default (x ∷ xs) (suc i) d e h = same-default xs i d e (omega (arith, h))

pub light-next :
    (ts : List (Rose Layout)) (columns : List (Vec CellView Global)) (from count j sum most next : ℕ)
    (t : Rose Layout) (l : Layout) (kids : Roses Layout) (column : Vec CellView Global) (cells : List CellView)
    → AreFlat (kids_of ts) → length columns ≡ length ts → from + count ≤ length column.items → j < length ts
    → t ≡ get_or ts j t → t ≡ node l kids → column ≡ get_or columns j column
    → cells ≡ take count (drop from column.items)
    → AreWithin l most cells → sum + most ≡ next → IsLightSoFar ts columns from count j sum
    → IsLightSoFar ts columns from count (j + 1) next
light-next ts columns from count j sum most next t l kids column cells flat many long h e is read cut bound grown so =
    λ k below.
    let i : ℕ = from + k in
    let row = row_at (viewed_columns columns) i in
    let wide = row-long (viewed_columns columns) i in
    let as_many = length-map columns (λ (c : Vec CellView Global). map viewed c.items) in
    let within : j < length columns = omega (arith, h, many) in
    let inside : i < length column.items = omega (arith, below, long) in
    let cell : CellView = get_or column.items i Null in
    let found : cell ≡ get_or column.items i cell = same-default column.items i Null cell inside in
    let own = flat-own t l kids is (flat-at ts j t t h e flat) in
    let step =
    weight-step ts row j t l (viewed cell) h (omega (arith, within, wide, as_many)) e
    (view-at columns j i column cell within read inside found) own in
    let W : CellView → Type 0 = λ c. weight (node l none) (viewed c) ≤ most in
    let there : k < length cells = omega (
      arith,
      ap length cut,
      length-take count (drop from column.items),
      length-drop from column.items,
      long,
      below,
    ) in
    let read_off : get_or cells k Null ≡ cell =
    ap (λ (cs : List CellView). get_or cs k Null) cut ∙ get_or-take count (drop from column.items) k Null below
    ∙ get_or-drop from column.items k Null in
    let light : W cell = subst W read_off (All-get_or W cells k Null there bound) in
    let before = so k below in
    omega (arith, step, light, before, grown)

-- column by column

pub column-views :
    (columns : List (Vec CellView Global)) (from left count j : ℕ) (column : Vec CellView Global) → j < length columns
    → column ≡ get_or columns j column → from + left ≤ length column.items → count ≤ left
    → map (part j) (row_cells (take count (rows_from (viewed_columns columns) from left)))
    ≡ map viewed (take count (drop from column.items))
column-views columns from left count j column h e long within =
    let cols = viewed_columns columns in
    let items : Vec CellView Global → List Datum = λ c. map viewed c.items in
    let many = length-map columns items in
    let size = length-map column.items viewed in
    ap (λ rs. map (part j) (row_cells rs)) (rows-taken cols from count left within)
    ∙ rows-column cols from count j (map viewed column.items) (omega (arith, h, many))
    (get_or-map items columns j column [] h ∙ ap items (sym e)) (omega (arith, long, within, size))
    ∙ ap (take count) (drop-map viewed from column.items) ∙ take-map viewed count (drop from column.items)

pub below-is :
    (columns : List (Vec CellView Global)) (from left count j : ℕ) (column : Vec CellView Global) (cells : List CellView)
    → j < length columns → column ≡ get_or columns j column → cells ≡ column.items
    → from + left ≤ length column.items → count ≤ left
    → map viewed (take (from + count - from) (drop from cells))
    ≡ map (part j) (row_cells (take count (rows_from (viewed_columns columns) from left)))
below-is columns from left count j column cells h e is long within =
    let same : from + count - from ≡ count = omega arith in
    ap (λ n. map viewed (take n (drop from cells))) same ∙ ap (λ cs. map viewed (take count (drop from cs))) is
    ∙ sym (column-views columns from left count j column h e long within)

-- The next column is written, of a layout without children.
pub writing-first :
    (j : ℕ) (ts : List (Rose Layout)) (t : Rose Layout) (l : Layout) (cs : List Datum) (now : Body)
    (ns : List FieldNode) (ss : List BufferRange) (bs : List ℕ)
    → j < length ts → t ≡ get_or ts j t → t ≡ node l none → Ahead Struct j (kids_of (drop j ts)) cs now ns ss bs
    → Ahead Struct j (more (node l none) (kids_of (drop (j + 1) ts))) cs now ns ss bs
writing-first j ts t l cs now ns ss bs h e own a =
    subst (λ (u : Rose Layout). Ahead Struct j (more u (kids_of (drop (j + 1) ts))) cs now ns ss bs) own
    (ahead-first Struct j ts t cs now ns ss bs h e a)

pub views-dropped : (columns : List (List Datum)) (from left count : ℕ) → count ≤ left
    → rows_from columns (from + count) (left - count) ≡ drop count (rows_from columns from left)
views-dropped columns from left count h = sym (rows-dropped columns from count left h)

pub all-long : (columns : List (Vec CellView Global)) (n : ℕ)
    → All (λ (c : Vec CellView Global). length c.items ≡ n) columns
    → All (λ (c : Vec CellView Global). 0 + n ≤ length c.items) columns
all-long columns n all =
    All-weaker (λ (c : Vec CellView Global). length c.items ≡ n) (λ (c : Vec CellView Global). 0 + n ≤ length c.items)
    (λ c size. omega (arith, size)) columns all

pub long-weaker : (columns : List (Vec CellView Global)) (m n : ℕ) → n ≤ m
    → All (λ (c : Vec CellView Global). m ≤ length c.items) columns
    → All (λ (c : Vec CellView Global). n ≤ length c.items) columns
long-weaker columns m n h all =
    All-weaker (λ (c : Vec CellView Global). m ≤ length c.items) (λ (c : Vec CellView Global). n ≤ length c.items)
    (λ c long. omega (arith, h, long)) columns all

pub long-at : (columns : List (Vec CellView Global)) (m j : ℕ) (column : Vec CellView Global) → j < length columns
    → column ≡ get_or columns j column
    → All (λ (c : Vec CellView Global). m ≤ length c.items) columns → m ≤ length column.items
long-at columns m j column h e all =
    let P : Vec CellView Global → Type 0 = λ c. m ≤ length c.items in
    subst P (sym e) (All-get_or P columns j column h all)

pub ruleset flat = (flat-end)
