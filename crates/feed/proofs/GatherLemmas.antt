-- The columns of a batch, one after another.
use Rattle.std.proofs.Common.{
  ◌≡◌,
  ℕ,
  zero,
  suc,
  List,
  [],
  ◌∷◌,
  ◌++◌,
  ◌+◌,
  ◌≤◌,
  All,
  length,
  map,
  take,
  Some,
  slice_get,
  slice_index_or,
  Ok,
  Err,
  refl,
  ap,
  sym,
  subst,
  ◌∙◌,
  arith,
  append_assoc,
  append-nil,
}
use Rattle.std.proofs.lemmas.List.{get_or-map, length-map, map-append}
use Rattle.std.proofs.lemmas.List.Elements.{All-append, All-cons}
use Rattle.values.specs.Datum.{Datum}
use Rattle.values.specs.Layouts.{Holds}
use Rattle.values.specs.Reading.{Reading, both, cons, FailsWith, Fails, with_front}
use Rattle.values.specs.Rose.{Rose, Roses, none, more, join}
use Rattle.values.specs.declared.faults.StreamFault.{StreamFault}
use Rattle.values.specs.declared.layout.Layout.{Layout}
use Rattle.values.proofs.Readings.{both_left, both_Ok, bind_Ok, each_length, fails_along, front_none}
use Rattle.array_layout.specs.declared.array.ArrayData.{ArrayData}
use Rattle.array_layout.specs.Cells.{cell, cells, column_of, len_of}
use Rattle.array_layout.specs.Placing.{layout_of, layouts_of}
use Rattle.array_layout.specs.Sound.{ArePlaced, IsPlaced, faults_in}
use Rattle.array_layout.specs.Typed.{AreTyped, IsTyped}
use Rattle.arrays.specs.Checked.{CheckedColumn}
use Rattle.schema_meta.specs.Rows.{columns_in}
use Rattle.schema_meta.specs.PlaceLaw.{HaveLength}
use Rattle.feed.specs.Columns.{cells_in, layouts_in}

front-one : (xs : List (List Datum)) (x : List Datum) (m : Reading (List (List Datum)))
    → with_front (xs ++ x ∷ []) m ≡ with_front xs (both cons (Ok x) m)
front-one xs x (Ok ys) = ap (λ zs. Ok zs) (append_assoc xs (x ∷ []) ys)
front-one xs x (Err fs) = refl

front-fault : (xs : List (List Datum)) (m : Reading (List (List Datum))) (c : StreamFault) → FailsWith m c
    → FailsWith (with_front xs m) c
front-fault xs (Ok ys) c h = h
front-fault xs (Err fs) c h = h

pub columns-more :
    (body : List ℕ) (left rest : Roses ArrayData) (a : Rose ArrayData) (made : List CheckedColumn)
    (c : CheckedColumn) (whole : Reading (List (List Datum)))
    → left ≡ more a rest → column_of body a ≡ Ok c.cells
    → with_front (cells_in made) (columns_in body left) ≡ whole
    → with_front (cells_in (made ++ c ∷ [])) (columns_in body rest) ≡ whole
unfolding columns_in
columns-more body left rest a made c whole split valid all =
    let later : Reading (List (List Datum)) = columns_in body rest in
    let P : Reading (List Datum) → Type 0 = λ m. with_front (cells_in made) (both cons m later) ≡ whole in
    let Q : Roses ArrayData → Type 0 = λ ts. with_front (cells_in made) (columns_in body ts) ≡ whole in
    let R : List (List Datum) → Type 0 = λ xs. with_front xs later ≡ whole in
    let joined : cells_in (made ++ c ∷ []) ≡ cells_in made ++ c.cells ∷ [] = map-append (λ x. x.cells) made (c ∷ []) in
    subst R (sym joined) (front-one (cells_in made) c.cells later ∙ subst P valid (subst Q split all))

columns-fault :
    (body : List ℕ) (left rest : Roses ArrayData) (a : Rose ArrayData) (made : List CheckedColumn)
    (c : StreamFault) (whole : Reading (List (List Datum)))
    → left ≡ more a rest → FailsWith (column_of body a) c
    → with_front (cells_in made) (columns_in body left) ≡ whole → FailsWith whole c
unfolding columns_in
columns-fault body left rest a made c whole split stands all =
    let later : Reading (List (List Datum)) = columns_in body rest in
    let Q : Roses ArrayData → Type 0 = λ ts. with_front (cells_in made) (columns_in body ts) ≡ whole in
    let P : Reading (List (List Datum)) → Type 0 = λ m. FailsWith m c in
    subst P (subst Q split all)
    (front-fault (cells_in made) (both cons (column_of body a) later) c
    (both_left cons (column_of body a) later c stands))

pub columns-fails :
    (body : List ℕ) (left rest : Roses ArrayData) (a : Rose ArrayData) (made : List CheckedColumn)
    (c : StreamFault) (whole : Reading (List (List Datum)))
    → left ≡ more a rest → Fails c (column_of body a) → with_front (cells_in made) (columns_in body left) ≡ whole
    → Fails c whole
columns-fails body left rest a made c whole split fails all =
    fails_along c (column_of body a) whole (λ e stands. columns-fault body left rest a made e whole split stands all)
    fails

pub columns-none :
    (body : List ℕ) (arrays : Roses ArrayData) (made : List CheckedColumn) → made ≡ []
    → with_front (cells_in made) (columns_in body arrays) ≡ columns_in body arrays
columns-none body arrays made empty =
    let P : List CheckedColumn → Type 0 =
    λ cs. with_front (cells_in cs) (columns_in body arrays) ≡ columns_in body arrays in
    subst P (sym empty) (front_none (columns_in body arrays))

pub columns-end :
    (body : List ℕ) (left : Roses ArrayData) (made : List CheckedColumn) (whole : Reading (List (List Datum)))
    → left ≡ none
    → with_front (cells_in made) (columns_in body left) ≡ whole → whole ≡ Ok (cells_in made)
unfolding columns_in
columns-end body left made whole empty is =
    let P : Roses ArrayData → Type 0 = λ ts. with_front (cells_in made) (columns_in body ts) ≡ whole in
    sym (subst P empty is) ∙ ap (λ zs. Ok zs) (append-nil (cells_in made))

-- the buffers of the remaining arrays are found
pub placed-first : (body : List ℕ) (left rest : Roses ArrayData) (a : Rose ArrayData) → left ≡ more a rest
    → ArePlaced body left → IsPlaced body a
placed-first body left rest a split all =
    (subst (ArePlaced body) split all).0

pub placed-rest :
    (body : List ℕ) (left rest : Roses ArrayData) (a : Rose ArrayData) → left ≡ more a rest
    → ArePlaced body left → ArePlaced body rest
placed-rest body left rest a split all =
    (subst (ArePlaced body) split all).1

pub typed-first : (left rest : Roses ArrayData) (a : Rose ArrayData) → left ≡ more a rest → AreTyped left
    → IsTyped a
typed-first left rest a split all = (subst AreTyped split all).0

pub typed-rest : (left rest : Roses ArrayData) (a : Rose ArrayData) → left ≡ more a rest → AreTyped left
    → AreTyped rest
typed-rest left rest a split all = (subst AreTyped split all).1

-- the layouts of the columns, one after another
abbrev pub layouts_before : List CheckedColumn → Roses Layout → Roses Layout
layouts_before made rest = join (map (λ c. c.layouts) made) rest

join-end : (made : List CheckedColumn) → layouts_before made none ≡ layouts_in made
join-end [] = refl
join-end (c ∷ cs) = ap (more c.layouts) (join-end cs)

join-one : (made : List CheckedColumn) (c : CheckedColumn) (rest : Roses Layout)
    → layouts_before (made ++ c ∷ []) rest ≡ layouts_before made (more c.layouts rest)
join-one [] c rest = refl
join-one (d ∷ ds) c rest = ap (more d.layouts) (join-one ds c rest)

pub layouts-none :
    (arrays : Roses ArrayData) (made : List CheckedColumn) → made ≡ []
    → layouts_before made (layouts_of arrays) ≡ layouts_of arrays
layouts-none arrays made empty =
    let P : List CheckedColumn → Type 0 =
    λ cs. layouts_before cs (layouts_of arrays) ≡ layouts_of arrays in
    subst P (sym empty) refl

pub layouts-more :
    (left rest : Roses ArrayData) (a : Rose ArrayData) (made : List CheckedColumn) (c : CheckedColumn)
    (whole : Roses Layout) → left ≡ more a rest
    → c.layouts ≡ layout_of a → layouts_before made (layouts_of left) ≡ whole
    → layouts_before (made ++ c ∷ []) (layouts_of rest) ≡ whole
layouts-more left rest a made c whole split typed all =
    let later : Roses Layout = layouts_of rest in
    let P : Roses ArrayData → Type 0 = λ ts. layouts_before made (layouts_of ts) ≡ whole in
    let Q : Rose Layout → Type 0 = λ t. layouts_before made (more t later) ≡ whole in
    join-one made c later ∙ subst Q (sym typed) (subst P split all)

pub layouts-end :
    (left : Roses ArrayData) (made : List CheckedColumn) (whole : Roses Layout) → left ≡ none
    → layouts_before made (layouts_of left) ≡ whole → layouts_in made ≡ whole
layouts-end left made whole empty is =
    let P : Roses ArrayData → Type 0 = λ ts. layouts_before made (layouts_of ts) ≡ whole in
    sym (join-end made) ∙ subst P empty is

-- the columns that are read have a cell for each slot
column-length : (body : List ℕ) (t : Rose ArrayData) (ds : List Datum) → column_of body t ≡ Ok ds → length ds ≡ len_of t
unfolding column_of cells
column-length body t ds is =
    let read = bind_Ok (faults_in body t) (λ u. cells body t) ds is in each_length (cell body t) 0 (len_of t) ds read.2

columns-lengths :
    (body : List ℕ) (n : ℕ) (ts : Roses ArrayData) (columns : List (List Datum)) → HaveLength n ts
    → columns_in body ts ≡ Ok columns
    → All (λ ds. length ds ≡ n) columns
unfolding columns_in
columns-lengths body n none columns all is =
    let empty : [] ≡ columns = cc in
    let P : List (List Datum) → Type 0 = λ cs. All (λ ds. length ds ≡ n) cs in
    subst P empty (λ k d below. absurd (omega (arith, below)))
columns-lengths body n (more t ts) columns all is =
    let read = both_Ok cons (column_of body t) (columns_in body ts) columns is in
    let P : List (List Datum) → Type 0 = λ cs. All (λ ds. length ds ≡ n) cs in
    subst P read.4
    (All-cons (λ ds. length ds ≡ n) _ _ (column-length body t read.0 read.2
    ∙ all.0) (columns-lengths body n ts read.1 all.1 read.3))

-- each column has a cell in each row
pub columns-whole :
    (n : ℕ) (body : List ℕ) (ts : Roses ArrayData) (columns : List CheckedColumn) → HaveLength n ts
    → columns_in body ts ≡ Ok (cells_in columns)
    → All (λ c. length c.cells ≡ n) columns
columns-whole n body ts columns whole valid =
    let all : All (λ ds. length ds ≡ n) (cells_in columns) = columns-lengths body n ts (cells_in columns) whole valid in
    let f : CheckedColumn → List Datum = λ c. c.cells in
    λ k d below.
    let size : length (cells_in columns) ≡ length columns = length-map columns f in
    let here : slice_index_or (cells_in columns) k d.cells ≡ (slice_index_or columns k d).cells =
    get_or-map f columns k d d.cells below in
    ap length (sym here) ∙ all k d.cells (omega (arith, below, size))

pub ruleset columns = (layouts-none, columns-none)

-- the cells of a column, one after another
pub cells-none : (whole made : List Datum) → made ≡ [] → made ≡ take 0 whole
cells-none whole made empty = empty

pub held-none : (t : Rose Layout) (made : List Datum) → made ≡ [] → All (Holds t) made
held-none t made empty = λ k d below. absurd (omega (arith, below, ap (λ xs. length xs) empty))

pub cells-more : (whole made : List Datum) (i : ℕ) (d : Datum) → slice_get whole i ≡ Some d → made ≡ take i whole
    → made ++ d ∷ [] ≡ take (i + 1) whole
cells-more xs made i d is all = ap (λ ys. ys ++ d ∷ []) all ∙ one_more xs i is where
  one_more : (ys : List Datum) (k : ℕ) → slice_get ys k ≡ Some d → take k ys ++ d ∷ [] ≡ take (k + 1) ys
  one_more [] k here = absurd (cc)
  one_more (y ∷ ys) zero here =
      let same : y ≡ d = cc in
      ap (λ x. x ∷ []) (sym same)
  one_more (y ∷ ys) (suc k) here =
      let more : suc k + 1 ≡ suc (k + 1) = omega arith in
      ap (λ xs. y ∷ xs) (one_more ys k here) ∙ ap (λ n. take n (y ∷ ys)) (sym more)

pub held-more : (t : Rose Layout) (made : List Datum) (d : Datum) → All (Holds t) made → Holds t d
    → All (Holds t) (made ++ d ∷ [])
held-more t made d all here =
    All-append (Holds t) made (d ∷ []) all (All-cons (Holds t) d [] here (λ k e below. absurd (omega (arith, below))))

pub cells-end : (whole made : List Datum) (n : ℕ) → length whole ≤ n → made ≡ take n whole → made ≡ whole
cells-end whole made n all is = is ∙ take-all whole n all where
  take-all : (xs : List Datum) (k : ℕ) → length xs ≤ k → take k xs ≡ xs
  take-all [] zero h = refl
  take-all [] (suc k) h = refl
  take-all (x ∷ xs) zero h = absurd (omega (arith, h))
  take-all (x ∷ xs) (suc k) h = ap (λ ys. x ∷ ys) (take-all xs k (omega (arith, h)))

pub ruleset reading_cells = (cells-none, held-none, cells-more, held-more, cells-end)
