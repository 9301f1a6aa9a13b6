-- Rows with indices in the coded columns, and the values of their dictionaries, are batches too.
use Rattle.std.proofs.Common.{
  ◌≡◌,
  ℕ,
  zero,
  suc,
  ◌+◌,
  ◌^◌,
  ◌<◌,
  ◌≤◌,
  Bool,
  true,
  false,
  List,
  [],
  ◌∷◌,
  ◌++◌,
  length,
  get_or,
  refl,
  sym,
  subst,
  arith,
  length-append,
}
use Rattle.std.specs.Prelude.{All, map, if◌then◌else◌}
use Rattle.std.specs.List.{list_any, position_or_len}
use Rattle.std.specs.Str.{bytes_eq, is_utf8}
use Rattle.std.proofs.lemmas.Int.{ints}
use Rattle.std.proofs.lemmas.List.{length-map}
use Rattle.std.proofs.lemmas.List.Elements.{All-cons, All-head, All-nil, All-tail}
use Rattle.std.proofs.lemmas.List.Sums.{prefix_len-le-length}
use Rattle.values.specs.Datum.{Datum, null, truth, whole, text, bytes, list, structure, items_of}
use Rattle.values.specs.Layouts.{AreLayouts, Holds, HoldsEach, IsLayout, IsText, row_weight as weight_beside, weight}
use Rattle.values.specs.Rose.{Rose, node, Roses, none, more, roses_size}
use Rattle.values.specs.declared.layout.Layout.{Layout}
use Rattle.body_writer.specs.Batch.{IsBatch, rows_weight}
use Rattle.values.specs.Coded.{is_coded}
use Rattle.stream_writer.specs.Coding.{
  IsTextAt,
  add_text,
  cells_at,
  index_in,
  index_layout,
  indexed_from,
  indexed_layouts,
  indexed_rows,
  text_layout,
  texts_after,
  value_rows,
  values_at,
}
use Rattle.stream_writer.specs.DictionaryBatch.{text_layouts}

-- of the columns from position j on, those that are coded have the layout of texts
abbrev pub TextTrees : List ℕ → ℕ → Roses Layout → Type 0
TextTrees coded j none = Unit {0}
TextTrees coded j (more (node l kids) ts) = (is_coded coded j ≡ true → l ≡ text_layout) × TextTrees coded (suc j) ts

-- sizes

layouts-size : (coded : List ℕ) (j : ℕ) (ts : Roses Layout) → roses_size (indexed_layouts coded j ts) ≡ roses_size ts
layouts-size coded j none = refl
layouts-size coded j (more (node l kids) ts) = let rest = layouts-size coded (suc j) ts in omega (arith, rest)

one-layout : (b : Bool) (l : Layout) (kids : Roses Layout) → (b ≡ true → l ≡ text_layout) → IsLayout (node l kids)
    → IsLayout (node (if b then index_layout else l) kids)
one-layout false l kids is h = h
one-layout true l kids is h =
    let P : Layout → Type 0 = λ m. IsLayout (node m kids) in
    no-kids kids (subst P (is refl) h)
  where
    no-kids : (ks : Roses Layout) → IsLayout (node text_layout ks) → IsLayout (node index_layout ks)
    no-kids none g = g
    no-kids (more t ts) g = absurd (g.0)

layouts-fit : (coded : List ℕ) (j : ℕ) (ts : Roses Layout) → TextTrees coded j ts → AreLayouts ts
    → AreLayouts (indexed_layouts coded j ts)
layouts-fit coded j none texts h = tt
layouts-fit coded j (more (node l kids) ts) texts h =
    (one-layout (is_coded coded j) l kids texts.0 h.0, layouts-fit coded (suc j) ts texts.1 h.1)

-- what the cells are, and what they weigh

abbrev Few : List ℕ → (ℕ → List (List ℕ)) → Type 0
Few coded values = (j : ℕ) → is_coded coded j ≡ true → length (values j) < 2 ^ 31

index-holds : (values : List (List ℕ)) (kids : Roses Layout) (c : Datum) → length values < 2 ^ 31
    → Holds (node text_layout kids) c → Holds (node index_layout kids) (index_in values c)
index-holds values kids null few h = tt
index-holds values kids (text t) few h =
    let within : position_or_len (bytes_eq t) values ≤ length values = prefix_len-le-length _ values in
    (omega (arith, ints), omega (arith, ints, within, few))
index-holds values kids (truth v) few h = absurd h
index-holds values kids (whole z) few h = absurd h
index-holds values kids (bytes x) few h = absurd h
index-holds values kids (list es) few h = absurd h
index-holds values kids (structure es) few h = absurd h

index-light : (values : List (List ℕ)) (kids : Roses Layout) (c : Datum) → Holds (node text_layout kids) c
    → weight (node index_layout kids) (index_in values c) ≤ weight (node text_layout kids) c
index-light values kids null h = omega arith
index-light values kids (text t) h = omega arith
index-light values kids (truth v) h = absurd h
index-light values kids (whole z) h = absurd h
index-light values kids (bytes x) h = absurd h
index-light values kids (list es) h = absurd h
index-light values kids (structure es) h = absurd h

-- a cell, coded or not
abbrev IsFine : Rose Layout → Datum → Rose Layout → Datum → Type 0
IsFine t d u c = Holds t d × (weight t d ≤ weight u c)

cell-fine : (b : Bool) (l : Layout) (kids : Roses Layout) (values : List (List ℕ)) (c : Datum)
    → (b ≡ true → l ≡ text_layout)
    → (b ≡ true → length values < 2 ^ 31) → Holds (node l kids) c
    → IsFine (node (if b then index_layout else l) kids) (if b then index_in values c else c) (node l kids) c
cell-fine false l kids values c is few h = (h, omega arith)
cell-fine true l kids values c is few h =
    let P : Layout → Type 0 = λ m. Holds (node m kids) c in
    let Q : Layout → Type 0 = λ m. IsFine (node index_layout kids) (index_in values c) (node m kids) c in
    let own : Holds (node text_layout kids) c = subst P (is refl) h in
    subst Q (sym (is refl)) (index-holds values kids c (few refl) own, index-light values kids c own)

row-fine : (coded : List ℕ) (values : ℕ → List (List ℕ)) (j : ℕ) (ts : Roses Layout) (row : List Datum)
    → TextTrees coded j ts
    → Few coded values → HoldsEach ts (items_of row)
    → HoldsEach (indexed_layouts coded j ts) (items_of (indexed_from coded values j row))
    × (weight_beside (indexed_layouts coded j ts) (items_of (indexed_from coded values j row))
    ≤ weight_beside ts (items_of row))
row-fine coded values j none [] texts few h = (tt, omega arith)
row-fine coded values j none (c ∷ cs) texts few h = absurd h
row-fine coded values j (more t ts) [] texts few h = absurd h
row-fine coded values j (more (node l kids) ts) (c ∷ cs) texts few h =
    let here = cell-fine (is_coded coded j) l kids (values j) c texts.0 (few j) h.0 in
    let rest = row-fine coded values (suc j) ts cs texts.1 few h.1 in
    ((here.0, rest.0), omega (arith, here.1, rest.1))

rows-fine :
    (coded : List ℕ) (values : ℕ → List (List ℕ)) (ts : Roses Layout) (rows : List (List Datum))
    → TextTrees coded 0 ts → Few coded values → All (λ row. HoldsEach ts (items_of row)) rows
    → All (λ row. HoldsEach (indexed_layouts coded 0 ts) (items_of row)) (map (indexed_from coded values 0) rows)
    × (rows_weight (indexed_layouts coded 0 ts) (map (indexed_from coded values 0) rows) ≤ rows_weight ts rows)
rows-fine coded values ts [] texts few h =
    (All-nil (λ row. HoldsEach (indexed_layouts coded 0 ts) (items_of row)), omega arith)
rows-fine coded values ts (row ∷ rows) texts few h =
    let P : List Datum → Type 0 = λ r. HoldsEach ts (items_of r) in
    let Q : List Datum → Type 0 = λ r. HoldsEach (indexed_layouts coded 0 ts) (items_of r) in
    let here = row-fine coded values 0 ts row texts few (All-head P row rows h) in
    let rest = rows-fine coded values ts rows texts few (All-tail P row rows h) in (
      All-cons Q (indexed_from coded values 0 row) (map (indexed_from coded values 0) rows) here.0 rest.0,
      omega (arith, here.1, rest.1),
    )

-- how many values there are, and what they weigh

added-length : (b : Bool) (seen : List (List ℕ)) (t : List ℕ)
    → length (if b then seen else seen ++ t ∷ []) ≤ length seen + 1
added-length true seen t = omega arith
added-length false seen t = omega (arith, length-append seen (t ∷ []))

texts-few : (seen : List (List ℕ)) (cs : List Datum) → length (texts_after seen cs) ≤ length seen + length cs
texts-few seen [] = omega arith
texts-few seen (text t ∷ cs) =
    let one = added-length (list_any (bytes_eq t) seen) seen t in
    let rest = texts-few (add_text seen t) cs in
    omega (arith, one, rest)
texts-few seen (null ∷ cs) = let rest = texts-few seen cs in omega (arith, rest)
texts-few seen (truth v ∷ cs) = let rest = texts-few seen cs in omega (arith, rest)
texts-few seen (whole z ∷ cs) = let rest = texts-few seen cs in omega (arith, rest)
texts-few seen (bytes x ∷ cs) = let rest = texts-few seen cs in omega (arith, rest)
texts-few seen (list es ∷ cs) = let rest = texts-few seen cs in omega (arith, rest)
texts-few seen (structure es ∷ cs) = let rest = texts-few seen cs in omega (arith, rest)

pub values-few : (j : ℕ) (rows : List (List Datum)) → length (values_at j rows) ≤ length rows
values-few j rows =
    let few = texts-few [] (cells_at j rows) in
    let same = length-map rows (λ row. get_or row j null) in
    omega (arith, few, same)

abbrev texts_weight : List (List ℕ) → ℕ
texts_weight [] = 0
texts_weight (t ∷ ts) = (5 + length t) + texts_weight ts

abbrev text_weight : Datum → ℕ
text_weight (text t) = 5 + length t
text_weight _ = 0

abbrev cells_weight : List Datum → ℕ
cells_weight [] = 0
cells_weight (c ∷ cs) = text_weight c + cells_weight cs

weight-append : (ts : List (List ℕ)) (t : List ℕ) → texts_weight (ts ++ t ∷ []) ≡ texts_weight ts + (5 + length t)
weight-append [] t = omega arith
weight-append (u ∷ ts) t = let rest = weight-append ts t in omega (arith, rest)

added-weight : (b : Bool) (seen : List (List ℕ)) (t : List ℕ)
    → texts_weight (if b then seen else seen ++ t ∷ []) ≤ texts_weight seen + (5 + length t)
added-weight true seen t = omega arith
added-weight false seen t = omega (arith, weight-append seen t)

texts-light : (seen : List (List ℕ)) (cs : List Datum)
    → texts_weight (texts_after seen cs) ≤ texts_weight seen + cells_weight cs
texts-light seen [] = omega arith
texts-light seen (text t ∷ cs) =
    let one = added-weight (list_any (bytes_eq t) seen) seen t in
    let rest = texts-light (add_text seen t) cs in
    omega (arith, one, rest)
texts-light seen (null ∷ cs) = let rest = texts-light seen cs in omega (arith, rest)
texts-light seen (truth v ∷ cs) = let rest = texts-light seen cs in omega (arith, rest)
texts-light seen (whole z ∷ cs) = let rest = texts-light seen cs in omega (arith, rest)
texts-light seen (bytes x ∷ cs) = let rest = texts-light seen cs in omega (arith, rest)
texts-light seen (list es ∷ cs) = let rest = texts-light seen cs in omega (arith, rest)
texts-light seen (structure es ∷ cs) = let rest = texts-light seen cs in omega (arith, rest)

-- the cell of a column of texts
text-cell-light : (kids : Roses Layout) (c : Datum) → text_weight c ≤ weight (node text_layout kids) c
text-cell-light kids null = omega arith
text-cell-light kids (text t) = omega arith
text-cell-light kids (truth v) = omega arith
text-cell-light kids (whole z) = omega arith
text-cell-light kids (bytes x) = omega arith
text-cell-light kids (list es) = omega arith
text-cell-light kids (structure es) = omega arith

cell-within : (k : ℕ) (ts : Roses Layout) (row : List Datum) → IsTextAt k ts → HoldsEach ts (items_of row)
    → text_weight (get_or row k null) ≤ weight_beside ts (items_of row)
cell-within k none row is h = absurd is
cell-within k (more t ts) [] is h = absurd h
cell-within zero (more (node l kids) ts) (c ∷ cs) is h =
    let P : Layout → Type 0 = λ m. text_weight c ≤ weight (node m kids) c in
    let here : text_weight c ≤ weight (node l kids) c = subst P (sym is) (text-cell-light kids c) in
    omega (arith, here)
cell-within (suc k) (more t ts) (c ∷ cs) is h = let rest = cell-within k ts cs is h.1 in omega (arith, rest)

cells-light : (k : ℕ) (ts : Roses Layout) (rows : List (List Datum)) → IsTextAt k ts
    → All (λ row. HoldsEach ts (items_of row)) rows → cells_weight (cells_at k rows) ≤ rows_weight ts rows
cells-light k ts [] is h = omega arith
cells-light k ts (row ∷ rows) is h =
    let P : List Datum → Type 0 = λ r. HoldsEach ts (items_of r) in
    let here = cell-within k ts row is (All-head P row rows h) in
    let rest = cells-light k ts rows is (All-tail P row rows h) in
    omega (arith, here, rest)

-- all values are texts

abbrev AreUtf8 : List (List ℕ) → Type 0
AreUtf8 [] = Unit {0}
AreUtf8 (t ∷ ts) = (is_utf8 t ≡ true) × AreUtf8 ts

abbrev AreUtf8Cells : List Datum → Type 0
AreUtf8Cells [] = Unit {0}
AreUtf8Cells (c ∷ cs) = IsText c × AreUtf8Cells cs

utf8-append : (ts : List (List ℕ)) (t : List ℕ) → AreUtf8 ts → is_utf8 t ≡ true → AreUtf8 (ts ++ t ∷ [])
utf8-append [] t h e = (e, tt)
utf8-append (u ∷ ts) t h e = (h.0, utf8-append ts t h.1 e)

utf8-added : (b : Bool) (seen : List (List ℕ)) (t : List ℕ) → AreUtf8 seen → is_utf8 t ≡ true
    → AreUtf8 (if b then seen else seen ++ t ∷ [])
utf8-added true seen t h e = h
utf8-added false seen t h e = utf8-append seen t h e

texts-utf8 : (seen : List (List ℕ)) (cs : List Datum) → AreUtf8 seen → AreUtf8Cells cs → AreUtf8 (texts_after seen cs)
texts-utf8 seen [] s h = s
texts-utf8 seen (text t ∷ cs) s h =
    texts-utf8 (add_text seen t) cs (utf8-added (list_any (bytes_eq t) seen) seen t s h.0) h.1
texts-utf8 seen (null ∷ cs) s h = texts-utf8 seen cs s h.1
texts-utf8 seen (truth v ∷ cs) s h = absurd (h.0)
texts-utf8 seen (whole z ∷ cs) s h = absurd (h.0)
texts-utf8 seen (bytes x ∷ cs) s h = absurd (h.0)
texts-utf8 seen (list es ∷ cs) s h = absurd (h.0)
texts-utf8 seen (structure es ∷ cs) s h = absurd (h.0)

pub text-cell : (k : ℕ) (ts : Roses Layout) (row : List Datum) → IsTextAt k ts → HoldsEach ts (items_of row)
    → IsText (get_or row k null)
text-cell k none row is h = absurd is
text-cell k (more t ts) [] is h = absurd h
text-cell zero (more (node l kids) ts) (c ∷ cs) is h =
    let P : Layout → Type 0 = λ m. Holds (node m kids) c in subst P is h.0
text-cell (suc k) (more t ts) (c ∷ cs) is h = text-cell k ts cs is h.1

text-cells : (k : ℕ) (ts : Roses Layout) (rows : List (List Datum)) → IsTextAt k ts
    → All (λ row. HoldsEach ts (items_of row)) rows → AreUtf8Cells (cells_at k rows)
text-cells k ts [] is h = tt
text-cells k ts (row ∷ rows) is h =
    let P : List Datum → Type 0 = λ r. HoldsEach ts (items_of r) in (
      text-cell k ts row is (All-head P row rows h),
      text-cells k ts rows is (All-tail P row rows h),
    )

-- the batches

pub indexed-batch : (coded : List ℕ) (ts : Roses Layout) (rows : List (List Datum)) → TextTrees coded 0 ts
    → IsBatch ts rows → IsBatch (indexed_layouts coded 0 ts) (indexed_rows coded rows)
indexed-batch coded ts rows texts b =
    let values : ℕ → List (List ℕ) = λ j. values_at j rows in
    let few = b.few in
    let narrow = b.narrow in
    let light = b.light in
    let same = length-map rows (indexed_from coded values 0) in
    let size = layouts-size coded 0 ts in
    let fine =
    rows-fine coded values ts rows texts (λ j e. let n = values-few j rows in omega (arith, few, n)) b.held in
    record {
      few = omega (arith, few, same);
      held = fine.0;
      narrow = omega (arith, narrow, size);
      layouts = layouts-fit coded 0 ts texts b.layouts;
      light = omega (arith, fine.1, light);
    }

value-held : (ts : List (List ℕ)) → AreUtf8 ts → All (λ row. HoldsEach text_layouts (items_of row)) (value_rows ts)
value-held [] h = All-nil (λ row. HoldsEach text_layouts (items_of row))
value-held (t ∷ ts) h =
    All-cons (λ row. HoldsEach text_layouts (items_of row)) (text t ∷ []) (value_rows ts) (h.0, tt) (value-held ts h.1)

value-weights : (ts : List (List ℕ)) → rows_weight text_layouts (value_rows ts) ≡ texts_weight ts
value-weights [] = refl
value-weights (t ∷ ts) = let rest = value-weights ts in omega (arith, rest)

pub values-batch : (j : ℕ) (ts : Roses Layout) (rows : List (List Datum)) → IsTextAt j ts → IsBatch ts rows
    → IsBatch text_layouts (value_rows (values_at j rows))
values-batch j ts rows is b =
    let values : List (List ℕ) = values_at j rows in
    let few = b.few in
    let light = b.light in
    let n = values-few j rows in
    let same = length-map values (λ t. text t ∷ []) in
    let weight = value-weights values in
    let texts = texts-light [] (cells_at j rows) in
    let cells = cells-light j ts rows is b.held in
    record {
      few = omega (arith, few, n, same);
      held = value-held values (texts-utf8 [] (cells_at j rows) tt (text-cells j ts rows is b.held));
      narrow = omega arith;
      layouts = ((tt, tt), tt);
      light = omega (arith, weight, texts, cells, light);
    }
