-- The rows of a batch with coded columns are read back from its body and its dictionaries.
use Rattle.std.proofs.Common.{
  ◌≡◌,
  ℕ,
  ℤ,
  zero,
  suc,
  ◌+◌,
  ◌<◌,
  ◌≤◌,
  Bool,
  true,
  false,
  List,
  [],
  ◌∷◌,
  ◌++◌,
  length,
  get_or,
  All,
  Some,
  None,
  Ok,
  refl,
  ap,
  sym,
  subst,
  ◌∙◌,
  arith,
  append_assoc,
  append-nil,
}
use Rattle.std.specs.Prelude.{pos, map, ◌==◌, ◌||◌, if◌then◌else◌, unwrap_or}
use Rattle.std.specs.List.{list_any}
use Rattle.std.specs.Cmp.{signed_Decides}
use Rattle.std.specs.Ordering.{int_eq}
use Rattle.std.proofs.lemmas.Bool.Decides.{nat_tests}
use Rattle.std.proofs.lemmas.List.{length-map}
use Rattle.std.proofs.lemmas.Bool.{eq-eqb}
use Rattle.std.proofs.lemmas.List.Elements.{All-cons, All-head, All-nil, All-tail, All-weaker}
use Rattle.values.specs.Datum.{Datum, null, truth, whole, text, bytes, list, structure, items_of}
use Rattle.values.specs.ColTypes.{layout_of as layout_by}
use Rattle.values.specs.Layouts.{AreLayouts, HoldsEach, IsNode, IsText}
use Rattle.values.specs.declared.col_type.ColType.{ColType}
use Rattle.values.specs.Rose.{Rose, node, Roses, none, more, kids_of, rose_size, roses_size}
use Rattle.values.specs.Logical.{NamedType, trees_of}
use Rattle.values.specs.declared.layout.Layout.{Layout}
use Rattle.dictionaries.specs.Batches.{DictionaryBatch, batch, dictionary_after, found_after, is_of}
use Rattle.dictionaries.proofs.Batches.{found-or-none, step_after}
use Rattle.array_layout.specs.declared.array.FieldNode.{FieldNode}
use Rattle.array_layout.specs.declared.array.BufferRange.{BufferRange}
use Rattle.array_layout.specs.declared.array.DictionaryValues.{DictionaryValues}
use Rattle.array_layout.specs.Placing.{data_at, placed, placed_all, ranges_in, with_dictionary}
use Rattle.array_layout.specs.Cells.{column_of}
use Rattle.schema_meta.specs.SchemaTree.{AreColumns}
use Rattle.values.specs.Coded.{AreAscending, AreCoded, IsTextColumn, is_coded, utf8}
use Rattle.schema_meta.specs.Coded.{own_encoding}
use Rattle.schema_meta.specs.Dictionaries.{value_type}
use Rattle.schema_meta.specs.Entry.{Entry}
use Rattle.schema_meta.specs.FieldLayouts.{slot_layout, slot_layouts_below, slot_layouts_of}
use Rattle.schema_meta.specs.Parts.{arrays_of, decoded, decoded_all, values_array}
use Rattle.schema_meta.specs.Rows.{columns_in, rows_of, values_of}
use Rattle.schema_meta.specs.SchemaLaw.{coded_fields, coded_from, stored_below}
use Rattle.schema_meta.proofs.CodedFields.{coded-has, coded-texts}
use Rattle.schema_meta.proofs.Plain.{plain-array, slots-plain}
use Rattle.schema_meta.proofs.SoundFields.{TextsFrom}
use Rattle.body_writer.specs.Slots.{part}
use Rattle.body_writer.specs.Law.{AreRead}
use Rattle.body_writer.specs.Batch.{IsBatch, body_bytes, body_nodes, body_ranges, row_cells}
use Rattle.body_writer.proofs.Cells.{part-listed}
use Rattle.stream_writer.specs.Coding.{
  AreTextCells,
  AreTextsIn,
  IsTextAt,
  IsTextCell,
  cells_at,
  index_in,
  index_layout,
  indexed_from,
  indexed_layouts,
  indexed_rows,
  text_layout,
  value_rows,
  values_at,
}
use Rattle.stream_writer.specs.DictionaryBatch.{text_layouts, values_body}
use Rattle.stream_writer.specs.Stream.{trees}
use Rattle.stream_writer.specs.BatchLaw.{head_by}
use Rattle.stream_writer.specs.DictionaryLaw.{dictionary_head}
use Rattle.stream_writer.proofs.Decoded.{
  Decodes,
  among-values,
  column-decoded,
  indices-decode,
  or-left,
  or-right,
}
use Rattle.stream_writer.proofs.IndexedRows.{TextTrees, indexed-batch, text-cell}
use Rattle.body_writer.proofs.RowsReadBack.{batch-read, columns_from, rows-back}

-- layouts

one-slot : (b : Bool) (j : ℕ) (s : ColType) → slot_layout (if b then Some (own_encoding j) else None) s
    ≡ (if b then index_layout else layout_by s)
one-slot true j s = refl
one-slot false j s = refl

slots-coded : (coded : List ℕ) (j : ℕ) (fs : List (Rose NamedType))
    → slot_layouts_below (kids_of (coded_from coded j fs)) ≡ indexed_layouts coded j (trees_of (kids_of fs))
slots-coded coded j [] = refl
slots-coded coded j (node f kids ∷ fs) =
    rw (one-slot (is_coded coded j) j f.col_type, slots-plain kids, slots-coded coded (suc j) fs) refl

pub coded-slots : (coded : List ℕ) (fs : List (Rose NamedType))
    → slot_layouts_of (coded_fields coded fs) ≡ indexed_layouts coded 0 (trees fs)
coded-slots coded fs = slots-coded coded 0 fs

trees-text : (coded : List ℕ) (j : ℕ) (fs : List (Rose NamedType)) → TextsFrom coded j fs
    → TextTrees coded j (trees_of (kids_of fs))
trees-text coded j [] h = tt
trees-text coded j (node f kids ∷ fs) h = ((λ e. ap layout_by (h.0 e)), trees-text coded (suc j) fs h.1)

pub coded-trees : (coded : List ℕ) (fs : List (Rose NamedType)) → AreCoded coded fs → TextTrees coded 0 (trees fs)
coded-trees coded fs c = trees-text coded 0 fs (coded-texts coded fs c)

text-at : (k : ℕ) (fs : List (Rose NamedType)) → IsTextColumn fs k → IsTextAt k (trees_of (kids_of fs))
text-at k [] h = absurd h
text-at zero (node f kids ∷ fs) h = ap layout_by h
text-at (suc k) (node f kids ∷ fs) h = text-at k fs h

pub coded-text-at : (coded : List ℕ) (fs : List (Rose NamedType)) (j : ℕ) → AreCoded coded fs
    → is_coded coded j ≡ true → IsTextAt j (trees fs)
coded-text-at coded fs j c e = text-at j fs (coded-has (IsTextColumn fs) coded j e c.texts)

-- the cells of a column

pub part-cells : (j : ℕ) (rows : List (List Datum)) → map (part j) (row_cells rows) ≡ cells_at j rows
part-cells j [] = refl
part-cells j (row ∷ rows) = rw (part-listed j row, part-cells j rows) refl

indexed-at : (coded : List ℕ) (values : ℕ → List (List ℕ)) (i k m : ℕ) (row : List Datum) → i + k ≡ m
    → get_or (indexed_from coded values i row) k null
    ≡ (if is_coded coded m then index_in (values m) (get_or row k null) else get_or row k null)
indexed-at coded values i k m [] same = by-test (is_coded coded m)
  where
    by-test : (b : Bool) → null ≡ (if b then index_in (values m) null else null)
    by-test true = refl
    by-test false = refl
indexed-at coded values i zero m (c ∷ cs) same =
    let is : i ≡ m = omega (arith, same) in
    ap (λ n. if is_coded coded n then index_in (values n) c else c) is
indexed-at coded values i (suc k) m (c ∷ cs) same = indexed-at coded values (suc i) k m cs (omega (arith, same))

pub indexed-cells : (coded : List ℕ) (values : ℕ → List (List ℕ)) (j : ℕ) (rows : List (List Datum))
    → is_coded coded j ≡ true
    → cells_at j (map (indexed_from coded values 0) rows) ≡ map (index_in (values j)) (cells_at j rows)
indexed-cells coded values j [] e = refl
indexed-cells coded values j (row ∷ rows) e =
    rw (indexed-at coded values 0 j j row (omega arith), e, indexed-cells coded values j rows e) refl

pub same-cells : (coded : List ℕ) (values : ℕ → List (List ℕ)) (j : ℕ) (rows : List (List Datum))
    → is_coded coded j ≡ false → cells_at j (map (indexed_from coded values 0) rows) ≡ cells_at j rows
same-cells coded values j [] e = refl
same-cells coded values j (row ∷ rows) e =
    rw (indexed-at coded values 0 j j row (omega arith), e, same-cells coded values j rows e) refl

one-text : (c : Datum) → IsText c → IsTextCell c
one-text null h = tt
one-text (text t) h = tt
one-text (truth v) h = absurd h
one-text (whole z) h = absurd h
one-text (bytes x) h = absurd h
one-text (list es) h = absurd h
one-text (structure es) h = absurd h

pub text-cells : (j : ℕ) (ts : Roses Layout) (rows : List (List Datum)) → IsTextAt j ts
    → All (λ row. HoldsEach ts (items_of row)) rows → AreTextCells (cells_at j rows)
text-cells j ts [] is h = tt
text-cells j ts (row ∷ rows) is h =
    let P : List Datum → Type 0 = λ r. HoldsEach ts (items_of r) in (
      one-text (get_or row j null) (text-cell j ts row is (All-head P row rows h)),
      text-cells j ts rows is (All-tail P row rows h),
    )

-- columns, coded or not

-- the values of the coded columns' dictionaries are those of this batch
abbrev pub AreOf : List ℕ → List (List Datum) → (ℤ → List Datum) → Type 0
AreOf coded rows values = (j : ℕ) → is_coded coded j ≡ true → values (pos j) ≡ map text (values_at j rows)

abbrev pub AreTexts : List ℕ → List (List Datum) → Type 0
AreTexts coded rows = (j : ℕ) → is_coded coded j ≡ true → AreTextCells (cells_at j rows)

no-kids : (kids : Roses NamedType) → IsNode text_layout (trees_of kids) → kids ≡ none
no-kids none h = refl
no-kids (more f fs) h = absurd h

-- a column of indices, with its dictionary
with-values :
    (coded : List ℕ) (j : ℕ) (s : ColType) (values : ℤ → List Datum) (rows : List (List Datum)) (body : List ℕ)
    (all : List FieldNode) (ranges : List BufferRange) (n b : ℕ)
    → is_coded coded j ≡ true → AreOf coded rows values → AreTexts coded rows
    → column_of body (placed all ranges n b (node index_layout none)) ≡ Ok
    (map (part j) (row_cells (indexed_rows coded rows)))
    → column_of body (node (with_dictionary (Some (record { layout = layout_by s; values = values (pos j) }))
    (data_at all ranges n b index_layout)) none) ≡ Ok (map (part j) (row_cells rows))
with-values coded j s values rows body all ranges n b e of texts read =
    let vs : List (List ℕ) = values_at j rows in
    let w : DictionaryValues = record { layout = layout_by s; values = values (pos j) } in
    let now : map (part j) (row_cells (indexed_rows coded rows)) ≡ map (index_in vs) (cells_at j rows) =
    part-cells j (indexed_rows coded rows) ∙ indexed-cells coded (λ k. values_at k rows) j rows e in
    let decodes : Decodes (map text vs) (map (index_in vs) (cells_at j rows)) (cells_at j rows) =
    indices-decode vs (cells_at j rows) (among-values [] (cells_at j rows) (texts j e)) in
    let P : List Datum → Type 0 = λ us. Decodes us (map (index_in vs) (cells_at j rows)) (cells_at j rows) in
    column-decoded body all ranges n b w (map (index_in vs) (cells_at j rows)) (cells_at j rows)
    (read ∙ ap (λ cs. Ok cs) now) (subst P (sym (of j e)) decodes)
    ∙ ap (λ cs. Ok cs) (sym (part-cells j rows))

column-back :
    (coded : List ℕ) (j : ℕ) (f : NamedType) (kids : Roses NamedType) (values : ℤ → List Datum)
    (rows : List (List Datum)) (body : List ℕ) (all : List FieldNode) (ranges : List BufferRange) (n b : ℕ) (t : Bool)
    → is_coded coded j ≡ t → (is_coded coded j ≡ true → f.col_type ≡ utf8)
    → IsNode (layout_by f.col_type) (trees_of kids) → AreOf coded rows values → AreTexts coded rows
    → column_of body (placed all ranges n b (node (if t then index_layout else layout_by f.col_type) (trees_of kids)))
    ≡ Ok (map (part j) (row_cells (indexed_rows coded rows)))
    → column_of body (decoded values
    (node (record {
      name = f.name;
      nullable = true;
      stored = f.col_type;
      encoding = if t then Some (own_encoding j) else None;
    }) (stored_below kids))
    (placed all ranges n b (node (if t then index_layout else layout_by f.col_type) (trees_of kids))))
    ≡ Ok (map (part j) (row_cells rows))
column-back coded j f kids values rows body all ranges n b false e is fits of texts read =
    ap (column_of body) (plain-array values all ranges n b (node f kids)) ∙ read
    ∙ ap (λ cs. Ok cs) (part-cells j (indexed_rows coded rows) ∙ same-cells coded (λ k. values_at k rows) j rows e
    ∙ sym (part-cells j rows))
column-back coded j f kids values rows body all ranges n b true e is fits of texts read =
    let L : ColType → Type 0 = λ s. IsNode (layout_by s) (trees_of kids) in
    let alone : kids ≡ none = no-kids kids (subst L (is e) fits) in
    let P : Roses NamedType → Type 0 =
    λ ks. column_of body (placed all ranges n b (node index_layout (trees_of ks))) ≡ Ok
    (map (part j) (row_cells (indexed_rows coded rows)))
    → column_of body (decoded values
    (node (record { name = f.name; nullable = true; stored = f.col_type; encoding = Some (own_encoding j) })
    (stored_below ks)) (placed all ranges n b (node index_layout (trees_of ks)))) ≡ Ok
    (map (part j) (row_cells rows)) in
    subst P (sym alone) (with-values coded j f.col_type values rows body all ranges n b e of texts) read

columns-back :
    (coded : List ℕ) (j : ℕ) (fs : List (Rose NamedType)) (values : ℤ → List Datum) (rows : List (List Datum))
    (body : List ℕ) (all : List FieldNode) (ranges : List BufferRange) (n b : ℕ)
    → TextsFrom coded j fs → AreLayouts (trees_of (kids_of fs)) → AreOf coded rows values → AreTexts coded rows
    → AreRead body (placed_all all ranges n b (indexed_layouts coded j (trees_of (kids_of fs)))) j
    (row_cells (indexed_rows coded rows))
    → columns_in body (decoded_all values (kids_of (coded_from coded j fs))
    (placed_all all ranges n b (indexed_layouts coded j (trees_of (kids_of fs)))))
    ≡ Ok (columns_from j (trees_of (kids_of fs)) (row_cells rows))
unfolding columns_in
columns-back coded j [] values rows body all ranges n b is fits of texts read = refl
columns-back coded j (node f kids ∷ fs) values rows body all ranges n b is fits of texts read =
    let tree : Rose Layout =
    node (if is_coded coded j then index_layout else layout_by f.col_type) (trees_of kids) in
    let here =
    column-back coded j f kids values rows body all ranges n b (is_coded coded j) refl is.0 fits.0.0 of texts
    read.0 in
    let others =
    columns-back coded (suc j) fs values rows body all ranges (n + rose_size tree) (b + ranges_in tree) is.1 fits.1
    of texts read.1 in
    rw (here, others) refl

pub all-texts : (fs : List (Rose NamedType)) (coded : List ℕ) (rows : List (List Datum)) → AreCoded coded fs
    → IsBatch (trees fs) rows → AreTexts coded rows
all-texts fs coded rows c b = λ j e. text-cells j (trees fs) rows (coded-text-at coded fs j c e) b.held

-- The body that is written for rows, read by the header that is written, with the dictionaries of this batch, is the
-- rows.
pub rows-coded :
    (values : ℤ → List Datum) (fs : List (Rose NamedType)) (coded : List ℕ) (rows : List (List Datum))
    → AreCoded coded fs → IsBatch (trees fs) rows → AreOf coded rows values
    → rows_of values (coded_fields coded fs) (head_by (indexed_layouts coded 0 (trees fs)) (indexed_rows coded rows))
    (body_bytes (indexed_layouts coded 0 (trees fs)) (indexed_rows coded rows)) ≡ Ok rows
unfolding rows_of arrays_of
rows-coded values fs coded rows c b of =
    let ls = indexed_layouts coded 0 (trees fs) in
    let now = indexed_rows coded rows in
    let own = indexed-batch coded (trees fs) rows (coded-trees coded fs c) b in
    let read =
    columns-back coded 0 fs values rows (body_bytes ls now) (body_nodes ls now) (body_ranges ls now) 0 0
    (coded-texts coded fs c) b.layouts of (all-texts fs coded rows c b) (batch-read ls now own).0 in
    let many : length now ≡ length rows =
    length-map rows (indexed_from coded (λ j. values_at j rows) 0) in
    rw (coded-slots coded fs, read, many, rows-back (trees fs) rows b.held) refl

-- The dictionaries after those of one batch.

abbrev pub batch_at : List (List Datum) → ℕ → DictionaryBatch
batch_at rows j = batch (pos j) false (map text (values_at j rows))

same-test : (k j : ℕ) (t u : Bool) → int_eq (pos k) (pos j) ≡ t → (k == j) ≡ u → t ≡ u
same-test k j true true is other = refl
same-test k j false false is other = refl
same-test k j true false is other =
    let same : pos k ≡ pos j = (signed_Decides (pos k) (pos j)).0 is in
    let equal : k ≡ j = cc in
    let yes : (k == j) ≡ true = eq-eqb k j equal in
    absurd (cc)
same-test k j false true is other =
    let equal : k ≡ j = grind (arith, nat_tests) in
    let yes : int_eq (pos k) (pos j) ≡ true = (signed_Decides (pos k) (pos j)).1 (ap (λ n. pos n) equal) in
    absurd (cc)

one-after : (ds : List DictionaryBatch) (k : ℕ) (vs : List Datum) (j : ℕ)
    → dictionary_after (ds ++ batch (pos k) false vs ∷ []) (pos j)
    ≡ (if k == j then vs else dictionary_after ds (pos j))
one-after ds k vs j =
    let now = ds ++ batch (pos k) false vs ∷ [] in
    sym (found-or-none now (pos j) (list_any (is_of (pos j)) now) refl)
    ∙ ap (λ f. unwrap_or f []) (step_after ds (batch (pos k) false vs) (pos j))
    ∙ ap (λ b. unwrap_or (if b then Some vs else found_after ds (pos j)) [])
    (same-test k j (int_eq (pos k) (pos j)) (k == j) refl refl)
    ∙ by-test (k == j)
  where
    by-test : (b : Bool) → unwrap_or (if b then Some vs else found_after ds (pos j)) []
        ≡ (if b then vs else dictionary_after ds (pos j))
    by-test true = refl
    by-test false = found-or-none ds (pos j) (list_any (is_of (pos j)) ds) refl

all-after : (ds : List DictionaryBatch) (rows : List (List Datum)) (js : List ℕ) (j : ℕ)
    → dictionary_after (ds ++ map (batch_at rows) js) (pos j)
    ≡ (if is_coded js j then map text (values_at j rows) else dictionary_after ds (pos j))
all-after ds rows [] j = ap (λ es. dictionary_after es (pos j)) (append-nil ds)
all-after ds rows (k ∷ ks) j =
    let one : List DictionaryBatch = batch_at rows k ∷ [] in
    ap (λ es. dictionary_after es (pos j)) (sym (append_assoc ds one (map (batch_at rows) ks)))
    ∙ all-after (ds ++ one) rows ks j
    ∙ ap (λ vs. if is_coded ks j then map text (values_at j rows) else vs)
    (one-after ds k (map text (values_at k rows)) j)
    ∙ by-test (k == j) (is_coded ks j) refl
  where
    by-test : (b d : Bool) → (k == j) ≡ b
        → (if d then map text (values_at j rows)
        else (if b then map text (values_at k rows) else dictionary_after ds (pos j)))
        ≡ (if b || d then map text (values_at j rows) else dictionary_after ds (pos j))
    by-test true true is = refl
    by-test true false is =
        let same : k ≡ j = grind (arith, nat_tests) in ap (λ i. map text (values_at i rows)) same
    by-test false true is = refl
    by-test false false is = refl

-- after the dictionaries of a batch each coded column has its own
pub are-of : (ds : List DictionaryBatch) (coded : List ℕ) (rows : List (List Datum))
    → AreOf coded rows (dictionary_after (ds ++ map (batch_at rows) coded))
are-of ds coded rows = λ j e.
    all-after ds rows coded j
    ∙ ap (λ b. if b then map text (values_at j rows) else dictionary_after ds (pos j)) e

-- The values of a dictionary batch are read back.

values-cells : (values : List (List ℕ)) → map (part 0) (row_cells (value_rows values)) ≡ map text values
values-cells [] = refl
values-cells (t ∷ ts) = ap (λ cs. text t ∷ cs) (values-cells ts)

pub values-read :
    (fields : List (Rose Entry)) (j : ℕ) (values : List (List ℕ)) → value_type fields (pos j) ≡ Some utf8
    → IsBatch text_layouts (value_rows values)
    → values_of fields (dictionary_head j values) (values_body values) ≡ Ok (map text values)
unfolding values_of values_array
values-read fields j values type b =
    rw type ((batch-read text_layouts (value_rows values) b).0.0 ∙ ap (λ cs. Ok cs) (values-cells values))

-- positions

pub text-small : (k : ℕ) (ts : Roses Layout) → IsTextAt k ts → k < roses_size ts
text-small k none h = absurd h
text-small zero (more (node l kids) ts) h = omega arith
text-small (suc k) (more (node l kids) ts) h = let rest = text-small k ts h in omega (arith, rest)

coded-more : (k : ℕ) (ks js : List ℕ) → All (λ j. is_coded ks j ≡ true) js
    → All (λ j. is_coded (k ∷ ks) j ≡ true) js
coded-more k ks js h =
    All-weaker (λ j. is_coded ks j ≡ true) (λ j. is_coded (k ∷ ks) j ≡ true)
    (λ j e. or-right (k == j) (is_coded ks j) e) js h

-- each of the coded positions is one of them
pub each-coded : (coded : List ℕ) → All (λ j. is_coded coded j ≡ true) coded
each-coded [] = All-nil (λ j. is_coded [] j ≡ true)
each-coded (k ∷ ks) =
    All-cons (λ j. is_coded (k ∷ ks) j ≡ true) k ks (or-left (k == k) (is_coded ks k) (eq-eqb k k refl))
    (coded-more k ks ks (each-coded ks))

ascending-head : (j : ℕ) (js : List ℕ) → AreAscending (j ∷ js) → All (λ k. j < k) js
ascending-head j js up i d within = up zero (suc i) d (omega arith) (omega arith)

ascending-tail : (j : ℕ) (js : List ℕ) → AreAscending (j ∷ js) → AreAscending js
ascending-tail j js up i k d lt within = up (suc i) (suc k) d (omega arith) (omega arith)

-- Ascending positions below a number are no more than that number.
ascending-few : (low n : ℕ) (js : List ℕ) → AreAscending js → All (λ j. low ≤ j) js → All (λ j. j < n) js
    → low ≤ n → length js + low ≤ n
ascending-few low n [] up from below h = omega (arith, h)
ascending-few low n (j ∷ js) up from below h =
    let first = All-head (λ k. low ≤ k) j js from in
    let last = All-head (λ k. k < n) j js below in
    let rest =
    ascending-few (suc j) n js (ascending-tail j js up)
    (All-weaker (λ k. j < k) (λ k. suc j ≤ k) (λ k e. omega (arith, e)) js (ascending-head j js up)) (All-tail (λ k. k < n) j js below)
    (omega (arith, last)) in
    omega (arith, first, rest)

trees-size : (fs : Roses NamedType) → roses_size (trees_of fs) ≡ roses_size fs
trees-size none = refl
trees-size (more (node f kids) fs) =
    let here = trees-size kids in let rest = trees-size fs in omega (arith, here, rest)

pub coded-in :
    (coded : List ℕ) (fs : List (Rose NamedType)) (ls : Roses Layout) → ls ≡ trees fs → AreColumns fs
    → AreCoded coded fs → AreTextsIn coded ls
coded-in coded fs ls same columns c =
    let few = columns.few in
    let size = trees-size (kids_of fs) in
    let texts : All (λ j. IsTextAt j (trees fs)) coded =
    All-weaker (IsTextColumn fs) (λ j. IsTextAt j (trees fs)) (λ j h. text-at j fs h) coded c.texts in
    let below : All (λ j. j < roses_size (trees fs)) coded =
    All-weaker (λ j. IsTextAt j (trees fs)) (λ j. j < roses_size (trees fs)) (λ j h. text-small j (trees fs) h) coded
    texts in
    let count =
    ascending-few 0 (roses_size (trees fs)) coded c.ascending
    (All-weaker (IsTextColumn fs) (λ j. 0 ≤ j) (λ j h. omega arith) coded c.texts) below (omega arith) in
    subst (λ (us : Roses Layout). AreTextsIn coded us) (sym same)
    (record { few = omega (arith, count, size, few); texts = texts })
