-- What is stored with the rows.
use Rattle.std.proofs.Common.{◌≡◌, ℕ, zero, suc, ◌+◌, ◌<◌, ◌≤◌, List, [], ◌∷◌, ◌++◌, length, drop, get_or, refl, ap, sym, subst, ◌∙◌, arith, append-nil, All, length-append}
use Rattle.std.specs.Prelude.{map, Option, None, Some}
use Rattle.std.proofs.lemmas.List.{drop_all, drop_more, length-map}
use Rattle.std.proofs.lemmas.List.Concat.{flat_map-append}
use Rattle.std.proofs.lemmas.List.Elements.{All-append, All-cons, All-nil, All-head, All-tail, All-get_or, All-weaker}
use Rattle.values.specs.Datum.{Datum, items_of, null}
use Rattle.values.specs.Layouts.{Holds, HoldsEach}
use Rattle.values.specs.Rose.{Rose, Roses}
use Rattle.values.specs.Logical.{NamedType}
use Rattle.values.specs.declared.layout.Layout.{Layout}
use Rattle.arrays.specs.Checked.{CheckedColumn}
use Rattle.schema_meta.specs.Entry.{Entry}
use Rattle.schema_meta.specs.FieldLayouts.{layouts_of}
use Rattle.schema_meta.specs.Logical.{logical_field}
use Rattle.schema_meta.specs.LogicalLaw.{LogicalTrees, NarrowRowWeighs, narrow_trees}
use Rattle.schema_meta.specs.Rows.{row_at, rows_from}
use Rattle.feed.specs.Columns.{cells_in, layouts_in}
use Rattle.row_keys.specs.Batches.{HoldsCells}
use Rattle.body_writer.specs.declared.from_columns.batch.Batch.{Batch}
use Rattle.body_writer.specs.RowRanges.{IsSized, batch_rows, rows_of}
use Rattle.stream_writer.specs.Stream.{trees}
use Rattle.body_writer.specs.Batch.{row_weight}
use Rattle.body_writer.specs.Heavy.{AreLightUpTo, IsLight}
use Rattle.liveviews.specs.Taken.{AreFit}
use Rattle.liveviews.specs.Buffered.{IsBuffered, IsBufferedSo, IsWritable, buffered_rows}
use Rattle.stream_writer.specs.Weights.{IsLightBatch, WeighsAs}
use Rattle.liveviews.specs.declared.recasting.buffered_batches.BufferedBatches.{BufferedBatches}
use Rattle.liveviews.proofs.BatchLemmas.{rows_from-length}

-- the columns from one on: what remains to be shown
abbrev pub Rest : List CheckedColumn → ℕ → Type 0
Rest columns i = All HoldsCells (drop i columns) → All HoldsCells columns

pub rest-more :
    (columns : List CheckedColumn) (i : ℕ) (c : CheckedColumn) → c ≡ get_or columns i c → i < length columns
    → HoldsCells c → Rest columns i → Rest columns (i + 1)
rest-more columns i c is below holds h = λ all.
    h (subst (All HoldsCells) (sym (drop_more columns i c below ∙ ap (λ x. x ∷ drop (i + 1) columns) (sym is)))
    (All-cons HoldsCells c (drop (i + 1) columns) holds all))

pub rest-end : (columns : List CheckedColumn) (i : ℕ) → length columns ≤ i → Rest columns i → All HoldsCells columns
rest-end columns i end h = h (subst (All HoldsCells) (sym (drop_all i columns end)) (All-nil HoldsCells))

pub ruleset holding = (rest-more, rest-end)

-- row after row

row-held :
    (columns : List CheckedColumn) (rows i : ℕ) → All HoldsCells columns
    → All (λ (c : CheckedColumn). length c.cells ≡ rows) columns
    → i < rows → HoldsEach (layouts_in columns) (items_of (row_at (cells_in columns) i))
row-held [] rows i holds long below = tt
row-held (c ∷ cs) rows i holds long below =
    let many = All-head (λ (x : CheckedColumn). length x.cells ≡ rows) c cs long in (
      All-get_or (λ d. Holds c.layouts d) c.cells i null (omega (arith, below, many)) (All-head HoldsCells c cs holds),
      row-held cs rows i (All-tail HoldsCells c cs holds) (All-tail (λ (x : CheckedColumn). length x.cells ≡ rows) c cs
          long) below,
    )

pub fit-rows :
    (columns : List CheckedColumn) (n most : ℕ) → All HoldsCells columns
    → All (λ (c : CheckedColumn). length c.cells ≡ n) columns
    → AreLightUpTo (layouts_in columns) (cells_in columns) n most → AreFit (layouts_in columns) (cells_in columns) n
fit-rows columns n most holds long light k below =
    record { held = row-held columns n k holds long below; light = (light k below).0 }

pub all-rows : (P : List Datum → Type 0) (columns : List (List Datum)) (i n : ℕ) → ((k : ℕ) → i ≤ k → k < i + n
    → P (row_at columns k))
    → All P (rows_from columns i n)
unfolding rows_from
all-rows P columns i zero h = All-nil P
all-rows P columns i (suc n) h =
    All-cons P (row_at columns i) (rows_from columns (i + 1) n) (h i (omega arith) (omega arith))
    (all-rows P columns (i + 1) n (λ k lo hi. h k (omega (arith, lo)) (omega (arith, hi))))

-- a batch more

pub one-more : (bs new : List Batch) (b : Batch) → new ≡ bs ++ b ∷ [] → rows_of new ≡ rows_of bs ++ batch_rows b
one-more bs new b is =
    ap rows_of is ∙ flat_map-append batch_rows bs (b ∷ []) ∙ ap (λ xs. rows_of bs ++ xs) (append-nil (batch_rows b))

pub count-more : (bs new : List Batch) (b : Batch) (rows next : ℕ) → new ≡ bs ++ b ∷ [] → rows ≡ length (rows_of bs)
    → next ≡ rows + b.rows
    → next ≡ length (rows_of new)
count-more bs new b rows next is counted e =
    let joined = ap length (one-more bs new b is) ∙ length-append (rows_of bs) (batch_rows b) in
    let size = rows_from-length (cells_in b.columns.items) 0 b.rows in
    omega (arith, joined, size, counted, e)

pub kept-more : (ls : Roses Layout) (old new : BufferedBatches) (b : Batch) (most : ℕ)
    → new.batches.items ≡ old.batches.items ++ b ∷ []
    → All (λ (c : CheckedColumn). length c.cells ≡ b.rows) b.columns.items
    → ls ≡ layouts_in b.columns.items
    → AreLightUpTo ls (cells_in b.columns.items) b.rows most → old.heaviest ≤ new.heaviest → most ≤ new.heaviest
    → IsBuffered (length b.columns.items) ls old → IsBuffered (length b.columns.items) ls new
kept-more ls old new b most is long own light grown above kept =
    let S : Batch → Type 0 = IsSized (length b.columns.items) in
    let W : List Datum → Type 0 = λ row. row_weight ls row ≤ new.heaviest in
    let before : All W (rows_of old.batches.items) =
    All-weaker (λ (row : List Datum). row_weight ls row ≤ old.heaviest) W (λ row h. omega (arith, h, grown)) (rows_of
    old.batches.items)
    kept.light in
    let here : All W (batch_rows b) = all-rows W (cells_in b.columns.items) 0 b.rows
    (λ k lo hi. let bound = (light k (omega (arith, hi))).1 in omega (arith, bound, above)) in
    record {
      sized = subst (All S) (sym is)
          (All-append S old.batches.items (b ∷ []) kept.sized (All-cons S b [] (record {
            columns = refl;
            cells = long;
          }) (All-nil S)));
      fit = subst (All IsLightBatch) (sym is)
          (All-append IsLightBatch old.batches.items (b ∷ []) kept.fit
          (All-cons IsLightBatch b []
          (λ k below. subst (λ (us : Roses Layout). IsLight us (row_at (cells_in b.columns.items) k)) own (light k
          below).0) (All-nil IsLightBatch)));
      alike = subst (All (WeighsAs ls)) (sym is)
          (All-append (WeighsAs ls) old.batches.items (b ∷ []) kept.alike
          (All-cons (WeighsAs ls) b [] (λ row. ap (λ us. row_weight us row) (sym own)) (All-nil (WeighsAs ls))));
      light = subst (All W) (sym (one-more old.batches.items new.batches.items b is))
          (All-append W (rows_of old.batches.items) (batch_rows b) before here);
    }

pub kept-none : (n : ℕ) (ls : Roses Layout) (t : BufferedBatches) → t.batches.items ≡ [] → IsBuffered n ls t
kept-none n ls t is = record {
  sized = subst (All (IsSized n)) (sym is) (All-nil (IsSized n));
  fit = subst (All IsLightBatch) (sym is) (All-nil IsLightBatch);
  alike = subst (All (WeighsAs ls)) (sym is) (All-nil (WeighsAs ls));
  light = subst (λ (bs : List Batch). All (λ (row : List Datum). row_weight ls row ≤ t.heaviest) (rows_of bs)) (sym is)
      (All-nil (λ (row : List Datum). row_weight ls row ≤ t.heaviest));
}

pub kept-so-none : (o : Option (List (Rose Entry))) (t : BufferedBatches) → t.batches.items ≡ [] → IsBufferedSo o t
kept-so-none None t is = tt
kept-so-none (Some fs) t is = kept-none (length fs) (layouts_of fs) t is

-- the same of the logical columns
pub writable : (law : LogicalTrees) (weighs : NarrowRowWeighs) (fs : List (Rose Entry)) (fields : List (Rose
    NamedType)) (t : BufferedBatches)
    → fields ≡ map logical_field fs → IsBuffered (length fs) (layouts_of fs) t → IsWritable fields t
writable law weighs fs fields t named kept =
    let ls : Roses Layout = layouts_of fs in
    let same : trees (map logical_field fs) ≡ narrow_trees ls = law fs in
    let many : length fs ≡ length (map logical_field fs) = sym (length-map fs logical_field) in
    let narrow : All (λ (row : List Datum). row_weight (narrow_trees ls) row ≤ t.heaviest) (buffered_rows t) =
    All-weaker (λ (row : List Datum). row_weight ls row ≤ t.heaviest) (λ (row : List Datum). row_weight (narrow_trees
    ls) row ≤ t.heaviest)
    (λ row h. let e = weighs ls (items_of row) in omega (arith, e, h)) (buffered_rows t) kept.light in
    let here : IsWritable (map logical_field fs) t = record {
      sized = subst (λ (n : ℕ). All (IsSized n) t.batches.items) many kept.sized;
      fit = kept.fit;
      alike = All-weaker (WeighsAs ls) (WeighsAs (trees (map logical_field fs)))
          (λ b h row. h row ∙ sym (weighs ls (items_of row)) ∙ ap (λ us. row_weight us row) (sym same))
          t.batches.items kept.alike;
      light = subst (λ (us : Roses Layout). All (λ (row : List Datum). row_weight us row ≤ t.heaviest) (buffered_rows t))
          (sym same) narrow;
    } in
    subst (λ (xs : List (Rose NamedType)). IsWritable xs t) (sym named) here

-- for writing
