-- The record batches of a table of which some columns are coded, as they are written.
use Rattle.std.proofs.Common.{
  ◌≡◌,
  ℕ,
  suc,
  ◌+◌,
  ◌^◌,
  ◌<◌,
  ◌≤◌,
  Bool,
  true,
  false,
  cond,
  List,
  [],
  ◌∷◌,
  ◌++◌,
  length,
  get_or,
  drop,
  All,
  None,
  Some,
  refl,
  ap,
  sym,
  subst,
  ◌∙◌,
  arith,
}
use Rattle.std.specs.Prelude.{map, ◌==◌, ◌||◌, not, if◌then◌else◌, Vec}
use Rattle.std.specs.List.{list_any, position, position_or_len}
use Rattle.std.specs.declared.alloc.Global.{Global}
use Rattle.std.proofs.lemmas.Bool.Decides.{nat_tests}
use Rattle.std.proofs.lemmas.Grind.{common_steps}
use Rattle.std.proofs.lemmas.List.{get_or-map}
use Rattle.std.proofs.lemmas.List.Elements.{All-weaker}
use Rattle.std.proofs.lemmas.List.Folds.{list_any_at}
use Rattle.std.proofs.lemmas.List.Quantifiers.{position-Some}
use Rattle.values.specs.Coded.{is_coded}
use Rattle.values.specs.Datum.{Datum}
use Rattle.values.specs.Layouts.{Holds, IsLayout}
use Rattle.values.specs.Rose.{Rose, Roses, node, none, more, kids_of}
use Rattle.values.proofs.Roses.{kids_end, kids_step}
use Rattle.values.specs.Weights.{weights}
use Rattle.values.specs.declared.layout.Layout.{Layout}
use Rattle.values.specs.declared.layout.Layout.TheVariants.{Struct}
use Rattle.array_layout.specs.declared.array.FieldNode.{FieldNode}
use Rattle.array_layout.specs.declared.array.BufferRange.{BufferRange}
use Rattle.body_writer.specs.Batch.{IsBatch, body_bytes, body_nodes, body_ranges, row_cells}
use Rattle.body_writer.specs.Columns.{buffers, nodes}
use Rattle.body_writer.specs.Grows.{Grows}
use Rattle.body_writer.specs.Slots.{part}
use Rattle.body_writer.specs.declared.body.Body.{Body}
use Rattle.body_writer.proofs.Ahead.{ahead-call, ahead-next}
use Rattle.body_writer.proofs.Rows.{Writing, cells_in, write-start}
use Rattle.schema_meta.proofs.CodedFields.{coded-has}
use Rattle.stream_writer.specs.Batch.{batch_metadata, batch_whole}
use Rattle.stream_writer.specs.Coding.{
  AreTextCells,
  IsTextAt,
  cells_at,
  cells_shown,
  index_layout,
  indexed_from,
  indexed_layouts,
  indexed_rows,
  indices_at,
  value_rows,
  values_at,
}
use Rattle.stream_writer.specs.DictionaryBatch.{text_layouts}
use Rattle.stream_writer.specs.Stream.{batch_message, batch_messages, dictionary_messages, message}
use Rattle.stream_writer.proofs.CodedRead.{indexed-cells, part-cells, same-cells, text-cells}
use Rattle.stream_writer.proofs.DictionaryBodies.{IsBody, IsNew, all-written}
use Rattle.stream_writer.proofs.IndexedRows.{TextTrees, values-batch}

-- the index of a coded column among the coded ones

any-below : (p : ℕ → Bool) (ks : List ℕ) → list_any p ks ≡ true → position_or_len p ks < length ks
any-below p [] e = absurd (cc)
any-below p (k ∷ ks) e = by-test (p k) refl (λ g. any-below p ks g)
  where
    by-test : (b : Bool) → p k ≡ b → (list_any p ks ≡ true → position_or_len p ks < length ks)
        → cond (not b) (1 + position_or_len p ks) 0 < length (k ∷ ks)
    by-test true is later = omega arith
    by-test false is later = let rest = later (sym (ap (λ b. b || list_any p ks) is) ∙ e) in omega (arith, rest)

pub place-none : (j : ℕ) (coded : List ℕ) → position (λ k. k == j) coded ≡ None → is_coded coded j ≡ false
place-none j coded e = by-test (is_coded coded j) refl
  where
    by-test : (b : Bool) → is_coded coded j ≡ b → is_coded coded j ≡ false
    by-test false is = is
    by-test true is = let below = any-below (λ k. k == j) coded is in absurd (grind (arith, common_steps))

pub place-some : (j place : ℕ) (coded : List ℕ) → position (λ k. k == j) coded ≡ Some place
    → (place < length coded) × (get_or coded place 0 ≡ j) × (is_coded coded j ≡ true)
place-some j place coded e =
    let at = position-Some (λ k. k == j) coded place 0 e in
    let found : (get_or coded place 0 == j) ≡ true = at.1 in
    (at.0, grind (arith, nat_tests), list_any_at (λ k. k == j) coded place 0 at.0 at.1)

pub indices-found :
    (coded : List ℕ) (rows : List (List Datum)) (columns : List (Vec Datum Global)) (j place : ℕ) (d : Vec Datum Global)
    → cells_in columns ≡ map (λ k. indices_at k rows) coded → place < length columns → place < length coded
    → get_or coded place 0 ≡ j → (get_or columns place d).items ≡ indices_at j rows
indices-found coded rows columns j place d same within below is =
    sym (get_or-map (λ (c : Vec Datum Global). c.items) columns place d d.items within)
    ∙ ap (λ cs. get_or cs place d.items) same
    ∙ get_or-map (λ k. indices_at k rows) coded place 0 d.items below ∙ ap (λ k. indices_at k rows) is

-- the columns, one after another

abbrev tree_shown : Bool → Rose Layout → Rose Layout
tree_shown b (node l kids) = node (if b then index_layout else l) kids

plain-tree : (t : Rose Layout) → tree_shown false t ≡ t
plain-tree (node l kids) = refl

index-tree : (t : Rose Layout) → IsLayout (tree_shown true t) → tree_shown true t ≡ node index_layout none
index-tree (node l none) h = refl
index-tree (node l (more t ts)) h = absurd (h.0)

shown-cells : (coded : List ℕ) (j : ℕ) (b : Bool) (rows : List (List Datum)) → is_coded coded j ≡ b
    → cells_shown b j rows ≡ map (part j) (row_cells (indexed_rows coded rows))
shown-cells coded j true rows e =
    sym (indexed-cells coded (λ k. values_at k rows) j rows e) ∙ sym (part-cells j (indexed_rows coded rows))
shown-cells coded j false rows e =
    sym (same-cells coded (λ k. values_at k rows) j rows e) ∙ sym (part-cells j (indexed_rows coded rows))

-- columns from number j on are still to be written, and then the body is the whole
abbrev pub Indexing : List ℕ → ℕ → List (Rose Layout) → List (List Datum) → Body → Type 0
Indexing coded j ts rows now =
    Writing j (indexed_layouts coded j (kids_of (drop j ts))) (indexed_rows coded rows) now
    (indexed_layouts coded 0 (kids_of ts))

abbrev IndexingFirst : List ℕ → ℕ → List (Rose Layout) → List (List Datum) → Body → Rose Layout → Type 0
IndexingFirst coded j ts rows now t =
    Writing j (more (tree_shown (is_coded coded j) t) (indexed_layouts coded (suc j) (kids_of (drop (j + 1) ts))))
    (indexed_rows coded rows) now (indexed_layouts coded 0 (kids_of ts))

indexing-first : (coded : List ℕ) (j : ℕ) (ts : List (Rose Layout)) (rows : List (List Datum)) (now : Body)
    (t d : Rose Layout) → j < length ts → t ≡ get_or ts j d → Indexing coded j ts rows now
    → IndexingFirst coded j ts rows now t
indexing-first coded j ts rows now (node l kids) d h e w =
    subst (λ (xs : Roses Layout). Writing j (indexed_layouts coded j xs) (indexed_rows coded rows) now
    (indexed_layouts coded 0 (kids_of ts))) (kids_step ts j (node l kids) d e h) w

tree-written : (b : Bool) (t u : Rose Layout) → IsLayout (tree_shown b t)
    → u ≡ (if b then node index_layout none else t) → u ≡ tree_shown b t
tree-written true t u h is = is ∙ sym (index-tree t h)
tree-written false t u h is = is ∙ sym (plain-tree t)

abbrev pub CanWrite : Rose Layout → List Datum → Type 0
CanWrite u cs = IsLayout u × All (Holds u) cs × (weights u cs < 2 ^ 31)

shown-call :
    (coded : List ℕ) (j : ℕ) (ts : List (Rose Layout)) (rows : List (List Datum)) (now : Body) (t d : Rose Layout)
    (cs : List Datum) → j < length ts → t ≡ get_or ts j d → cs ≡ cells_shown (is_coded coded j) j rows
    → Indexing coded j ts rows now → CanWrite (tree_shown (is_coded coded j) t) cs
shown-call coded j ts rows now t d cs h e shown w =
    let b = is_coded coded j in
    ahead-call Struct j (tree_shown b t) (indexed_layouts coded (suc j) (kids_of (drop (j + 1) ts)))
    (row_cells (indexed_rows coded rows)) cs now _ _ _ (shown ∙ shown-cells coded j b rows refl)
    (indexing-first coded j ts rows now t d h e w)

pub indexing-call :
    (coded : List ℕ) (j : ℕ) (ts : List (Rose Layout)) (rows : List (List Datum)) (now : Body) (t d u : Rose Layout)
    (cs : List Datum) → j < length ts → t ≡ get_or ts j d
    → u ≡ (if is_coded coded j then node index_layout none else t) → cs ≡ cells_shown (is_coded coded j) j rows
    → Indexing coded j ts rows now → CanWrite u cs
indexing-call coded j ts rows now t d u cs h e is shown w =
    let call = shown-call coded j ts rows now t d cs h e shown w in
    let tree = tree-written (is_coded coded j) t u call.0 is in
    subst (λ (v : Rose Layout). CanWrite v cs) (sym tree) call

pub indexing-next :
    (coded : List ℕ) (j : ℕ) (ts : List (Rose Layout)) (rows : List (List Datum)) (now next : Body)
    (t d u : Rose Layout) (cs : List Datum) → j < length ts → t ≡ get_or ts j d
    → u ≡ (if is_coded coded j then node index_layout none else t) → cs ≡ cells_shown (is_coded coded j) j rows
    → Indexing coded j ts rows now → Grows now next (nodes u cs) (buffers u cs)
    → Indexing coded (j + 1) ts rows next
indexing-next coded j ts rows now next t d u cs h e is shown w grows =
    let b = is_coded coded j in
    let tree = tree-written b t u (shown-call coded j ts rows now t d cs h e shown w).0 is in
    let G : Rose Layout → Type 0 = λ v. Grows now next (nodes v cs) (buffers v cs) in
    let here : Grows now next (nodes (tree_shown b t) cs) (buffers (tree_shown b t) cs) = subst G tree grows in
    let after : suc j ≡ j + 1 = omega arith in
    let P : ℕ → Type 0 =
    λ k. Writing (j + 1) (indexed_layouts coded k (kids_of (drop (j + 1) ts))) (indexed_rows coded rows) next
    (indexed_layouts coded 0 (kids_of ts)) in
    subst P after
    (ahead-next Struct j (tree_shown b t) (indexed_layouts coded (suc j) (kids_of (drop (j + 1) ts)))
    (row_cells (indexed_rows coded rows)) cs now next _ _ _ (shown ∙ shown-cells coded j b rows refl)
    (indexing-first coded j ts rows now t d h e w) here)

pub indexing-start :
    (coded : List ℕ) (ts : List (Rose Layout)) (rows : List (List Datum)) (now : Body)
    → IsBatch (indexed_layouts coded 0 (kids_of ts)) (indexed_rows coded rows) → IsNew now
    → Indexing coded 0 ts rows now
indexing-start coded ts rows now batch new =
    write-start (indexed_layouts coded 0 (kids_of ts)) (indexed_rows coded rows) now batch new.nodes new.ranges
    new.bytes

pub indexing-done :
    (coded : List ℕ) (j : ℕ) (ts : List (Rose Layout)) (rows : List (List Datum)) (now : Body) → length ts ≤ j
    → Indexing coded j ts rows now
    → IsBody now (indexed_layouts coded 0 (kids_of ts)) (indexed_rows coded rows)
indexing-done coded j ts rows now h w =
    all-written j (indexed_rows coded rows) now (indexed_layouts coded 0 (kids_of ts))
    (subst (λ (xs : Roses Layout). Writing j (indexed_layouts coded j xs) (indexed_rows coded rows) now
    (indexed_layouts coded 0 (kids_of ts))) (kids_end ts j h) w)

-- the messages of a batch

pub record-made :
    (n : ℕ) (ls : Roses Layout) (rows : List (List Datum)) (ns : List FieldNode) (ss : List BufferRange) (bs : List ℕ)
    → n ≡ length rows → ns ≡ body_nodes ls rows → ss ≡ body_ranges ls rows → bs ≡ body_bytes ls rows
    → message (batch_whole n ns ss (length bs)) bs ≡ batch_message ls rows
unfolding batch_message batch_metadata
record-made n ls rows ns ss bs en ens ess ebs =
    ap (λ m. message (batch_whole m ns ss (length bs)) bs) en
    ∙ ap (λ xs. message (batch_whole (length rows) xs ss (length bs)) bs) ens
    ∙ ap (λ xs. message (batch_whole (length rows) (body_nodes ls rows) xs (length bs)) bs) ess
    ∙ ap (λ xs. message (batch_whole (length rows) (body_nodes ls rows) (body_ranges ls rows) (length xs)) xs) ebs

pub batch-made : (coded : List ℕ) (ls : Roses Layout) (rows : List (List Datum)) (first last new : List ℕ)
    → first ≡ dictionary_messages coded rows
    → last ≡ batch_message (indexed_layouts coded 0 ls) (indexed_rows coded rows) → new ≡ first ++ last
    → new ≡ batch_messages coded ls rows
unfolding batch_messages
batch-made coded ls rows first last new a b e =
    e ∙ ap (λ xs. xs ++ last) a ∙ ap (λ xs. dictionary_messages coded rows ++ xs) b

-- what is coded holds texts

trees-at : (coded : List ℕ) (j : ℕ) (ts : Roses Layout)
    → ((k m : ℕ) → j + k ≡ m → is_coded coded m ≡ true → IsTextAt k ts) → TextTrees coded j ts
trees-at coded j none h = tt
trees-at coded j (more (node l kids) ts) h = (
  λ e. h 0 j (omega arith) e,
  trees-at coded (suc j) ts (λ k m same e. h (suc k) m (omega (arith, same)) e),
)

pub text-trees : (coded : List ℕ) (ts : Roses Layout) → All (λ j. IsTextAt j ts) coded → TextTrees coded 0 ts
text-trees coded ts all =
    trees-at coded 0 ts
    (λ k m same e.
    let is : m ≡ k = omega (arith, same) in
    subst (λ (n : ℕ). IsTextAt n ts) is (coded-has (λ n. IsTextAt n ts) coded m e all))

pub all-text-cells : (coded : List ℕ) (ts : Roses Layout) (rows : List (List Datum)) → All (λ j. IsTextAt j ts) coded
    → IsBatch ts rows → All (λ j. AreTextCells (cells_at j rows)) coded
all-text-cells coded ts rows all b =
    All-weaker (λ j. IsTextAt j ts) (λ j. AreTextCells (cells_at j rows)) (λ j is. text-cells j ts rows is b.held) coded
    all

pub all-values : (coded : List ℕ) (ts : Roses Layout) (rows : List (List Datum)) → All (λ j. IsTextAt j ts) coded
    → IsBatch ts rows → All (λ j. IsBatch text_layouts (value_rows (values_at j rows))) coded
all-values coded ts rows all b =
    All-weaker (λ j. IsTextAt j ts) (λ j. IsBatch text_layouts (value_rows (values_at j rows)))
    (λ j is. values-batch j ts rows is b) coded all

-- without coded columns a batch is its record batch

plain-layouts : (j : ℕ) (ts : Roses Layout) → indexed_layouts [] j ts ≡ ts
plain-layouts j none = refl
plain-layouts j (more (node l kids) ts) = ap (λ (us : Roses Layout). more (node l kids) us) (plain-layouts (suc j) ts)

plain-row : (values : ℕ → List (List ℕ)) (j : ℕ) (row : List Datum) → indexed_from [] values j row ≡ row
plain-row values j [] = refl
plain-row values j (c ∷ cs) = ap (λ ds. c ∷ ds) (plain-row values (suc j) cs)

plain-rows : (values : ℕ → List (List ℕ)) (rows : List (List Datum)) → map (indexed_from [] values 0) rows ≡ rows
plain-rows values [] = refl
plain-rows values (row ∷ rows) = rw (plain-row values 0 row, plain-rows values rows) refl

pub plain-messages : (ls : Roses Layout) (rows : List (List Datum)) → batch_messages [] ls rows ≡ batch_message ls rows
unfolding batch_messages
plain-messages ls rows =
    ap (λ (us : Roses Layout). batch_message us (indexed_rows [] rows)) (plain-layouts 0 ls)
    ∙ ap (batch_message ls) (plain-rows (λ j. values_at j rows) rows)
