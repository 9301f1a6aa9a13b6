-- The dictionaries of a batch, as they are written.
use Rattle.std.proofs.Common.{
  ◌≡◌,
  ℕ,
  ◌+◌,
  ◌^◌,
  ◌<◌,
  List,
  [],
  ◌∷◌,
  ◌++◌,
  length,
  get_or,
  drop,
  All,
  refl,
  ap,
  sym,
  subst,
  ◌∙◌,
  append_assoc,
  append-nil,
}
use Rattle.std.specs.Prelude.{Vec, map}
use Rattle.std.specs.declared.alloc.Global.{Global}
use Rattle.std.proofs.lemmas.List.{drop_more, map-append}
use Rattle.values.specs.Datum.{Datum, text}
use Rattle.values.specs.Layouts.{Holds, IsLayout}
use Rattle.values.specs.Rose.{Rose, Roses, more, node, none}
use Rattle.values.specs.Weights.{weights}
use Rattle.values.specs.declared.layout.Layout.{Layout}
use Rattle.values.specs.declared.layout.Layout.TheVariants.{Struct}
use Rattle.array_layout.specs.declared.array.FieldNode.{FieldNode}
use Rattle.array_layout.specs.declared.array.BufferRange.{BufferRange}
use Rattle.body_writer.specs.Batch.{IsBatch, body_bytes, body_nodes, body_ranges, row_cells}
use Rattle.body_writer.specs.Columns.{buffers, nodes}
use Rattle.body_writer.specs.Grows.{Grows}
use Rattle.body_writer.specs.Slots.{part}
use Rattle.body_writer.specs.declared.body.Body.{Body}
use Rattle.body_writer.proofs.Ahead.{ahead-call, ahead-next}
use Rattle.body_writer.proofs.Rows.{Writing, cells_in, write-start}
use Rattle.stream_writer.specs.Coding.{
  cells_at,
  indices_at,
  single_rows,
  text_layout,
  texts_after,
  value_rows,
  values_at,
}
use Rattle.stream_writer.specs.DictionaryBatch.{dictionary_metadata, dictionary_whole, text_layouts, values_body}
use Rattle.stream_writer.specs.Stream.{dictionary_message, dictionary_messages, message}

-- the one column of a dictionary batch

single-cells : (cs : List Datum) → map (part 0) (row_cells (single_rows cs)) ≡ cs
single-cells [] = refl
single-cells (c ∷ cs) = ap (λ ds. c ∷ ds) (single-cells cs)

pub single-values : (vs : List (List ℕ)) → single_rows (map text vs) ≡ value_rows vs
single-values [] = refl
single-values (v ∷ vs) = ap (λ rows. (text v ∷ []) ∷ rows) (single-values vs)

-- the values of a column that was numbered, as rows of one column
pub numbered-rows : (j : ℕ) (rows : List (List Datum)) (cells vs : List Datum) → cells ≡ cells_at j rows
    → vs ≡ map text (texts_after [] cells) → single_rows vs ≡ value_rows (values_at j rows)
numbered-rows j rows cells vs same is =
    ap single_rows (is ∙ ap (λ cs. map text (texts_after [] cs)) same) ∙ single-values (values_at j rows)

-- an empty body
pub record IsNew (b : Body) : Type 0 where
  pub nodes : b.nodes.items ≡ []
  pub ranges : b.ranges.items ≡ []
  pub bytes : b.bytes.items ≡ []

values-start : (cs : List Datum) (b : Body) (t : Rose Layout) → t ≡ node text_layout none
    → IsBatch text_layouts (single_rows cs) → IsNew b → Writing 0 (more t none) (single_rows cs) b text_layouts
values-start cs b t is batch new =
    let P : Rose Layout → Type 0 = λ u. Writing 0 (more u none) (single_rows cs) b text_layouts in
    subst P (sym is) (write-start text_layouts (single_rows cs) b batch new.nodes new.ranges new.bytes)

pub values-call : (cs : List Datum) (b : Body) (t : Rose Layout) → t ≡ node text_layout none
    → IsBatch text_layouts (single_rows cs) → IsNew b → IsLayout t × All (Holds t) cs × (weights t cs < 2 ^ 31)
values-call cs b t is batch new =
    ahead-call Struct 0 t none (row_cells (single_rows cs)) cs b _ _ _ (sym (single-cells cs))
    (values-start cs b t is batch new)

pub record IsBody (b : Body) (ls : Roses Layout) (rows : List (List Datum)) : Type 0 where
  pub nodes : b.nodes.items ≡ body_nodes ls rows
  pub ranges : b.ranges.items ≡ body_ranges ls rows
  pub bytes : b.bytes.items ≡ body_bytes ls rows

pub all-written : (j : ℕ) (rows : List (List Datum)) (b : Body) (ls : Roses Layout) → Writing j none rows b ls
    → IsBody b ls rows
all-written j rows b ls e = record {
  nodes = sym (append-nil b.nodes.items) ∙ e.nodes;
  ranges = sym (append-nil b.ranges.items) ∙ e.ranges;
  bytes = sym (append-nil b.bytes.items) ∙ e.bytes;
}

pub values-written : (cs : List Datum) (old now : Body) (t : Rose Layout) → t ≡ node text_layout none
    → IsBatch text_layouts (single_rows cs) → IsNew old → Grows old now (nodes t cs) (buffers t cs)
    → IsBody now text_layouts (single_rows cs)
values-written cs old now t is batch new grows =
    all-written (0 + 1) (single_rows cs) now text_layouts
    (ahead-next Struct 0 t none (row_cells (single_rows cs)) cs old now _ _ _ (sym (single-cells cs))
    (values-start cs old t is batch new) grows)

pub dictionary-made :
    (j n : ℕ) (vs : List (List ℕ)) (ns : List FieldNode) (ss : List BufferRange) (bs : List ℕ)
    → n ≡ length (value_rows vs) → ns ≡ body_nodes text_layouts (value_rows vs)
    → ss ≡ body_ranges text_layouts (value_rows vs) → bs ≡ values_body vs
    → message (dictionary_whole j n ns ss (length bs)) bs ≡ dictionary_message j vs
unfolding dictionary_message dictionary_metadata
dictionary-made j n vs ns ss bs en ens ess ebs =
    ap (λ m. message (dictionary_whole j m ns ss (length bs)) bs) en
    ∙ ap (λ xs. message (dictionary_whole j (length (value_rows vs)) xs ss (length bs)) bs) ens
    ∙ ap (λ xs. message (dictionary_whole j (length (value_rows vs)) (body_nodes text_layouts (value_rows vs)) xs
    (length bs)) bs) ess
    ∙ ap (λ xs. message (dictionary_whole j (length (value_rows vs)) (body_nodes text_layouts (value_rows vs))
    (body_ranges text_layouts (value_rows vs)) (length xs)) xs) ebs

-- the dictionaries of a batch, one after another

pub dictionaries-more :
    (coded : List ℕ) (rows : List (List Datum)) (i j d : ℕ) (old made new whole : List ℕ) → i < length coded
    → j ≡ get_or coded i d → made ≡ dictionary_message j (values_at j rows) → new ≡ old ++ made
    → old ++ dictionary_messages (drop i coded) rows ≡ whole
    → new ++ dictionary_messages (drop (i + 1) coded) rows ≡ whole
dictionaries-more coded rows i j d old made new whole h is e pushed so =
    let rest = dictionary_messages (drop (i + 1) coded) rows in
    ap (λ xs. xs ++ rest) pushed ∙ append_assoc old made rest
    ∙ ap (λ xs. old ++ (xs ++ rest)) (e ∙ ap (λ k. dictionary_message k (values_at k rows)) is)
    ∙ ap (λ ks. old ++ dictionary_messages ks rows) (sym (drop_more coded i d h)) ∙ so

pub columns-more :
    (coded : List ℕ) (rows : List (List Datum)) (i d : ℕ) (old now : List (Vec Datum Global))
    (column : Vec Datum Global) (whole : List (List Datum)) → i < length coded → column.items ≡ indices_at (get_or coded i d) rows
    → now ≡ old ++ column ∷ [] → cells_in old ++ map (λ j. indices_at j rows) (drop i coded) ≡ whole
    → cells_in now ++ map (λ j. indices_at j rows) (drop (i + 1) coded) ≡ whole
columns-more coded rows i d old now column whole h is pushed so =
    let rest = map (λ j. indices_at j rows) (drop (i + 1) coded) in
    ap (λ xs. cells_in xs ++ rest) pushed
    ∙ ap (λ xs. xs ++ rest) (map-append (λ (c : Vec Datum Global). c.items) old (column ∷ []))
    ∙ append_assoc (cells_in old) (column.items ∷ []) rest
    ∙ ap (λ x. cells_in old ++ (x ∷ rest)) is
    ∙ ap (λ ks. cells_in old ++ map (λ j. indices_at j rows) ks) (sym (drop_more coded i d h)) ∙ so
