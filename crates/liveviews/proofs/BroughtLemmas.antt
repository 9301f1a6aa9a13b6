-- What the batch of an event adds.
use Rattle.std.proofs.Common.{◌≡◌, ℕ, List, ◌++◌, Some, length, refl, ap, sym, subst, ◌∙◌, append_assoc}
use Rattle.std.specs.Option.{IsSomeAnd}
use Rattle.std.specs.Prelude.{Option, Vec}
use Rattle.std.specs.declared.alloc.Global.{Global}
use Rattle.values.specs.Datum.{Datum}
use Rattle.values.specs.Rose.{Rose, Roses}
use Rattle.values.specs.declared.layout.Layout.{Layout}
use Rattle.arrays.specs.Checked.{CheckedColumn}
use Rattle.schema_meta.specs.Entry.{Entry}
use Rattle.schema_meta.specs.FieldLayouts.{layouts_of}
use Rattle.schema_meta.specs.Rows.{rows_in}
use Rattle.schema_meta.specs.Story.{Story}
use Rattle.messages.specs.Laws.{NothingYet}
use Rattle.feed.specs.Columns.{cells_in, layouts_in}
use Rattle.feed.specs.Events.{batch}
use Rattle.feed.specs.Shown.{FeedParts, HasColumns}
use Rattle.feed.specs.StoryLaw.{StoryKnowsSchema, rest_story}
use Rattle.feed.specs.States.{retained_in}
use Rattle.body_writer.specs.declared.from_columns.batch.Batch.{Batch}
use Rattle.liveviews.specs.Brought.{Brings}
use Rattle.values.specs.declared.causes.Cause.{Cause}
use Rattle.body_writer.specs.RowRanges.{batch_rows}
use Rattle.liveviews.specs.Buffered.{IsBuffered, IsBufferedSo}
use Rattle.liveviews.specs.Refused.{RefusesBatch}
use Rattle.liveviews.specs.Steps.{AreConsumedSo, Reached, Refuses}
use Rattle.liveviews.specs.Taken.{AreAccepted}
use Rattle.liveviews.specs.declared.recasting.buffered_batches.BufferedBatches.{BufferedBatches}
use Rattle.liveviews.proofs.Counted.{as-many}
use Rattle.liveviews.proofs.Stories.{Comes, batch-reached, batch-refused, batch-tells, typed-fields}

pub brings :
    (none : NothingYet) (knows : StoryKnowsSchema) (st : Story) (rows : List (List Datum)) (new : FeedParts)
    (rest : List ℕ) (columns : Vec CheckedColumn Global) (n body : ℕ)
    → IsSomeAnd new.framing.current.known.schema (λ fs. HasColumns fs columns.items n)
    → Comes st rows new (batch (cells_in columns.items) n body) rest
    → Brings st new rows (record { columns = columns; rows = n }) rest
brings none knows st rows new rest columns n body typed c =
    let t = typed-fields new.framing.current.known.schema columns.items n typed in
    let b = batch-tells knows st rows new rest (cells_in columns.items) n body t.0 t.1 c in
    let got : List (List Datum) = rows_in n (cells_in columns.items) in
    let left : List (List Datum) = (rest_story (retained_in b.state) rest).rows in
    let schema : st.schema ≡ Some t.0 = ap (λ x. x.schema) b.tells ∙ b.schema in
    record {
      fields = t.0;
      schema = schema;
      state = b.state;
      shows = b.shows;
      known = sym (ap (λ x. x.known.schema) b.shows.stream) ∙ t.1;
      layouts = t.2;
      many = as-many columns.items t.0 t.2;
      taken = subst (λ (o : Option (List (Rose Entry))). AreConsumedSo o rows) schema c.taken;
      later = left;
      cells = ap (λ x. x.rows) b.tells ∙ sym (append_assoc rows got left);
      reached = λ taken.
          batch-reached none knows st rows (rows ++ got) new rest (cells_in columns.items) n body t.0 t.1 refl
          (λ before. taken) c;
      refused = λ k h.
          batch-refused knows st rows new rest (cells_in columns.items) n body t.0 k t.1 h c;
    }

-- the rows of the batch are accepted with the others

pub brought-reached :
    (s : Story) (f : FeedParts) (rows all : List (List Datum)) (b : Batch) (rest : List ℕ) → Brings s f rows b rest
    → all ≡ rows ++ batch_rows b
    → (AreAccepted (layouts_in b.columns.items) rows → AreAccepted (layouts_in b.columns.items) all) → Reached s f all rest
brought-reached s f rows all b rest br is retained =
    let here : AreAccepted (layouts_of br.fields) rows → AreAccepted (layouts_of br.fields) all =
    subst (λ (ls : Roses Layout). AreAccepted ls rows → AreAccepted ls all) br.layouts retained in
    subst (λ (rs : List (List Datum)). Reached s f rs rest) (sym is)
    (br.reached (subst (AreAccepted (layouts_of br.fields)) is (here br.taken)))

-- or the stream is refused
pub brought-refused :
    (s : Story) (f : FeedParts) (rows : List (List Datum)) (b : Batch) (rest : List ℕ) (before : ℕ) (c : Cause)
    → Brings s f rows b rest → before ≡ length rows
    → RefusesBatch (layouts_in b.columns.items) (batch_rows b) before c → Refuses s c
brought-refused s f rows b rest before c br size refused =
    br.refused c
    (subst (λ (ls : Roses Layout). RefusesBatch ls (batch_rows b) (length rows) c) br.layouts
    (subst (λ (n : ℕ). RefusesBatch (layouts_in b.columns.items) (batch_rows b) n c) size refused))

-- what is stored with the rows
pub brought-kept :
    (s : Story) (f : FeedParts) (rows : List (List Datum)) (b : Batch) (rest : List ℕ) (before after : BufferedBatches)
    → Brings s f rows b rest
    → (IsBuffered (length b.columns.items) (layouts_in b.columns.items) before
    → IsBuffered (length b.columns.items) (layouts_in b.columns.items) after)
    → IsBufferedSo s.schema before → IsBufferedSo s.schema after
brought-kept s f rows b rest before after br keeps kept =
    let P : Option (List (Rose Entry)) → BufferedBatches → Type 0 = IsBufferedSo in
    let goes : IsBuffered (length br.fields) (layouts_of br.fields) before → IsBuffered (length br.fields) (layouts_of
    br.fields) after =
    subst (λ (ls : Roses Layout). IsBuffered (length br.fields) ls before → IsBuffered (length br.fields) ls after) br.layouts
    (subst (λ (m : ℕ). IsBuffered m (layouts_in b.columns.items) before → IsBuffered m (layouts_in b.columns.items) after)
    br.many keeps) in
    subst (λ (o : Option (List (Rose Entry))). P o after) (sym br.schema)
    (goes (subst (λ (o : Option (List (Rose Entry))). P o before) br.schema kept))
