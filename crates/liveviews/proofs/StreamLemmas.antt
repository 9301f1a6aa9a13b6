-- Recasting in one pass: from a batch to what was put.
use Rattle.std.proofs.Common.{◌≡◌, inl, inr, ℕ, ◌+◌, ◌-◌, ◌≤◌, Option, None, Some, Result, Err, List, [], ◌++◌, All, length, take, drop, length-drop, map, refl, ap, sym, subst, ◌∙◌, arith, append-nil, append_assoc}
use Rattle.std.proofs.lemmas.List.{length-append, length-map, take_all}
use Rattle.std.proofs.lemmas.List.Elements.{All-append, All-nil}
use Rattle.values.specs.Limits.{max_main_rows}
use Rattle.values.specs.Datum.{Datum, items_of}
use Rattle.values.specs.Rose.{Rose, Roses}
use Rattle.values.specs.Logical.{NamedType}
use Rattle.values.specs.declared.causes.Cause.{Cause}
use Rattle.values.specs.declared.causes.Cause.TheVariants as cause
use Rattle.values.specs.declared.layout.Layout.{Layout}
use Rattle.schema_meta.specs.Entry.{Entry}
use Rattle.schema_meta.specs.FieldLayouts.{layouts_of}
use Rattle.schema_meta.specs.Logical.{logical_field}
use Rattle.schema_meta.specs.LogicalLaw.{LogicalTrees, NarrowFits, NarrowHoldsEach, NarrowRowWeighs, narrow_trees}
use Rattle.schema_meta.specs.Means.{Means}
use Rattle.schema_meta.specs.Rows.{row_at}
use Rattle.schema_meta.specs.Story.{Story, at_input_end, story_of}
use Rattle.std.specs.Option.{option_map}
use Rattle.values.specs.Reading.{FailsWith, Reading, one}
use Rattle.values.specs.declared.faults.StreamFault.TheVariants as fault
use Rattle.feed.specs.Columns.{cells_in, layouts_in}
use Rattle.feed.specs.Shown.{FeedParts, Shows}
use Rattle.feed.specs.States.{fresh, retained_in}
use Rattle.feed.specs.StoryLaw.{AllIsReported}
use Rattle.messages.specs.Laws.{NothingYet}
use Rattle.row_keys.specs.Batches.{HoldsCells}
use Rattle.body_writer.specs.declared.from_columns.batch.Batch.{Batch}
use Rattle.body_writer.specs.RowRanges.{batch_rows}
use Rattle.stream_writer.specs.Progress.{StopsIn}
use Rattle.stream_writer.specs.Sinks.{Sunk, Writes}
use Rattle.stream_writer.specs.Stream.{canon, trees}
use Rattle.stream_writer.specs.Table.{IsRow, IsTable}
use Rattle.stream_writer.specs.TableWriters.{IsWriting, MayCome}
use Rattle.body_writer.specs.Batch.{row_weight}
use Rattle.body_writer.specs.Heavy.{AreLightUpTo}
use Rattle.stream_writer.specs.Weights.{HasSizes, WeighsAs}
use Rattle.stream_writer.specs.declared.faults.WriteFault.{WriteFault}
use Rattle.stream_writer.specs.declared.faults.WriteFault.TheVariants as write
use Rattle.stream_writer.specs.declared.table_writer.TableWriter.{TableWriter}
use Rattle.stream_writer.proofs.BatchRowLemmas.{batch-long}
use Rattle.stream_writer.proofs.ProgressLemmas.{stops-memory}
use Rattle.liveviews.specs.Brought.{Brings}
use Rattle.liveviews.specs.Recast.{WritesTable, fault_of}
use Rattle.liveviews.specs.ReadBack.{ReadBack}
use Rattle.liveviews.specs.Steps.{AreConsumedSo, IsComplete, Refuses}
use Rattle.liveviews.specs.Source.{OfRead, OfSource}
use Rattle.liveviews.specs.declared.files.FileFault.{FileFault}
use Rattle.liveviews.specs.declared.files.FileFault.TheVariants as file
use Rattle.liveviews.specs.declared.recasting.whole.RecastFault.{RecastFault}
use Rattle.liveviews.specs.Streams.{
  BeginsTable,
  HasStreamed,
  HasWritten,
  KnowsSchema,
  PutsBeginning,
  PutsFirst,
  StopsWithin,
  Streams,
  StreamsSource,
  unread_after,
  written_by,
}
use Rattle.liveviews.specs.Taken.{AreAccepted, AreFit, IsAcceptedRow}
use Rattle.liveviews.specs.declared.recasting.one_pass.Streaming.{Streaming}
use Rattle.liveviews.proofs.BatchLemmas.{taken-rows}
use Rattle.liveviews.proofs.BufferedLemmas.{all-rows, fit-rows}
use Rattle.liveviews.proofs.Recasts.{no-device, some-content}
use Rattle.liveviews.proofs.Inputs.{no-bytes}
use Rattle.liveviews.proofs.SourceLemmas.{read-enough}
use Rattle.liveviews.proofs.Stories.{between-goes}
use Rattle.liveviews.proofs.Tables.{fresh-between, row-fits, taken-none}

-- what a fault says of a table that is not whole, for the rows so far
pub stops-here : (start now : Sunk) (fault : WriteFault) (fs : List (Rose NamedType)) (rows : List (List Datum))
    → StopsIn start now fault fs [] rows → Writes start now (Err fault) (canon fs rows)
stops-here start now fault fs rows stops =
    subst (λ (rs : List (List Datum)). Writes start now (Err fault) (canon fs rs)) (append-nil rows)
    (stops [] (All-nil (IsRow fs)))

-- what was put between two batches
pub beginning-of : (start now : Sunk) (s : Story) (o : Option TableWriter) (rows : List (List Datum))
    → HasWritten start now s o rows → PutsBeginning start now (written_by o) s
beginning-of start now s None rows h = inl (record { same = h.1; none = refl })
beginning-of start now s (Some w) rows (entries, begins, writing) =
    let fs : List (Rose NamedType) = map logical_field entries in
    inr (record {
      entries = entries;
      rows = rows;
      begins = begins;
      writes = stops-here start now (write.Memory w.written) fs rows
          (stops-memory start now w.written fs [] rows _ writing.holds.put);
    })

-- a put that stopped
pub write-stops : (old new : Sunk) (fault : WriteFault) (s : Story) → PutsFirst old new fault s
    → StopsWithin old new (fault_of fault).cause (fault_of fault).written s
write-stops old new (write.Memory n) s h = inr h
write-stops old new (write.Device n) s h = h

-- a stream that is refused
pub refused-within : (old new : Sunk) (written : ℕ) (c : Cause) (s : Story) → PutsBeginning old new written s
    → Refuses s c → StopsWithin old new c written s
refused-within old new n cause.Memory s b h = b
refused-within old new n cause.Device s b (f, named, stands) = absurd (no-device f named)
refused-within old new n c s b h = (b, h)

-- the columns of the stream, by its batch

some-is : (a b : List (Rose Entry)) → Some a ≡ Some b → a ≡ b
some-is a b e = ap (λ (o : Option (List (Rose Entry))). get-or-none o) e
  where
    get-or-none : Option (List (Rose Entry)) → List (Rose Entry)
    get-or-none None = []
    get-or-none (Some x) = x

pub brings-knows : (s : Story) (f : FeedParts) (rows : List (List Datum)) (b : Batch) (rest : List ℕ)
    → Brings s f rows b rest → KnowsSchema s f
brings-knows s f rows b rest br = record {
  state = br.state;
  shows = br.shows;
  same = br.schema ∙ sym br.known;
  lacks = λ none_there. let both : Some br.fields ≡ None = sym br.schema ∙ none_there in absurd (cc);
}

-- a batch that was read and weighed may be given to the writer

module _ (law : LogicalTrees) (fits : NarrowFits) (holds : NarrowHoldsEach) (weighs : NarrowRowWeighs) where
  narrow-weight : (entries : List (Rose Entry)) (row : List Datum)
      → row_weight (trees (map logical_field entries)) row ≡ row_weight (layouts_of entries) row
  narrow-weight entries row =
      let same : trees (map logical_field entries) ≡ narrow_trees (layouts_of entries) = law entries in
      ap (λ us. row_weight us row) same ∙ weighs (layouts_of entries) (items_of row)

  pub may-come :
      (entries : List (Rose Entry)) (rows : List (List Datum)) (b : Batch) (heaviest : ℕ)
      → layouts_in b.columns.items ≡ layouts_of entries → length b.columns.items ≡ length entries → HasSizes b
      → All HoldsCells b.columns.items
      → AreLightUpTo (layouts_in b.columns.items) (cells_in b.columns.items) b.rows heaviest
      → length rows + b.rows ≤ max_main_rows → MayCome (map logical_field entries) rows b heaviest
  may-come entries rows b heaviest same many sized cells light few =
      let fs : List (Rose NamedType) = map logical_field entries in
      let ls : Roses Layout = layouts_in b.columns.items in
      let long = length-map entries logical_field in
      let fit : AreFit ls (cells_in b.columns.items) b.rows = fit-rows b.columns.items b.rows heaviest cells sized light in
      let each : All (IsRow fs) (batch_rows b) =
      all-rows (IsRow fs) (cells_in b.columns.items) 0 b.rows
      (λ k lo hi.
      let row : List Datum = row_at (cells_in b.columns.items) k in
      row-fits law fits holds weighs entries row
      (subst (λ (us : Roses Layout). IsAcceptedRow us row) same (fit k (omega (arith, hi))))) in
      let alike : WeighsAs (trees fs) b =
      (λ row. ap (λ us. row_weight us row) same ∙ sym (narrow-weight entries row)) in
      record {
        sized = record { columns = many ∙ sym long; cells = sized };
        sound = each;
        light = λ k below. (light k below).0;
        alike = alike;
        bound = all-rows (λ (row : List Datum). row_weight (trees fs) row ≤ heaviest) (cells_in b.columns.items) 0
            b.rows
            (λ k lo hi.
            let here = (light k (omega (arith, hi))).1 in
            let e = alike (row_at (cells_in b.columns.items) k) in omega (arith, here, e));
        few = few;
      }

-- the batch was written

begins-fields : (s : Story) (f : FeedParts) (entries : List (Rose Entry)) (rows : List (List Datum)) (b : Batch)
    (rest : List ℕ) → BeginsTable s entries rows → (br : Brings s f rows b rest) → br.fields ≡ entries
begins-fields s f entries rows b rest begins br = some-is br.fields entries (sym br.schema ∙ begins.schema)

pub begins-more :
    (s : Story) (f : FeedParts) (entries : List (Rose Entry)) (rows : List (List Datum)) (b : Batch) (rest : List ℕ)
    (heaviest : ℕ) → BeginsTable s entries rows → Brings s f rows b rest
    → MayCome (map logical_field entries) rows b heaviest → BeginsTable s entries (rows ++ batch_rows b)
begins-more s f entries rows b rest heaviest begins br comes =
    let both = length-append rows (batch_rows b) in
    let long = batch-long b in
    let few = comes.few in
    record {
      schema = begins.schema;
      table = record {
        columns = begins.table.columns;
        layouts = begins.table.layouts;
        few = omega (arith, both, long, few);
        sound = All-append (IsRow (map logical_field entries)) rows (batch_rows b) begins.table.sound comes.sound;
      };
      later = br.later;
      cells = br.cells;
    }

pub batch-streamed :
    (start now : Sunk) (s : Story) (f : FeedParts) (entries : List (Rose Entry)) (rows : List (List Datum)) (b : Batch)
    (rest : List ℕ) (heaviest : ℕ) (r : Streaming) (w : TableWriter) → BeginsTable s entries rows
    → (br : Brings s f rows b rest) → MayCome (map logical_field entries) rows b heaviest
    → AreFit (layouts_of br.fields) (cells_in b.columns.items) b.rows
    → IsWriting start now (map logical_field entries) (rows ++ batch_rows b) w → r.writer ≡ Some w
    → r.rows ≡ length rows + b.rows → HasStreamed start now s f r rest
batch-streamed start now s f entries rows b rest heaviest r w begins br comes fit writing is counted =
    let both = length-append rows (batch_rows b) in
    let long = batch-long b in
    record {
      rows = rows ++ batch_rows b;
      reached = br.reached
          (taken-rows (layouts_of br.fields) (cells_in b.columns.items) rows (rows ++ batch_rows b) b.rows refl fit
          comes.few br.taken);
      counted = omega (arith, both, long, counted);
      written = subst (λ (o : Option TableWriter). HasWritten start now s o (rows ++ batch_rows b)) (sym is)
          (entries, begins-more s f entries rows b rest heaviest begins br comes, writing);
    }

-- the end of the stream

pub complete-knows : (s : Story) (f : FeedParts) (rows : List (List Datum)) → IsComplete s f rows → KnowsSchema s f
complete-knows s f rows complete =
    let same : s.schema ≡ (retained_in complete.state).known.schema = ap (λ x. x.schema) complete.tells in
    record {
      state = complete.state;
      shows = complete.shows;
      same = same;
      lacks = λ none_there.
          let end : s.end ≡ Err (one fault.NoSchema) =
          ap (λ x. x.end) complete.tells ∙ ap at_input_end (sym same ∙ none_there) in
          (fault.NoSchema, refl, subst (λ (m : Reading (Unit {0})). FailsWith m fault.NoSchema) (sym end) refl);
    }

pub complete-writes :
    (law : ReadBack) (start new : Sunk) (answer : Result ℕ WriteFault) (input : List ℕ) (f : FeedParts)
    (entries : List (Rose Entry)) (rows : List (List Datum)) → IsComplete (story_of input) f rows
    → BeginsTable (story_of input) entries rows → Writes start new answer (canon (map logical_field entries) rows)
    → WritesTable start new answer (story_of input)
complete-writes law start new answer input f entries rows complete begins writes =
    let s : Story = story_of input in
    let fs : List (Rose NamedType) = map logical_field entries in
    let same : s.schema ≡ (retained_in complete.state).known.schema = ap (λ x. x.schema) complete.tells in
    let cells : s.rows ≡ rows = ap (λ x. x.rows) complete.tells ∙ append-nil rows in
    let means : Means s fs rows = record {
      whole = ap (λ x. x.end) complete.tells ∙ ap at_input_end (sym same ∙ begins.schema);
      columns = ap (option_map (λ gs. map logical_field gs)) begins.schema;
      cells = cells;
    } in
    let taken : AreConsumedSo s.schema s.rows =
    subst (λ (rs : List (List Datum)). AreConsumedSo s.schema rs) (sym cells) complete.taken in
    record { fields = fs; rows = rows; means = means; writes = writes; back = law input fs rows means taken }

pub complete-accepted : (s : Story) (f : FeedParts) (rows : List (List Datum)) → IsComplete s f rows
    → AreConsumedSo s.schema s.rows
complete-accepted s f rows complete =
    let cells : s.rows ≡ rows = ap (λ x. x.rows) complete.tells ∙ append-nil rows in
    subst (λ (rs : List (List Datum)). AreConsumedSo s.schema rs) (sym cells) complete.taken

-- the rest of a piece, as the code has it
pub streamed-rest :
    (start now : Sunk) (s : Story) (f : FeedParts) (r : Streaming) (bytes later : List ℕ) (n : ℕ)
    → HasStreamed start now s f r (drop n bytes ++ later)
    → HasStreamed start now s f r (take (length bytes - n) (drop n bytes) ++ later)
streamed-rest start now s f r bytes later n h =
    let size : length (drop n bytes) ≡ length bytes - n = length-drop n bytes in
    let whole : take (length bytes - n) (drop n bytes) ≡ drop n bytes =
    take_all (length bytes - n) (drop n bytes) (omega (arith, size)) in
    subst (λ (xs : List ℕ). HasStreamed start now s f r (xs ++ later)) (sym whole) h

-- Nothing remains of a piece.
pub streamed-all :
    (start now : Sunk) (s : Story) (f : FeedParts) (r : Streaming) (bytes later : List ℕ) → length bytes ≤ 0
    → HasStreamed start now s f r (bytes ++ later) → HasStreamed start now s f r later
streamed-all start now s f r bytes later none_there h =
    subst (λ (xs : List ℕ). HasStreamed start now s f r (xs ++ later)) (no-bytes bytes none_there) h

-- the same of bytes that are read from a source

pub streamed-more :
    (start old new : Sunk) (f after : FeedParts) (r next : Streaming) (piece : List ℕ)
    → ((begun : Sunk) (s : Story) (later : List ℕ) → HasStreamed begun old s f r (piece ++ later)
    → HasStreamed begun new s after next later) → (bytes : List ℕ)
    → ((later : List ℕ) → HasStreamed start old (story_of (bytes ++ later)) f r later) → (later : List ℕ)
    → HasStreamed start new (story_of ((bytes ++ piece) ++ later)) after next later
streamed-more start old new f after r next piece goes bytes streamed later =
    goes start (story_of ((bytes ++ piece) ++ later)) later
    (subst (λ (xs : List ℕ). HasStreamed start old (story_of xs) f r (piece ++ later))
    (sym (append_assoc bytes piece later)) (streamed (piece ++ later)))

pub streamed-stops :
    (start old new : Sunk) (f : FeedParts) (r : Streaming) (piece : List ℕ) (fault : RecastFault)
    → ((begun : Sunk) (s : Story) (later : List ℕ) → HasStreamed begun old s f r (piece ++ later)
    → StopsWithin begun new fault.cause fault.written s) → (bytes later : List ℕ)
    → ((later : List ℕ) → HasStreamed start old (story_of (bytes ++ later)) f r later)
    → Streams start new (Err fault) (story_of ((bytes ++ piece) ++ later))
streamed-stops start old new f r piece fault stops bytes later streamed =
    stops start (story_of ((bytes ++ piece) ++ later)) later
    (subst (λ (xs : List ℕ). HasStreamed start old (story_of xs) f r (piece ++ later))
    (sym (append_assoc bytes piece later)) (streamed (piece ++ later)))

pub streamed-whole :
    (start now : Sunk) (f : FeedParts) (r : Streaming) (bytes : List ℕ)
    → ((later : List ℕ) → HasStreamed start now (story_of (bytes ++ later)) f r later)
    → HasStreamed start now (story_of bytes) f r []
streamed-whole start now f r bytes streamed =
    subst (λ (xs : List ℕ). HasStreamed start now (story_of xs) f r []) (append-nil bytes) (streamed [])

pub streamed-beginning : (start now : Sunk) (s : Story) (f : FeedParts) (r : Streaming) (rest : List ℕ)
    → HasStreamed start now s f r rest → PutsBeginning start now (written_by r.writer) s
streamed-beginning start now s f r rest h = beginning-of start now s r.writer h.rows h.written

-- a source that can't be read to its end
pub unread-stops :
    (held left : Option (List ℕ)) (start now : Sunk) (f : FeedParts) (r : Streaming) (fault : FileFault)
    → OfRead held left (λ bytes. (later : List ℕ) → HasStreamed start now (story_of (bytes ++ later)) f r later)
    → StreamsSource held start now (Err (unread_after (written_by r.writer) fault))
unread-stops held left start now f r file.Unusable read = (
  written_by r.writer,
  read-enough held left _ _ read (λ bytes later streamed. streamed-beginning start now _ f r later (streamed later)),
)
unread-stops held left start now f r file.Memory read =
    read-enough held left _ _ read (λ bytes later streamed. streamed-beginning start now _ f r later (streamed later))

-- where reading begins
pub streaming-begins :
    (none : NothingYet) (law : AllIsReported) (start : Sunk) (f : FeedParts) (r : Streaming) → Shows f (fresh None)
    → r.writer ≡ None → r.rows ≡ 0 → (input : List ℕ) → HasStreamed start start (story_of input) f r input
streaming-begins none law start f r shows empty zero input =
    let s : Story = story_of input in
    record {
      rows = [];
      reached = inl (between-goes none s [] f input (fresh None) fresh-between shows (taken-none s.schema) (law input));
      counted = zero;
      written = subst (λ (o : Option TableWriter). HasWritten start start s o []) (sym empty) (refl, refl);
    }

-- the writer begins

begins-none : (s : Story) (entries : List (Rose Entry)) → s.schema ≡ Some entries → IsTable (map logical_field entries) []
    → BeginsTable s entries []
begins-none s entries schema table = record { schema = schema; table = table; later = s.rows; cells = refl }

pub no-rows : (o : List (Rose Entry)) → AreAccepted (layouts_of o) []
no-rows o = record { few = omega arith; each = λ k d below. absurd (omega (arith, below)) }

pub begin-stops :
    (start now : Sunk) (fault : WriteFault) (s : Story) (entries : List (Rose Entry)) (fields : List (Rose NamedType))
    → IsTable (map logical_field entries) [] → fields ≡ map logical_field entries → s.schema ≡ Some entries
    → StopsIn start now fault fields [] [] → StopsWithin start now (fault_of fault).cause (fault_of fault).written s
begin-stops start now fault s entries fields table named schema stops =
    write-stops start now fault s (record {
      entries = entries;
      rows = [];
      begins = begins-none s entries schema table;
      writes = stops-here start now fault (map logical_field entries) []
          (subst (λ (fs : List (Rose NamedType)). StopsIn start now fault fs [] []) named stops);
    })

pub begin-written :
    (start now : Sunk) (w : TableWriter) (s : Story) (entries : List (Rose Entry)) (fields : List (Rose NamedType))
    → IsTable (map logical_field entries) [] → fields ≡ map logical_field entries → s.schema ≡ Some entries
    → IsWriting start now fields [] w → HasWritten start now s (Some w) []
begin-written start now w s entries fields table named schema writing = (
  entries,
  begins-none s entries schema table,
  subst (λ (fs : List (Rose NamedType)). IsWriting start now fs [] w) named writing,
)

pub none-written :
    (start old new : Sunk) (s : Story) (o : Option TableWriter) (rows : List (List Datum)) (w : TableWriter) → o ≡ None
    → HasWritten start old s o rows → HasWritten old new s (Some w) [] → HasWritten start new s (Some w) rows
none-written start old new s o rows w is before begun =
    let none_there : (rows ≡ []) × (old ≡ start) =
    subst (λ (x : Option TableWriter). HasWritten start old s x rows) is before in
    let P : Sunk → Type 0 = λ first. HasWritten first new s (Some w) rows in
    subst P none_there.1
    (subst (λ (rs : List (List Datum)). HasWritten old new s (Some w) rs) (sym none_there.0) begun)

pub none-stops :
    (start old new : Sunk) (s : Story) (o : Option TableWriter) (rows : List (List Datum)) (c : Cause) (n : ℕ)
    → o ≡ None → HasWritten start old s o rows → StopsWithin old new c n s → StopsWithin start new c n s
none-stops start old new s o rows c n is before stops =
    let none_there : (rows ≡ []) × (old ≡ start) =
    subst (λ (x : Option TableWriter). HasWritten start old s x rows) is before in
    subst (λ (first : Sunk). StopsWithin first new c n s) none_there.1 stops

-- no buffer to read into
pub unread-first :
    (held : Option (List ℕ)) (start : Sunk) (f : FeedParts) (r : Streaming)
    → ((input : List ℕ) → HasStreamed start start (story_of input) f r input)
    → OfSource held (λ input. PutsBeginning start start (written_by r.writer) (story_of input))
unread-first held start f r begins =
    let some = some-content held in
    record { input = some.0; read = some.1; so = streamed-beginning start start _ f r some.0 (begins some.0) }

-- what a batch that was read is for the writer
module _ (law : LogicalTrees) (fits : NarrowFits) (holds : NarrowHoldsEach) (weighs : NarrowRowWeighs) where
  pub brought-comes :
      (s : Story) (f : FeedParts) (entries : List (Rose Entry)) (rows : List (List Datum)) (b : Batch) (rest : List ℕ)
      (heaviest : ℕ) → BeginsTable s entries rows → Brings s f rows b rest → HasSizes b
      → All HoldsCells b.columns.items
      → AreLightUpTo (layouts_in b.columns.items) (cells_in b.columns.items) b.rows heaviest
      → length rows + b.rows ≤ max_main_rows → MayCome (map logical_field entries) rows b heaviest
  brought-comes s f entries rows b rest heaviest begins br sized cells light few =
      subst (λ (es : List (Rose Entry)). MayCome (map logical_field es) rows b heaviest)
      (begins-fields s f entries rows b rest begins br)
      (may-come law fits holds weighs br.fields rows b heaviest br.layouts br.many sized cells light few)

pub brought-fit : (s : Story) (f : FeedParts) (rows : List (List Datum)) (b : Batch) (rest : List ℕ) (heaviest : ℕ)
    → (br : Brings s f rows b rest) → HasSizes b → All HoldsCells b.columns.items
    → AreLightUpTo (layouts_in b.columns.items) (cells_in b.columns.items) b.rows heaviest
    → AreFit (layouts_of br.fields) (cells_in b.columns.items) b.rows
brought-fit s f rows b rest heaviest br sized cells light =
    subst (λ (us : Roses Layout). AreFit us (cells_in b.columns.items) b.rows) br.layouts
    (fit-rows b.columns.items b.rows heaviest cells sized light)
