-- The canonical stream of a table is read as the table.
use Rattle.std.proofs.Common.{
  Option,
  ◌≡◌,
  ℕ,
  zero,
  suc,
  ◌+◌,
  ◌*◌,
  ◌/◌,
  ◌-◌,
  ◌^◌,
  ◌<◌,
  ◌≤◌,
  List,
  [],
  ◌∷◌,
  ◌++◌,
  length,
  take,
  drop,
  Some,
  None,
  Ok,
  refl,
  ap,
  sym,
  subst,
  ◌∙◌,
  arith,
  append_assoc,
  append-nil,
  length-append,
  length-drop,
  true,
  ℤ,
}
use Rattle.std.specs.Prelude.{All, map, pos, slice_range}
use Rattle.std.proofs.lemmas.List.{take-append-drop}
use Rattle.std.proofs.lemmas.List.Elements.{All-drop, All-head, All-nil, All-tail}
use Rattle.flatbuf.specs.Tree.{Nodes, table}
use Rattle.flatbuf.specs.Written.{whole, object_end, IsWritable}
use Rattle.flatbuf.proofs.Ends.{object_end-le}
use Rattle.flatbuf.proofs.Lengths.{whole-length}
use Rattle.values.specs.Limits.{max_metadata_size}
use Rattle.values.specs.Datum.{Datum}
use Rattle.dictionaries.specs.Batches.{DictionaryBatch, dictionary_after}
use Rattle.values.specs.Rose.{Rose, Roses}
use Rattle.values.specs.declared.layout.Layout.{Layout}
use Rattle.values.specs.Layouts.{AreLayouts}
use Rattle.values.specs.Logical.{NamedType}
use Rattle.schema_meta.specs.declared.header.MessageKind.TheVariants as kind
use Rattle.schema_meta.specs.Stage.{Known, Meta, Whole, end_of}
use Rattle.schema_meta.specs.Sound.{after}
use Rattle.values.specs.Coded.{AreCoded, IsTextColumn, is_coded, utf8}
use Rattle.schema_meta.specs.Dictionaries.{value_type}
use Rattle.schema_meta.specs.DictionaryBatch.{counts_after}
use Rattle.schema_meta.specs.declared.header.Header.TheVariants as header
use Rattle.schema_meta.specs.Message.{meta_of, brings_schema, brings_batch, brings_dictionary}
use Rattle.schema_meta.specs.MessageTree.{message_slots}
use Rattle.schema_meta.specs.SchemaTree.{schema_slots, schema_metadata, AreColumns}
use Rattle.schema_meta.specs.SchemaLaw.{coded_fields, AreNamed, before, AreExpected}
use Rattle.schema_meta.specs.Framing.{first}
use Rattle.schema_meta.specs.Story.{Story, with_schema, story_by, story_step, story, story_of}
use Rattle.schema_meta.specs.Means.{Means}
use Rattle.schema_meta.proofs.SchemaFits.{schema-end, schema-writable}
use Rattle.schema_meta.proofs.SchemaRead.{columns-law, schema-law}
use Rattle.schema_meta.proofs.CodedFields.{coded-type, none-coded}
use Rattle.body_writer.specs.Batch.{IsBatch, body_bytes, body_nodes, body_ranges}
use Rattle.body_writer.proofs.Rows.{body-short}
use Rattle.stream_writer.proofs.Counts.{body_nodes-few, body_ranges-few}
use Rattle.stream_writer.specs.Batch.{batch_metadata, batch_slots}
use Rattle.stream_writer.specs.Coding.{indexed_layouts, indexed_rows, value_rows, values_at}
use Rattle.stream_writer.specs.DictionaryBatch.{dictionary_metadata, dictionary_slots, text_layouts, values_body}
use Rattle.stream_writer.specs.Stream.{
  message,
  end_mark,
  schema_message,
  batch_message,
  batch_messages,
  dictionary_message,
  dictionary_messages,
  batch_len,
  batches,
  coded_canon,
  trees,
}
use Rattle.stream_writer.specs.Table.{IsRow, IsTable}
use Rattle.stream_writer.specs.RoundTrip.{
  CodedMeansItsTable,
  CodedTrip,
  DeclaredCodedMeansItsTable,
  DeclaredCodedTrip,
  DeclaredMeansItsTable,
  DeclaredTrip,
  MeansItsTable,
  RoundTrip,
  coded_story,
  whole_story,
}
use Rattle.stream_writer.proofs.BatchFits.{batch-end, batch-writable, dictionary-end, dictionary-writable}
use Rattle.stream_writer.proofs.Cut.{batch-some, batch-sound}
use Rattle.stream_writer.specs.BatchLaw.{head_by}
use Rattle.stream_writer.specs.DictionaryLaw.{dictionary_head}
use Rattle.stream_writer.proofs.BatchRead.{batch-law-by, dictionary-read}
use Rattle.stream_writer.proofs.CodedRead.{
  are-of,
  batch_at,
  coded-slots,
  coded-text-at,
  coded-trees,
  each-coded,
  rows-coded,
  text-small,
  values-read,
}
use Rattle.stream_writer.proofs.IndexedRows.{indexed-batch, values-batch}
use Rattle.stream_writer.proofs.FramingRead.{first-law, message-left, message-body, last-law}
use Rattle.stream_writer.proofs.AboveZero.{not-zero}

-- how long metadata is

record IsShort (metadata : List ℕ) : Type 0 where
  some : 0 < length metadata
  small : length metadata ≤ max_metadata_size

whole-short : (s : Nodes) → IsWritable s → object_end 4 (table s) < max_metadata_size - 8 → IsShort (whole s)
whole-short s h end =
    let n : ℕ = object_end 4 (table s) in
    let low : 4 ≤ n = object_end-le 4 (table s) h.fits in
    let high : n < max_metadata_size - 8 = end in
    let long : length (whole s) ≡ (n + (8 - 1)) / 8 * 8 = whole-length s h.fits in
    record { some = omega (arith, low, long); small = omega (arith, high, long) }

schema-short : (coded : List ℕ) (fs : List (Rose NamedType)) → AreColumns fs → IsShort (schema_metadata coded fs)
unfolding schema_metadata
schema-short coded fs h =
    whole-short (message_slots kind.Schema (schema_slots coded fs) 0) (schema-writable coded fs h)
    (schema-end coded fs h)

batch-short : (ls : Roses Layout) (rows : List (List Datum)) → IsBatch ls rows → IsShort (batch_metadata ls rows)
unfolding batch_metadata
batch-short ls rows b =
    let few = b.few in
    let short = body-short ls rows b in
    let ns = body_nodes ls rows in
    let ss = body_ranges ls rows in
    let body : ℕ = length (body_bytes ls rows) in
    let end = batch-end (length rows) body ns ss (body_nodes-few ls rows b) (body_ranges-few ls rows b) in
    whole-short (message_slots kind.Batch (batch_slots (length rows) ns ss) body)
    (batch-writable (length rows) body ns ss (body_nodes-few ls rows b) (body_ranges-few ls rows b)
    (omega (arith, few)) (omega (arith, short)))
    (omega (arith, end))

dictionary-short : (j : ℕ) (values : List (List ℕ)) → j < 2 ^ 63 → IsBatch text_layouts (value_rows values)
    → IsShort (dictionary_metadata j values)
unfolding dictionary_metadata
dictionary-short j values small b =
    let rows = value_rows values in
    let few = b.few in
    let short = body-short text_layouts rows b in
    let ns = body_nodes text_layouts rows in
    let ss = body_ranges text_layouts rows in
    let body : ℕ = length (values_body values) in
    let end =
    dictionary-end j (length rows) body ns ss (body_nodes-few text_layouts rows b)
    (body_ranges-few text_layouts rows b) in
    whole-short (message_slots kind.Dictionary (dictionary_slots j (batch_slots (length rows) ns ss)) body)
    (dictionary-writable j (length rows) body ns ss (body_nodes-few text_layouts rows b)
    (body_ranges-few text_layouts rows b) (omega (arith, small)) (omega (arith, few)) (omega (arith, short)))
    (omega (arith, end))

-- one message

story_step-whole : (n : ℕ) (known : Known) (ds : List DictionaryBatch) (bytes body rest : List ℕ) (w : Whole)
    → slice_range bytes w.front (end_of w) ≡ body → drop (end_of w) bytes ≡ rest
    → story_step (story n) known ds bytes (Ok (Some w)) ≡ story_by (after known w.meta)
    (λ es. story n (after known w.meta) es rest) ds body rest w.meta.header
unfolding story_step
story_step-whole n known ds bytes body rest w cut left = rw (cut, left) refl

story-next : (n : ℕ) (known : Known) (ds : List DictionaryBatch) (bytes : List ℕ) (w : Whole) (s : Story)
    → 0 < length bytes → first known bytes ≡ Ok (Some w) → story_step (story n) known ds bytes (Ok (Some w)) ≡ s
    → story (suc n) known ds bytes ≡ with_schema known.schema s
unfolding story
story-next n known ds bytes w s some e story_step-is = rw (not-zero (length bytes) some, e, story_step-is) refl

message-story_step : (n : ℕ) (known : Known) (ds : List DictionaryBatch) (metadata body rest : List ℕ) (m : Meta)
    → IsShort metadata → m.body ≡ length body → meta_of known metadata ≡ Ok m
    → story (suc n) known ds (message metadata body ++ rest) ≡ with_schema known.schema
    (story_by (after known m) (λ es. story n (after known m) es rest) ds body rest m.header)
message-story_step n known ds metadata body rest m short e read =
    let bytes = message metadata body ++ rest in
    let w : Whole = record { front = 8 + length metadata; meta = m } in
    let P : ℕ → Type 0 = λ k. slice_range bytes (8 + length metadata) (8 + length metadata + k) ≡ body in
    let Q : ℕ → Type 0 = λ k. drop (8 + length metadata + k) bytes ≡ rest in
    let cut : slice_range bytes w.front (end_of w) ≡ body = subst P (sym e) (message-body metadata body rest) in
    let left : drop (end_of w) bytes ≡ rest = subst Q (sym e) (message-left metadata body rest) in
    story-next n known ds bytes w
    (story_by (after known m) (λ es. story n (after known m) es rest) ds body rest m.header) (omega arith)
    (first-law known metadata body rest m short.some short.small e read)
    (story_step-whole n known ds bytes body rest w cut left)

-- what is known after the schema, and some dictionaries
abbrev begun : Option (List (Rose NamedType)) → List ℕ → List (Rose NamedType) → List (ℤ × ℕ) → Known
begun declared coded fs counts =
    record { declared = declared; schema = Some (coded_fields coded fs); counts = counts }

end-story_step :
    (n : ℕ) (declared : Option (List (Rose NamedType))) (ds : List DictionaryBatch) (coded : List ℕ)
    (fs : List (Rose NamedType)) (counts : List (ℤ × ℕ))
    → story (suc n) (begun declared coded fs counts) ds end_mark ≡ coded_story fs coded []
unfolding story story_step
end-story_step n declared ds coded fs counts = rw (last-law (begun declared coded fs counts) refl) refl

-- messages are long

message-long : (metadata body : List ℕ) → 8 ≤ length (message metadata body)
message-long metadata body = omega arith

batch-long : (ls : Roses Layout) (rows : List (List Datum)) → 8 ≤ length (batch_message ls rows)
unfolding batch_message
batch-long ls rows = message-long (batch_metadata ls rows) (body_bytes ls rows)

-- Whatever counts are known and however many messages may follow, these bytes have this story, after these
-- dictionaries.
abbrev HasStory : Option (List (Rose NamedType)) → List ℕ → List (Rose NamedType) → List DictionaryBatch → List ℕ
    → Story → Type 0
HasStory declared coded fs ds bytes s =
    (n : ℕ) (counts : List (ℤ × ℕ)) → length bytes ≤ n → story n (begun declared coded fs counts) ds bytes ≡ s

-- the record batch, after its dictionaries
record-story_step :
    (declared : Option (List (Rose NamedType))) (coded : List ℕ) (fs : List (Rose NamedType))
    (ds : List DictionaryBatch) (rows more : List (List Datum)) (rest : List ℕ)
    → IsBatch (trees fs) rows → AreCoded coded fs
    → HasStory declared coded fs (ds ++ map (batch_at rows) coded) rest (coded_story fs coded more)
    → HasStory declared coded fs (ds ++ map (batch_at rows) coded)
    (batch_message (indexed_layouts coded 0 (trees fs)) (indexed_rows coded rows) ++ rest)
    (coded_story fs coded (rows ++ more))
unfolding batch_message
record-story_step declared coded fs ds rows more rest b c later zero counts room =
    let ls = indexed_layouts coded 0 (trees fs) in
    let now = indexed_rows coded rows in
    absurd (omega (
      arith,
      room,
      message-long (batch_metadata ls now) (body_bytes ls now),
      length-append (message (batch_metadata ls now) (body_bytes ls now)) rest,
    ))
record-story_step declared coded fs ds rows more rest b c later (suc n) counts room =
    let ls = indexed_layouts coded 0 (trees fs) in
    let now = indexed_rows coded rows in
    let es = ds ++ map (batch_at rows) coded in
    let own = indexed-batch coded (trees fs) rows (coded-trees coded fs c) b in
    let known = begun declared coded fs counts in
    let long = message-long (batch_metadata ls now) (body_bytes ls now) in
    let sum = length-append (message (batch_metadata ls now) (body_bytes ls now)) rest in
    message-story_step n known es (batch_metadata ls now) (body_bytes ls now) rest
    (brings_batch (length (body_bytes ls now)) (head_by ls now)) (batch-short ls now own) refl
    (batch-law-by known (coded_fields coded fs) ls now (coded-slots coded fs) own refl)
    ∙ rw (
      rows-coded (dictionary_after es) fs coded rows c b (are-of ds coded rows),
      later n counts (omega (arith, room, long, sum)),
    ) refl

-- one dictionary batch
dictionary-story_step :
    (declared : Option (List (Rose NamedType))) (coded : List ℕ) (fs : List (Rose NamedType))
    (ds : List DictionaryBatch) (j : ℕ) (rows all : List (List Datum)) (rest : List ℕ)
    → j < 2 ^ 63 → value_type (coded_fields coded fs) (pos j) ≡ Some utf8
    → IsBatch text_layouts (value_rows (values_at j rows))
    → HasStory declared coded fs (ds ++ batch_at rows j ∷ []) rest (coded_story fs coded all)
    → HasStory declared coded fs ds (dictionary_message j (values_at j rows) ++ rest) (coded_story fs coded all)
unfolding dictionary_message
dictionary-story_step declared coded fs ds j rows all rest small type b later zero counts room =
    let vs = values_at j rows in
    absurd (omega (
      arith,
      room,
      message-long (dictionary_metadata j vs) (values_body vs),
      length-append (message (dictionary_metadata j vs) (values_body vs)) rest,
    ))
dictionary-story_step declared coded fs ds j rows all rest small type b later (suc n) counts room =
    let vs = values_at j rows in
    let known = begun declared coded fs counts in
    let d = dictionary_head j vs in
    let long = message-long (dictionary_metadata j vs) (values_body vs) in
    let sum = length-append (message (dictionary_metadata j vs) (values_body vs)) rest in
    message-story_step n known ds (dictionary_metadata j vs) (values_body vs) rest
    (brings_dictionary (length (values_body vs)) d) (dictionary-short j vs small b) refl
    (dictionary-read known (coded_fields coded fs) j vs small refl type b)
    ∙ rw (
      values-read (coded_fields coded fs) j vs type b,
      later n (counts_after counts (header.Dictionary d)) (omega (arith, room, long, sum)),
    ) refl

-- all dictionaries of a batch
dictionaries-story_step :
    (declared : Option (List (Rose NamedType))) (coded : List ℕ) (fs : List (Rose NamedType))
    (ds : List DictionaryBatch) (js : List ℕ) (rows all : List (List Datum)) (rest : List ℕ)
    → IsBatch (trees fs) rows → AreCoded coded fs → All (λ j. is_coded coded j ≡ true) js
    → HasStory declared coded fs (ds ++ map (batch_at rows) js) rest (coded_story fs coded all)
    → HasStory declared coded fs ds (dictionary_messages js rows ++ rest) (coded_story fs coded all)
dictionaries-story_step declared coded fs ds [] rows all rest b c own later =
    subst (λ es. HasStory declared coded fs es rest (coded_story fs coded all)) (append-nil ds) later
dictionaries-story_step declared coded fs ds (j ∷ js) rows all rest b c own later =
    let P : ℕ → Type 0 = λ k. is_coded coded k ≡ true in
    let here = All-head P j js own in
    let one : List DictionaryBatch = batch_at rows j ∷ [] in
    let mine = dictionary_message j (values_at j rows) in
    let others = dictionary_messages js rows in
    let behind =
    dictionaries-story_step declared coded fs (ds ++ one) js rows all rest b c (All-tail P j js own)
    (subst (λ es. HasStory declared coded fs es rest (coded_story fs coded all))
    (sym (append_assoc ds one (map (batch_at rows) js))) later) in
    let there = coded-text-at coded fs j c here in
    let few = b.narrow in
    let small = text-small j (trees fs) there in
    subst (λ bytes. HasStory declared coded fs ds bytes (coded_story fs coded all))
    (sym (append_assoc mine others rest))
    (dictionary-story_step declared coded fs ds j rows all (others ++ rest) (omega (arith, few, small))
    (coded-type coded fs j c here) (values-batch j (trees fs) rows there b) behind)

-- one batch
batch-story_step :
    (declared : Option (List (Rose NamedType))) (coded : List ℕ) (fs : List (Rose NamedType))
    (ds : List DictionaryBatch) (rows more : List (List Datum)) (rest : List ℕ)
    → IsBatch (trees fs) rows → AreCoded coded fs
    → HasStory declared coded fs (ds ++ map (batch_at rows) coded) rest (coded_story fs coded more)
    → HasStory declared coded fs ds (batch_messages coded (trees fs) rows ++ rest) (coded_story fs coded (rows ++ more))
unfolding batch_messages
batch-story_step declared coded fs ds rows more rest b c later =
    let record_bytes = batch_message (indexed_layouts coded 0 (trees fs)) (indexed_rows coded rows) in
    subst (λ bytes. HasStory declared coded fs ds bytes (coded_story fs coded (rows ++ more)))
    (sym (append_assoc (dictionary_messages coded rows) record_bytes rest))
    (dictionaries-story_step declared coded fs ds coded rows (rows ++ more) (record_bytes ++ rest) b c
    (each-coded coded) (record-story_step declared coded fs ds rows more rest b c later))

-- all batches, and the end mark
batches-story_step :
    (most : ℕ) (declared : Option (List (Rose NamedType))) (coded : List ℕ) (fs : List (Rose NamedType))
    (ds : List DictionaryBatch) (rows : List (List Datum)) → length rows ≤ most
    → AreColumns fs → AreLayouts (trees fs) → AreCoded coded fs → All (IsRow fs) rows
    → HasStory declared coded fs ds (batches coded (trees fs) most rows ++ end_mark) (coded_story fs coded rows)
unfolding batches
batches-story_step most declared coded fs ds rows few columns layouts c sound zero counts room =
    absurd (omega (arith, room, length-append (batches coded (trees fs) most rows) end_mark))
batches-story_step zero declared coded fs ds [] few columns layouts c sound (suc n) counts room =
    end-story_step n declared ds coded fs counts
batches-story_step zero declared coded fs ds (row ∷ rows) few columns layouts c sound (suc n) counts room =
    absurd (omega (arith, few))
batches-story_step (suc most) declared coded fs ds [] few columns layouts c sound (suc n) counts room =
    end-story_step n declared ds coded fs counts
batches-story_step (suc most) declared coded fs ds (row ∷ rows) few columns layouts c sound (suc n) counts room =
    let all : List (List Datum) = row ∷ rows in
    let k : ℕ = batch_len (trees fs) all in
    let mine = batch_messages coded (trees fs) (take k all) in
    let others = batches coded (trees fs) most (drop k all) in
    let one = batch-some fs all (omega arith) sound in
    let left = length-drop k all in
    let same = ap length (append_assoc mine others end_mark) in
    let rest =
    batches-story_step most declared coded fs (ds ++ map (batch_at (take k all)) coded) (drop k all)
    (omega (arith, few, one, left)) columns layouts c (All-drop (IsRow fs) k all sound) in
    ap (story (suc n) (begun declared coded fs counts) ds) (append_assoc mine others end_mark)
    ∙ batch-story_step declared coded fs ds (take k all) (drop k all) (others ++ end_mark)
    (batch-sound fs all columns layouts sound) c rest (suc n) counts (omega (arith, room, same))
    ∙ ap (coded_story fs coded) (take-append-drop k all)

schema-story_step :
    (n : ℕ) (declared : Option (List (Rose NamedType))) (coded : List ℕ) (fs : List (Rose NamedType))
    (rows : List (List Datum)) (rest : List ℕ) → AreColumns fs → AreNamed fs → AreCoded coded fs
    → AreExpected declared fs
    → story n (begun declared coded fs []) [] rest ≡ coded_story fs coded rows
    → story (suc n) (before declared) [] (schema_message coded fs ++ rest) ≡ coded_story fs coded rows
unfolding schema_message
schema-story_step n declared coded fs rows rest columns named c same e =
    message-story_step n (before declared) [] (schema_metadata coded fs) [] rest
    (brings_schema 0 (coded_fields coded fs))
    (schema-short coded fs columns) refl (schema-law declared coded fs columns named c same) ∙ e

schema-long : (coded : List ℕ) (fs : List (Rose NamedType)) → 8 ≤ length (schema_message coded fs)
unfolding schema_message
schema-long coded fs = message-long (schema_metadata coded fs) []

trip :
    (declared : Option (List (Rose NamedType))) (fs : List (Rose NamedType)) (coded : List ℕ)
    (rows : List (List Datum)) → IsTable fs rows → AreNamed fs → AreCoded coded fs → AreExpected declared fs
    → story (length (coded_canon fs coded rows)) (before declared) [] (coded_canon fs coded rows)
    ≡ coded_story fs coded rows
unfolding coded_canon
trip declared fs coded rows t named c same =
    let rest = batches coded (trees fs) (length rows) rows ++ end_mark in
    let bytes = schema_message coded fs ++ rest in
    let n : ℕ = length bytes - 1 in
    let long = schema-long coded fs in
    let sum = length-append (schema_message coded fs) rest in
    let fuel : suc n ≡ length bytes = omega (arith, long, sum) in
    let P : ℕ → Type 0 = λ k. story k (before declared) [] bytes ≡ coded_story fs coded rows in
    subst P fuel
    (schema-story_step n declared coded fs rows rest t.columns named c same
    (batches-story_step (length rows) declared coded fs [] rows (omega arith) t.columns t.layouts c t.sound n []
    (omega (arith, long, sum))))

pub coded-trip : CodedTrip
unfolding story_of
coded-trip fs coded rows t named c = trip None fs coded rows t named c tt

pub declared-coded-trip : DeclaredCodedTrip
declared-coded-trip fs coded rows t named c = trip (Some fs) fs coded rows t named c refl

-- the story of a whole stream of a table means the table

story_step-means : (s : Story) (fs : List (Rose NamedType)) (coded : List ℕ) (rows : List (List Datum)) → AreNamed fs
    → s ≡ coded_story fs coded rows → Means s fs rows
story_step-means s fs coded rows named e =
    let P : Story → Type 0 = λ story. Means story fs rows in
    subst P (sym e)
    (record { whole = refl; columns = ap (λ columns. Some columns) (columns-law coded fs named); cells = refl })

pub coded-means : CodedMeansItsTable
coded-means fs coded rows t named c =
    story_step-means (story_of (coded_canon fs coded rows)) fs coded rows named (coded-trip fs coded rows t named c)

pub declared-coded-means : DeclaredCodedMeansItsTable
declared-coded-means fs coded rows t named c =
    story_step-means (story (length (coded_canon fs coded rows)) (before (Some fs)) [] (coded_canon fs coded rows)) fs
    coded rows named (trip (Some fs) fs coded rows t named c refl)

-- without coded columns

pub none-is-coded : (fs : List (Rose NamedType)) → AreCoded [] fs
none-is-coded fs = record { ascending = λ i j d lt within. absurd (omega (arith, within)); texts = All-nil (IsTextColumn fs) }

plain-story : (fs : List (Rose NamedType)) (rows : List (List Datum)) → coded_story fs [] rows ≡ whole_story fs rows
plain-story fs rows = ap (λ es. record { schema = Some es; rows = rows; end = Ok tt }) (none-coded fs)

pub round-trip : RoundTrip
unfolding story_of
round-trip fs rows t named = trip None fs [] rows t named (none-is-coded fs) tt ∙ plain-story fs rows

pub declared-trip : DeclaredTrip
declared-trip fs rows t named = trip (Some fs) fs [] rows t named (none-is-coded fs) refl ∙ plain-story fs rows

pub means-its-table : MeansItsTable
means-its-table fs rows t named = coded-means fs [] rows t named (none-is-coded fs)

pub declared-means-its-table : DeclaredMeansItsTable
declared-means-its-table fs rows t named = declared-coded-means fs [] rows t named (none-is-coded fs)
