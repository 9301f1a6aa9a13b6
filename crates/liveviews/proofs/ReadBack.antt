-- What a stream means is read back: its schema was read, so that it can be written and read.
use Rattle.std.proofs.Common.{
  ◌≡◌,
  ℕ,
  zero,
  suc,
  Bool,
  true,
  false,
  Option,
  None,
  Some,
  Ok,
  Err,
  List,
  [],
  length,
  map,
  refl,
  sym,
  subst,
}
use Rattle.std.specs.Prelude.{if◌then◌else◌, ◌==◌, drop, slice_range}
use Rattle.std.specs.Option.{option_map}
use Rattle.values.specs.Datum.{Datum}
use Rattle.values.specs.Rose.{Rose}
use Rattle.values.specs.Logical.{NamedType}
use Rattle.values.specs.Reading.{Reading}
use Rattle.dictionaries.specs.Batches.{DictionaryBatch}
use Rattle.schema_meta.specs.Entry.{Entry}
use Rattle.schema_meta.specs.declared.header.Header.{Header}
use Rattle.schema_meta.specs.declared.header.Header.TheVariants as header
use Rattle.schema_meta.specs.FieldsLaw.{ColumnsFit, ColumnsNamed}
use Rattle.schema_meta.specs.Framing.{first}
use Rattle.schema_meta.specs.Logical.{logical_field}
use Rattle.schema_meta.specs.LogicalLaw.{LogicalTrees, NarrowFits, NarrowHoldsEach, NarrowRowWeighs}
use Rattle.schema_meta.specs.SchemaLaw.{AreNamed}
use Rattle.schema_meta.specs.Sound.{after, schema_after}
use Rattle.schema_meta.specs.Stage.{Known, Whole, end_of}
use Rattle.schema_meta.specs.Story.{
  Story,
  after_batch,
  after_values,
  at_input_end,
  ends,
  nothing_known,
  story,
  story_by,
  story_of,
  story_step,
  with_schema,
}
use Rattle.schema_meta.specs.Means.{Means}
use Rattle.messages.specs.MessageLaw.{Brings, MessageLaw}
use Rattle.messages.specs.State.{IsRead}
use Rattle.stream_writer.specs.RoundTrip.{DeclaredMeansItsTable, MeansItsTable}
use Rattle.stream_writer.specs.Table.{IsTable}
use Rattle.liveviews.specs.ReadBack.{DeclaredReadBack, ReadBack}
use Rattle.liveviews.specs.Steps.{AreConsumedSo}
use Rattle.liveviews.proofs.Tables.{table-fits}

values-read :
    (known : Known) (m : Reading (List Datum)) (rest : List Datum → Story) → IsRead known.schema
    → ((values : List Datum) → IsRead (rest values).schema) → IsRead (after_values known m rest).schema
values-read known (Ok values) rest read later = later values
values-read known (Err fs) rest read later = read

rows-read :
    (known : Known) (m : Reading (List (List Datum))) (rest : Story) → IsRead known.schema → IsRead rest.schema
    → IsRead (after_batch known m rest).schema
rows-read known (Ok rows) rest read later = later
rows-read known (Err fs) rest read later = read

header-read :
    (known : Known) (rest : List DictionaryBatch → Story) (ds : List DictionaryBatch) (body bytes : List ℕ) (h : Header)
    → IsRead known.schema
    → ((es : List DictionaryBatch) → IsRead (rest es).schema) → IsRead (story_by known rest ds body bytes h).schema
header-read known rest ds body bytes header.Schema read later = later ds
header-read known rest ds body bytes (header.Dictionary d) read later = values-read known _ _ read (λ values. later _)
header-read known rest ds body bytes (header.Batch head) read later = rows-read known _ (rest ds) read (later ds)
header-read known rest ds body bytes header.End read later = read

-- a message has a schema that was read, or none
brings-read : (known brought : Option (List (Rose Entry))) (h : Header) → IsRead known → Brings known brought h
    → IsRead (schema_after known brought)
brings-read known brought header.Schema read b =
    subst (λ (o : Option (List (Rose Entry))). IsRead (schema_after known o)) (sym b.is) b.read
brings-read known brought (header.Dictionary d) read none =
    subst (λ (o : Option (List (Rose Entry))). IsRead (schema_after known o)) (sym none) read
brings-read known brought (header.Batch b) read none =
    subst (λ (o : Option (List (Rose Entry))). IsRead (schema_after known o)) (sym none) read
brings-read known brought header.End read none =
    subst (λ (o : Option (List (Rose Entry))). IsRead (schema_after known o)) (sym none) read

with_schema-read : (o : Option (List (Rose Entry))) (s : Story) → IsRead o → IsRead s.schema
    → IsRead (with_schema o s).schema
with_schema-read None s read later = later
with_schema-read (Some fields) s read later = read

either-read :
    (known : Known) (s : Story) (none : Bool) → IsRead known.schema → IsRead s.schema
    → IsRead (if none then ends known (at_input_end known.schema) else with_schema known.schema s).schema
either-read known s true read later = read
either-read known s false read later = with_schema-read known.schema s read later

story_step-read :
    (message : MessageLaw) (next : Known → List DictionaryBatch → List ℕ
    → Story) (known : Known) (ds : List DictionaryBatch) (bytes : List ℕ)
    (m : Reading (Option Whole)) → first known bytes ≡ m → IsRead known.schema
    → ((k : Known) (es : List DictionaryBatch) (bs : List ℕ) → IsRead k.schema → IsRead (next k es bs).schema)
    → IsRead (story_step next known ds bytes m).schema
unfolding story_step
story_step-read message next known ds bytes (Err fs) found read later = read
story_step-read message next known ds bytes (Ok None) found read later = read
story_step-read message next known ds bytes (Ok (Some w)) found read later =
    let is = message known bytes w found in
    let next-known : Known = after known w.meta in
    let behind : List ℕ = drop (end_of w) bytes in
    let read-after : IsRead next-known.schema = brings-read known.schema w.meta.schema w.meta.header read is.brings in
    header-read next-known (λ es. next next-known es behind) ds (slice_range bytes w.front (end_of w)) behind
    w.meta.header read-after
    (λ es. later next-known es behind read-after)

story-read :
    (message : MessageLaw) (n : ℕ) (known : Known) (ds : List DictionaryBatch) (bytes : List ℕ) → IsRead known.schema
    → IsRead (story n known ds bytes).schema
unfolding story
story-read message zero known ds bytes read = read
story-read message (suc n) known ds bytes read =
    let s : Story = story_step (story n) known ds bytes (first known bytes) in
    let later : IsRead s.schema =
    story_step-read message (story n) known ds bytes (first known bytes) refl read
    (λ k es bs h. story-read message n k es bs h) in
    either-read known s (length bytes == 0) read later

all-read : (message : MessageLaw) (bytes : List ℕ) → IsRead (story_of bytes).schema
unfolding story_of
all-read message bytes = story-read message (length bytes) nothing_known [] bytes tt

-- what the laws of reading and writing give for it
pub record Laws : Type 0 where
  pub message : MessageLaw
  pub fit : ColumnsFit
  pub named : ColumnsNamed
  pub trees : LogicalTrees
  pub fits : NarrowFits
  pub rows : NarrowHoldsEach
  pub row_weights : NarrowRowWeighs

columns-fit :
    (laws : Laws) (o : Option (List (Rose Entry))) (fields : List (Rose NamedType)) (rows : List (List Datum))
    → IsRead o
    → option_map (λ fs. map logical_field fs) o ≡ Some fields → AreConsumedSo o rows
    → IsTable fields rows × AreNamed fields
columns-fit laws None fields rows read e taken = absurd (cc)
columns-fit laws (Some fs) fields rows read e taken =
    let same : map logical_field fs ≡ fields = cc in
    let P : List (Rose NamedType) → Type 0 = λ gs. IsTable gs rows × AreNamed gs in
    subst P same (
      table-fits laws.trees laws.fits laws.rows laws.row_weights laws.fit fs rows read taken,
      laws.named fs read,
    )

table-of :
    (laws : Laws) (input : List ℕ) (fields : List (Rose NamedType)) (rows : List (List Datum))
    → Means (story_of input) fields rows
    → AreConsumedSo (story_of input).schema (story_of input).rows → IsTable fields rows × AreNamed fields
table-of laws input fields rows means taken =
    let P : List (List Datum) → Type 0 = AreConsumedSo (story_of input).schema in
    columns-fit laws (story_of input).schema fields rows (all-read laws.message input) means.columns
    (subst P means.cells taken)

pub read-back : Laws → MeansItsTable → ReadBack
read-back laws trip input fields rows means taken =
    let table = table-of laws input fields rows means taken in trip fields rows table.0 table.1

pub declared-back : Laws → DeclaredMeansItsTable → DeclaredReadBack
declared-back laws trip input fields rows means taken =
    let table = table-of laws input fields rows means taken in trip fields rows table.0 table.1
