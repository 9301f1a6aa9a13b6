-- From the table that was read to the bytes that are put.
use Rattle.std.proofs.Common.{◌≡◌, inl, ℕ, List, [], Option, None, Some, Result, Ok, Err, refl, subst}
use Rattle.values.specs.Datum.{Datum}
use Rattle.values.specs.Rose.{Rose}
use Rattle.values.specs.Logical.{NamedType}
use Rattle.values.specs.declared.causes.Cause.{Cause}
use Rattle.values.specs.declared.causes.Cause.TheVariants as cause
use Rattle.values.specs.StreamCauses.{cause_of}
use Rattle.values.specs.declared.faults.StreamFault.{StreamFault}
use Rattle.values.specs.declared.faults.StreamFault.TheVariants as fault
use Rattle.schema_meta.specs.Story.{Story, story_of}
use Rattle.schema_meta.specs.Means.{Means}
use Rattle.stream_writer.specs.Sinks.{Sunk, Writes}
use Rattle.stream_writer.specs.Stream.{canon}
use Rattle.stream_writer.specs.declared.faults.WriteFault.{WriteFault}
use Rattle.liveviews.specs.ReadBack.{ReadBack}
use Rattle.liveviews.specs.Files.{IsContent, RecastsFile, RecastsSource, source_fault_of}
use Rattle.liveviews.specs.Buffered.{buffered_rows}
use Rattle.liveviews.specs.Source.{OfSource}
use Rattle.liveviews.specs.Steps.{AreConsumedSo, IsRead, Refuses}
use Rattle.liveviews.specs.declared.files.FileFault.{FileFault}
use Rattle.liveviews.specs.declared.files.FileFault.TheVariants as file
use Rattle.liveviews.specs.declared.recasting.whole.RecastFault.{RecastFault}
use Rattle.liveviews.specs.declared.recasting.table.Table.{Table}
use Rattle.liveviews.specs.Recast.{IsUntouched, Recasts, Stops, WritesTable}

untouched : (old : Sunk) → IsUntouched old old 0
untouched old = record { same = refl; none = refl }

-- no fault of a stream is the device's
pub no-device : (f : StreamFault) → cause_of f ≡ cause.Device → ⊥
no-device fault.NoContinuation e = absurd (cc)
no-device fault.BadSize e = absurd (cc)
no-device fault.BadTable e = absurd (cc)
no-device fault.BadName e = absurd (cc)
no-device fault.Version e = absurd (cc)
no-device fault.HeaderKind e = absurd (cc)
no-device fault.BodySize e = absurd (cc)
no-device fault.NoSchema e = absurd (cc)
no-device fault.SecondSchema e = absurd (cc)
no-device fault.BigEndian e = absurd (cc)
no-device fault.UnsupportedType e = absurd (cc)
no-device fault.BadType e = absurd (cc)
no-device fault.TooManyFields e = absurd (cc)
no-device fault.Compressed e = absurd (cc)
no-device fault.DictionaryClash e = absurd (cc)
no-device fault.UnknownDictionary e = absurd (cc)
no-device fault.DictionaryTooLarge e = absurd (cc)
no-device fault.NodeCount e = absurd (cc)
no-device fault.BufferCount e = absurd (cc)
no-device fault.BadLength e = absurd (cc)
no-device fault.BufferRange e = absurd (cc)
no-device fault.BufferShort e = absurd (cc)
no-device fault.NullCount e = absurd (cc)
no-device fault.Offsets e = absurd (cc)
no-device fault.NotUtf8 e = absurd (cc)
no-device fault.DictionaryIndex e = absurd (cc)
no-device fault.DecimalRange e = absurd (cc)
no-device fault.SchemaMismatch e = absurd (cc)
no-device fault.AfterEnd e = absurd (cc)
no-device fault.Truncated e = absurd (cc)
no-device fault.Memory e = absurd (cc)

-- a stream that isn't accepted
pub refused-stops : (old : Sunk) (c : Cause) (s : Story) → Refuses s c → Stops old old c 0 s
refused-stops old cause.Memory s h = inl (untouched old)
refused-stops old cause.Device s (f, named, stands) = absurd (no-device f named)
refused-stops old c s h = (untouched old, h)

pub written-table :
    (law : ReadBack) (old new : Sunk) (answer : Result ℕ WriteFault) (input : List ℕ) (fields : List (Rose NamedType))
    (rows : List (List Datum)) → Means (story_of input) fields rows
    → AreConsumedSo (story_of input).schema (story_of input).rows
    → Writes old new answer (canon fields rows) → WritesTable old new answer (story_of input)
written-table law old new answer input fields rows means taken writes =
    record { fields = fields; rows = rows; means = means; writes = writes; back = law input fields rows means taken }

pub ruleset recasts = (refused-stops, written-table)

-- the same of what was read from a source
pub put-refused :
    (old : Sunk) (input : List ℕ) (read : Result Table Cause) (c : Cause) → read ≡ Err c → IsRead read input
    → Stops old old c 0 (story_of input)
put-refused old input read c is h =
    refused-stops old c (story_of input) (subst (λ (r : Result Table Cause). IsRead r input) is h)

pub put-written :
    (law : ReadBack) (old new : Sunk) (answer : Result ℕ WriteFault) (input : List ℕ) (read : Result Table Cause)
    (t : Table) → read ≡ Ok t → IsRead read input
    → Writes old new answer (canon t.schema.fields.items (buffered_rows t.rows))
    → WritesTable old new answer (story_of input)
put-written law old new answer input read t is h writes =
    let so : IsRead (Ok t) input = subst (λ (r : Result Table Cause). IsRead r input) is h in
    written-table law old new answer input t.schema.fields.items (buffered_rows t.rows) so.0 so.1 writes

pub put-accepted :
    (input : List ℕ) (read : Result Table Cause) (t : Table) → read ≡ Ok t → IsRead read input
    → AreConsumedSo (story_of input).schema (story_of input).rows
put-accepted input read t is h =
    let so : IsRead (Ok t) input = subst (λ (r : Result Table Cause). IsRead r input) is h in so.1

pub ruleset puts = (put-refused, put-written, put-accepted)

pub recasts-source :
    (held : Option (List ℕ)) (old new : Sunk) (read : Result Table Cause) (answer : Result ℕ RecastFault)
    → OfSource held (IsRead read)
    → ((input : List ℕ) → IsRead read input → Recasts old new answer (story_of input)) → RecastsFile held old new answer
recasts-source held old new read answer source recasts =
    record { input = source.input; read = source.read; recasts = recasts source.input source.so }

-- Each source holds something.
pub some-content : (held : Option (List ℕ)) → (input : List ℕ) × IsContent held input
some-content None = ([], tt)
some-content (Some bytes) = (bytes, refl)

pub unread-source :
    (held : Option (List ℕ)) (old : Sunk) (f : FileFault) → RecastsSource held old old (Err (source_fault_of f))
unread-source held old file.Unusable = refl
unread-source held old file.Memory =
    let some = some-content held in
    record { input = some.0; read = some.1; recasts = inl (untouched old) }
