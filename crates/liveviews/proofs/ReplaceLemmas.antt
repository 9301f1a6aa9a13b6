-- How a recast to a new file ends.
use Rattle.std.proofs.Common.{
  ◌≡◌,
  ℕ,
  List,
  [],
  Option,
  None,
  Some,
  Ok,
  Err,
  append-nil,
  arith,
  inl,
  inr,
  subst,
  sym,
  ◌∙◌,
}
use Rattle.std.specs.Io.KnownBytes.{Appends, Keeps}
use Rattle.schema_meta.specs.Story.{story_of}
use Rattle.stream_writer.specs.Sinks.{Puts, Sunk, Writes}
use Rattle.stream_writer.specs.declared.faults.WriteFault.TheVariants.{Device}
use Rattle.stream_writer.specs.declared.sink.DeviceFault.{DeviceFault}
use Rattle.values.specs.declared.causes.Cause.TheVariants as cause
use Rattle.liveviews.specs.Program.{StopsFor, StopsSo, refusal_after}
use Rattle.liveviews.specs.Source.{HoldsFile}
use Rattle.liveviews.specs.Streams.{StopsWithin, StreamsSource}
use Rattle.liveviews.specs.declared.files.FileFault.{FileFault}
use Rattle.liveviews.specs.declared.program.outcome.Refusal.{Refusal}
use Rattle.liveviews.specs.declared.recasting.whole.SourceFault.{SourceFault}
use Rattle.liveviews.specs.declared.recasting.whole.SourceFault.TheVariants as source

appends-none : (old new : Option (List ℕ)) → Keeps old new → Appends old new []
appends-none None new kept = tt
appends-none (Some xs) None kept = absurd kept
appends-none (Some xs) (Some ys) kept = kept ∙ sym (append-nil xs)

-- A put that failed wrote nothing.
failed-writes :
    (old new : Sunk) (fault : DeviceFault) (whole : List ℕ) → Puts old new (Err fault) []
    → Writes old new (Err (Device 0)) whole
failed-writes old new fault whole put = record {
  bytes = appends-none old.taken new.taken put.bytes;
  bound = omega arith;
  complete = tt;
  device = let counted = put.counted in (λ d same. omega (arith, counted, same), λ h. tt);
}

-- It took all of the stream, and could not replace the old file.
pub unplaced-ends :
    (held read : Option (List ℕ)) (start old new thrown : Sunk) (n : ℕ) (fault : DeviceFault)
    (not_created : Option FileFault) → HoldsFile held read → StreamsSource read start thrown (Ok n)
    → Puts old new (Err fault) [] → StopsFor held old new not_created cause.Device
unplaced-ends held read start old new thrown n fault not_created holds streams put =
    let writes = streams.so in
    inr (inr (inr (inl (
      0,
      record {
        input = streams.input;
        read = holds streams.input streams.read;
        recasts = record {
          fields = writes.fields;
          rows = writes.rows;
          means = writes.means;
          writes = failed-writes old new fault _ put;
          back = writes.back;
        };
      },
    ))))

-- It was discarded.
pub thrown-ends :
    (held read : Option (List ℕ)) (start old new thrown : Sunk) (fault : SourceFault) (not_created : Option FileFault)
    (path : Refusal) → start ≡ old → HoldsFile held read → StreamsSource read start thrown (Err fault) → new ≡ old
    → StopsSo held old new not_created path → StopsSo held old new not_created (refusal_after path fault)
thrown-ends held read start old new thrown source.Unreadable not_created path begun holds streams same named = named
thrown-ends held read start old new thrown (source.Refused f) not_created path begun holds streams same named =
    inr (inr (inr (inr (
      record {
        thrown = thrown;
        written = f.written;
        streams = record {
          input = streams.input;
          read = holds streams.input streams.read;
          so = subst (λ (s : Sunk). StopsWithin s thrown f.cause f.written (story_of streams.input)) begun streams.so;
        };
      },
      same,
    ))))
