-- What a command did to the files: what was read from one, and what was put to another.
use Rattle.std.specs.Prelude.{◌≡◌, ◌≢◌, ℕ, List, Option, None, Some, Result, Ok, Err}
use Rattle.std.specs.Io.KnownBytes.{Appends}
use Rattle.schema_meta.specs.Story.{story_of}
use Rattle.stream_writer.specs.Sinks.{Sunk}
use Rattle.values.specs.declared.causes.Cause.TheVariants as cause
use Rattle.liveviews.specs.Inspect.{ReportsAccount, account_of, status_where}
use Rattle.liveviews.specs.Recast.{Recasts}
use Rattle.liveviews.specs.declared.files.FileFault.{FileFault}
use Rattle.liveviews.specs.declared.files.FileFault.TheVariants as file
use Rattle.liveviews.specs.declared.recasting.whole.RecastFault.{RecastFault}
use Rattle.liveviews.specs.declared.recasting.whole.SourceFault.{SourceFault}
use Rattle.liveviews.specs.declared.recasting.whole.SourceFault.TheVariants as source

-- what was read is what the file holds, where that is known
abbrev pub IsContent : Option (List ℕ) → List ℕ → Type 0
IsContent None bytes = Unit {0}
IsContent (Some held) bytes = bytes ≡ held

-- The file at this path holds these bytes now, and each other one what it held.
pub record Replaces (before after : List ℕ → Option (List ℕ)) (path bytes : List ℕ) : Type 0 where
  pub whole : IsContent (after path) bytes
  pub others : (other : List ℕ) → other ≢ path → after other ≡ before other

-- The file at this path now holds the bytes of the new file, those that this sink took after the other, and each other
-- file what it held.
abbrev pub ReplacesBy : Sunk → Sunk → (List ℕ → Option (List ℕ)) → (List ℕ → Option (List ℕ)) → List ℕ → Type 0
ReplacesBy old new before after path =
    (bytes : List ℕ) → Appends old.taken new.taken bytes → Replaces before after path bytes

-- These bytes were read from a file that holds `held`, and this is what recasting them gave.
pub record RecastsFile (held : Option (List ℕ)) (old new : Sunk) (answer : Result ℕ RecastFault) : Type 0 where
  pub input : List ℕ
  pub read : IsContent held input
  pub recasts : Recasts old new answer (story_of input)

-- a source that can't be read, or memory that was refused before anything was put
abbrev pub source_fault_of : FileFault → SourceFault
source_fault_of file.Unusable = source.Unreadable
source_fault_of file.Memory = source.Refused (record { cause = cause.Memory; written = 0 })

-- The same of a source that holds `held`. Where it can't be read nothing was put.
abbrev pub RecastsSource : Option (List ℕ) → Sunk → Sunk → Result ℕ SourceFault → Type 0
RecastsSource held old new (Ok n) = RecastsFile held old new (Ok n)
RecastsSource held old new (Err source.Unreadable) = new ≡ old
RecastsSource held old new (Err (source.Refused f)) = RecastsFile held old new (Err f)

-- Putting failed, and the files say that the one to be written could not be made.
pub record MakesNone (held : Option (List ℕ)) (old new : Sunk) (not_created : Option FileFault) (why : FileFault) :
    Type 0 where
  pub fault : not_created ≡ Some why
  pub written : ℕ
  pub recasts : RecastsFile held old new (Err (record { cause = cause.Device; written = written }))

-- These bytes were read from a file that holds `held`, and this text and this status are those of their lines.
pub record InspectsFile (held : Option (List ℕ)) (text : List ℕ) (status : ℕ) : Type 0 where
  pub input : List ℕ
  pub read : IsContent held input
  pub tells : ReportsAccount (account_of input) text status
  pub valid : status ≡ status_where (story_of input).end
