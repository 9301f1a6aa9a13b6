-- How a command ends, and how the program does.
use Rattle.std.specs.Prelude.{
  ◌≡◌,
  ◌≢◌,
  ◌⊎◌,
  ℕ,
  List,
  [],
  ◌∷◌,
  ◌++◌,
  Option,
  Some,
  Result,
  Ok,
  Err,
  String,
  codes,
  string_bytes,
}
use Rattle.std.specs.Fmt.{decimal}
use Rattle.std.specs.Io.KnownBytes.{Appends}
use Rattle.clap.specs.declared.error.kind.ErrorKind.{ErrorKind}
use Rattle.clap.specs.declared.error.kind.ErrorKind.TheVariants as kinds
use Rattle.stream_writer.specs.Sinks.{Sunk}
use Rattle.values.specs.declared.causes.Cause.{Cause}
use Rattle.values.specs.declared.causes.Cause.TheVariants as cause
use Rattle.liveviews.specs.Files.{InspectsFile, MakesNone, RecastsFile}
use Rattle.liveviews.specs.declared.files.FileFault.{FileFault}
use Rattle.liveviews.specs.declared.files.FileFault.TheVariants as file
use Rattle.liveviews.specs.Check.{ChecksFile, RefusesFile}
use Rattle.liveviews.specs.Showing.{ShowsFile}
use Rattle.liveviews.specs.Streams.{Discards}
use Rattle.liveviews.specs.declared.program.outcome.Refusal.{Refusal}
use Rattle.liveviews.specs.declared.program.outcome.Refusal.TheVariants as refusal
use Rattle.liveviews.specs.declared.recasting.whole.RecastFault.{RecastFault}
use Rattle.liveviews.specs.declared.recasting.whole.SourceFault.{SourceFault}
use Rattle.liveviews.specs.declared.recasting.whole.SourceFault.TheVariants as source

-- the first argument is this word
abbrev pub Begins : {Z : Type 0} → List ℕ → List (String Z) → Type 0
Begins word [] = ⊥
Begins word (w ∷ ws) = string_bytes w ≡ word

-- the arguments ask for a session, over the lines of a script or those of standard input
abbrev pub AsksSession : {Z : Type 0} → List (String Z) → Type 0
AsksSession words = Begins (codes "run") words ⊎ Begins (codes "live") words

-- the arguments ask for the rows of a stream
abbrev pub AsksShow : {Z : Type 0} → List (String Z) → Type 0
AsksShow words = Begins (codes "show") words

-- a command that is not wrong use was refused
abbrev pub IsRefused : Refusal → Type 0
IsRefused refusal.WrongUse = ⊥
IsRefused _ = Unit {0}

-- a file that can't be read, or refused memory
abbrev pub IsUnreadable : Refusal → Type 0
IsUnreadable refusal.WrongUse = ⊥
IsUnreadable (refusal.Refused c) = c ≡ cause.Memory
IsUnreadable (refusal.CannotRead path) = Unit {0}
IsUnreadable (refusal.CannotWrite path) = ⊥

-- arguments that can't be read: for want of memory, or they are no command
abbrev pub IsRefusedAs : ErrorKind → Refusal → Type 0
IsRefusedAs kind r =
    ((kind ≡ kinds.OutOfMemory) × (r ≡ refusal.Refused cause.Memory))
    ⊎ ((kind ≢ kinds.OutOfMemory) × (r ≡ refusal.WrongUse))

-- A cause that the command names: memory was refused outside of recasting, or a configuration has this fault, or
-- recasting stopped for it, with nothing put where what it wrote was discarded.
abbrev pub StopsFor : Option (List ℕ) → Sunk → Sunk → Option FileFault → Cause → Type 0
StopsFor held old new not_created c =
    ((c ≡ cause.Memory) × (new ≡ old)) ⊎ (RefusesFile held c × (new ≡ old)) ⊎ ((c ≡ cause.Memory)
    × MakesNone held old new not_created file.Memory)
    ⊎ ((written : ℕ) × RecastsFile held old new (Err (record { cause = c; written = written })))
    ⊎ (Discards held old c × (new ≡ old))

-- what `check` is refused for: a file that can't be read, or has no configuration
abbrev pub IsNoConfig : Option (List ℕ) → Refusal → Type 0
IsNoConfig held refusal.WrongUse = ⊥
IsNoConfig held (refusal.CannotRead path) = Unit {0}
IsNoConfig held (refusal.CannotWrite path) = ⊥
IsNoConfig held (refusal.Refused c) = (c ≡ cause.Memory) ⊎ RefusesFile held c

-- the refusal of a command over a file that holds `held`, and what was put
abbrev pub StopsSo : Option (List ℕ) → Sunk → Sunk → Option FileFault → Refusal → Type 0
StopsSo held old new not_created refusal.WrongUse = new ≡ old
StopsSo held old new not_created (refusal.CannotRead path) = new ≡ old
StopsSo held old new not_created (refusal.CannotWrite path) =
    (new ≡ old) ⊎ MakesNone held old new not_created file.Unusable
StopsSo held old new not_created (refusal.Refused c) = StopsFor held old new not_created c

abbrev pub Ends : Option (List ℕ) → Sunk → Sunk → Option FileFault → Result ℕ Refusal → Type 0
Ends held old new not_created (Ok n) = RecastsFile held old new (Ok n)
Ends held old new not_created (Err r) = StopsSo held old new not_created r

-- the refusal where a file can't be read or made: this one, which names the file, or for want of memory
abbrev pub refusal_for : Refusal → FileFault → Refusal
refusal_for named file.Unusable = named
refusal_for named file.Memory = refusal.Refused cause.Memory

-- the refusal of a stream that was not recast: this one, which names the file, where that can't be read further
abbrev pub refusal_after : Refusal → SourceFault → Refusal
refusal_after named source.Unreadable = named
refusal_after named (source.Refused f) = refusal.Refused f.cause

-- A cause is named as it is, or it is the device's where the file could not be made.
abbrev pub IsStopped : Refusal → Option FileFault → Cause → Refusal → Type 0
IsStopped named not_created c answer =
    (answer ≡ refusal.Refused c)
    ⊎ ((why : FileFault) × (c ≡ cause.Device) × (not_created ≡ Some why) × (answer ≡ refusal_for named why))

abbrev pub status_of : Refusal → ℕ
status_of refusal.WrongUse = 2
status_of (refusal.CannotRead path) = 1
status_of (refusal.CannotWrite path) = 1
status_of (refusal.Refused c) = 1

-- A file was inspected, its stream has no fault, and nothing was put. These are its lines.
abbrev pub IsInspected : Option (List ℕ) → Sunk → Sunk → List ℕ → Type 0
IsInspected held old new text = (new ≡ old) × InspectsFile held text 0

-- the line that is printed where n bytes were put
abbrev pub line_of : ℕ → List ℕ
line_of n = codes "wrote " ++ decimal n ++ 10 ∷ []

-- All of the canonical stream of a file's table was put, and this line says so.
abbrev pub IsRecast : Option (List ℕ) → Sunk → Sunk → List ℕ → Type 0
IsRecast held old new text = (n : ℕ) × RecastsFile held old new (Ok n) × (text ≡ line_of n)

-- the line of a configuration with these numbers of feeds and views
abbrev pub counts_of : ℕ → ℕ → List ℕ
counts_of feeds views = codes "ok: " ++ (decimal feeds ++ (codes " feeds, " ++ (decimal views ++ (codes " views" ++ 10
    ∷ []))))

-- A file has a configuration, and nothing was put. This line says so.
abbrev pub IsChecked : Option (List ℕ) → Sunk → Sunk → List ℕ → Type 0
IsChecked held old new text =
    (new ≡ old) × ((feeds : ℕ) × (views : ℕ) × ChecksFile held feeds views × (text ≡ counts_of feeds views))

-- The outcome of a command over a file that holds `held`: its stream has no fault, or all of the canonical stream of
-- its table was put, or it has a configuration. This text says so.
abbrev pub Comes : Option (List ℕ) → Sunk → Sunk → List ℕ → Type 0
Comes held old new text = IsInspected held old new text ⊎ IsRecast held old new text ⊎ IsChecked held old new text

-- A file was read with this outcome, and what says so was printed.
pub record IsDone (content : List ℕ → Option (List ℕ)) (old new : Sunk) (before after : Option (List ℕ)) : Type 0 where
  pub path : List ℕ
  pub text : List ℕ
  pub comes : Comes (content path) old new text
  pub printed : Appends before after text

-- What status 0 means: of `run` and `live` nothing, of `show` that a stream was read that has no fault, and of the
-- others that a file was read with an outcome.
abbrev pub Succeeds :
    {Z : Type 0} → List (String Z) → (List ℕ → Option (List ℕ)) → Sunk → Sunk → Option (List ℕ) → Option (List ℕ)
    → Type 0
Succeeds words content old new before after =
    AsksSession words ⊎ (AsksShow words × ShowsFile content) ⊎ IsDone content old new before after

-- Nothing was put, or a file was read and recast, however far.
abbrev pub IsBegun : (List ℕ → Option (List ℕ)) → Sunk → Sunk → Type 0
IsBegun content old new = (new ≡ old)
    ⊎ ((path : List ℕ) × (answer : Result ℕ RecastFault) × RecastsFile (content path) old new answer)
