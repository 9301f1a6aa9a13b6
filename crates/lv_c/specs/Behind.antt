-- What calls do to the contents of an open handle: the session, and the bytes of the view that was written last.
use Rattle.std.specs.Prelude.{
  ◌≡◌,
  ◌⊎◌,
  ℕ,
  List,
  [],
  OnOk,
  Result,
  Ok,
  Err,
  false,
  map,
  slice_set,
}
use Rattle.std.specs.Str.{IsUtf8}
use Rattle.values.specs.declared.causes.Cause.{Cause}
use Rattle.values.specs.declared.causes.Cause.TheVariants as cause
use Rattle.stream_writer.specs.Sinks.{sunk_of}
use Rattle.upkeep.specs.LiveEdits.{NoneBecomesStale}
use Rattle.view_lang.specs.Config.{Config}
use Rattle.view_config.specs.Config.{text_means}
use Rattle.view_config.specs.ConfigCauses.{cause_of}
use Rattle.view_config.specs.Reading.{Fails}
use Rattle.view_config.specs.declared.faults.ConfigFault.{ConfigFault}
use Rattle.session.specs.Bounds.{WriteOpens}
use Rattle.session.specs.Names.{place_of}
use Rattle.session.specs.Refusals.{refused}
use Rattle.session.specs.Shows.{IsStep, Shows, config_of}
use Rattle.session.specs.Stale.{StaleByMemory}
use Rattle.session.specs.Steps.{FinishStep, PushStep, UndoTo, WriteStep, start}
use Rattle.session.specs.Visits.{PushOpens, UndoOpens}
use Rattle.session.specs.declared.calls.Fault.{Fault}
use Rattle.session.specs.declared.calls.Pushed.{Pushed}
use Rattle.session.specs.declared.calls.ViewFault.{ViewFault}
use Rattle.session.specs.declared.calls.ViewFault.TheVariants as view_fault
use Rattle.lv_c.specs.declared.held.Held.{Held}

-- the bytes of the stream that was written last
abbrev pub last_stream : Held → List ℕ
last_stream h = h.output.bytes.items

-- The session represents the start of the configuration that these bytes mean, and no view was written.
pub record Opens (bytes : List ℕ) (h : Held) : Type 0 where
  pub config : Config
  pub means : text_means bytes ≡ Ok config
  pub shows : Shows h.session (start config)
  pub declared : config_of h.session ≡ config
  pub output : last_stream h ≡ []

-- These bytes are refused as a configuration: they aren't UTF-8, the text has this fault, or memory was refused.
abbrev pub RefusesConfig : List ℕ → Cause → Type 0
RefusesConfig bytes c = ((c ≡ cause.NotToml) × ¬ (IsUtf8 bytes))
    ⊎ ((f : ConfigFault) × (c ≡ cause_of f) × Fails f (text_means bytes))
    ⊎ (c ≡ cause.Memory)

-- A push to the feed of a name. A name that isn't UTF-8 is that of no feed.
pub record Pushes (old : Held) (feed piece : List ℕ) (answer : Result Pushed Fault) (new : Held) : Type 0 where
  pub named : IsUtf8 feed
      → IsStep old.session (λ s t. PushStep (config_of old.session) s feed piece answer t) new.session
  pub unnamed : ¬ (IsUtf8 feed) → (answer ≡ Err (refused cause.UnknownFeed)) × (new.session ≡ old.session)
  pub config : config_of new.session ≡ config_of old.session
  pub stale : IsUtf8 feed → StaleByMemory old.session.tables.stale answer new.session.tables.stale
  pub visits : IsUtf8 feed → PushOpens old.session.tables answer new.session.records new.session.tables
  pub output : new.output ≡ old.output

-- The end of the input of the feed of a name
pub record Finishes (old : Held) (feed : List ℕ) (answer : Result (Unit {0}) Fault) (new : Held) : Type 0 where
  pub named : IsUtf8 feed
      → IsStep old.session (λ s t. FinishStep (config_of old.session) s feed answer t) new.session
  pub unnamed : ¬ (IsUtf8 feed) → (answer ≡ Err (refused cause.UnknownFeed)) × (new.session ≡ old.session)
  pub config : config_of new.session ≡ config_of old.session
  pub tables : new.session.tables ≡ old.session.tables
  pub output : new.output ≡ old.output

pub record Undoes (old : Held) (answer : Result (Unit {0}) Fault) (new : Held) : Type 0 where
  pub step : IsStep old.session (λ s t. UndoTo s answer t) new.session
  pub config : config_of new.session ≡ config_of old.session
  pub stale : StaleByMemory old.session.tables.stale answer new.session.tables.stale
  pub visits : UndoOpens old.session.tables old.session.records answer new.session.tables
  pub output : new.output ≡ old.output

-- A write of the view of a name: what is stored then is what was put, the whole stream or a prefix of it, and nothing
-- where there is no such view. A name that isn't UTF-8 is that of no view.
pub record WritesLast (old : Held) (view : List ℕ) (answer : Result ℕ ViewFault) (new : Held) : Type 0 where
  pub named : IsUtf8 view → IsStep old.session
      (λ s t. WriteStep (config_of old.session) s view (sunk_of [] 0) answer
      (sunk_of (last_stream new) new.output.failed) × (t ≡ s)) new.session
  pub unnamed : ¬ (IsUtf8 view)
      → (answer ≡ Err view_fault.UnknownView) × (new.session ≡ old.session) × (last_stream new ≡ [])
  pub config : config_of new.session ≡ config_of old.session
  pub stale : IsUtf8 view → OnOk answer (new.session.tables.stale ≡ slice_set old.session.tables.stale
      (place_of view (map (λ v. v.name) old.session.tables.views)) false)
  pub none_stale : NoneBecomesStale old.session.tables.stale new.session.tables.stale
  pub visits : IsUtf8 view → WriteOpens old.session.tables
      (place_of view (map (λ v. v.name) old.session.tables.views)) answer new.session.tables
