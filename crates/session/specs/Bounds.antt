-- What each step of a run does, how many rows it opens, and which views it leaves stale.
use Rattle.std.specs.Prelude.{◌≡◌, ℕ, false, List, [], ◌∷◌, Result, Ok, Err, OnOk, map, slice_set}
use Rattle.stream_writer.specs.Sinks.{Sunk}
use Rattle.upkeep.specs.LiveEdits.{NoneBecomesStale}
use Rattle.upkeep.specs.LiveParts.{LiveParts}
use Rattle.upkeep.specs.Touched.{OpensShown}
use Rattle.session.specs.Names.{place_of}
use Rattle.session.specs.Shows.{IsStep, SessionParts, config_of}
use Rattle.session.specs.Stale.{StaleByMemory}
use Rattle.session.specs.Steps.{Steps}
use Rattle.session.specs.Visits.{PushOpens, UndoOpens}
use Rattle.session.specs.declared.calls.Reply.{Reply}
use Rattle.session.specs.declared.calls.Reply.TheVariants as reply
use Rattle.session.specs.declared.calls.Step.{Step}
use Rattle.session.specs.declared.calls.Step.TheVariants as step
use Rattle.session.specs.declared.calls.ViewFault.{ViewFault}
use Rattle.session.specs.declared.calls.ViewFault.TheVariants as view_fault

-- A write opens the rows that its view shows, and all live ones if that is stale. Where there is no view of its name it
-- does nothing.
abbrev pub WriteOpens : LiveParts → ℕ → Result ℕ ViewFault → LiveParts → Type 0
WriteOpens old place (Ok n) new = OpensShown old place new
WriteOpens old place (Err (view_fault.Write f)) new = OpensShown old place new
WriteOpens old place (Err view_fault.UnknownView) new = new ≡ old

-- The bound on the rows of the main table that a step opens: that of its call.
abbrev pub StepOpens : SessionParts → Step → Reply → SessionParts → Type 0
StepOpens old (step.Push name piece) (reply.Push answer) new = PushOpens old.tables answer new.records new.tables
StepOpens old (step.Finish name) (reply.Finish answer) new = new.tables ≡ old.tables
StepOpens old step.Undo (reply.Undo answer) new = UndoOpens old.tables old.records answer new.tables
StepOpens old (step.Write name n) (reply.Write answer) new =
    WriteOpens old.tables (place_of name.now (map (λ v. v.name) old.tables.views)) answer new.tables
StepOpens old _ _ new = ⊥

-- Views become stale only by a push or an undo that answers want of memory, and a view that was written isn't stale.
abbrev pub StepStale : SessionParts → Step → Reply → SessionParts → Type 0
StepStale old (step.Push name piece) (reply.Push answer) new = StaleByMemory old.tables.stale answer new.tables.stale
StepStale old (step.Finish name) (reply.Finish answer) new = new.tables.stale ≡ old.tables.stale
StepStale old step.Undo (reply.Undo answer) new = StaleByMemory old.tables.stale answer new.tables.stale
StepStale old (step.Write name n) (reply.Write answer) new =
    OnOk answer (new.tables.stale
    ≡ slice_set old.tables.stale (place_of name.now (map (λ v. v.name) old.tables.views)) false)
    × NoneBecomesStale old.tables.stale new.tables.stale
StepStale old _ _ new = ⊥

-- What a step does: it leads to a state that the definition of a session allows, and stays within its bounds.
pub record Does (old : SessionParts) (before : List Sunk) (s : Step) (r : Reply) (new : SessionParts)
    (after : List Sunk) : Type 0 where
  pub step : IsStep old (λ a b. Steps (config_of old) a before s r b after) new
  pub opens : StepOpens old s r new
  pub stale : StepStale old s r new

-- The steps of a run, each of which begins with the session and the sinks that the one before it left.
abbrev pub EachDoes : SessionParts → List Sunk → List Step → List Reply → SessionParts → List Sunk → Type 0
EachDoes old before [] [] new after = (new ≡ old) × (after ≡ before)
EachDoes old before (s ∷ ss) (r ∷ rs) new after =
    (mid : SessionParts) × (sinks : List Sunk) × Does old before s r mid sinks × EachDoes mid sinks ss rs new after
EachDoes old before [] (r ∷ rs) new after = ⊥
EachDoes old before (s ∷ ss) [] new after = ⊥
