-- What a refused push leaves.
use Rattle.std.specs.Prelude.{◌≡◌, ℕ, List, Result, Err, slice_get}
use Rattle.values.specs.declared.causes.Cause.TheVariants as cause
use Rattle.view_lang.specs.Config.{Config}
use Rattle.session.specs.Steps.{PushStep, State, place_in}
use Rattle.session.specs.declared.calls.Fault.{Fault}
use Rattle.session.specs.declared.calls.Pushed.{Pushed}

-- Whatever a push is refused for, the accepted edits, and how many can be undone, stay.
abbrev pub RefusalsKeepEdits : Type 0
RefusalsKeepEdits =
    (conf : Config) (s t : State) (name piece : List ℕ) (f : Fault) → PushStep conf s name piece (Err f) t
    → t.past ≡ s.past

-- After want of memory all is as it was.
abbrev pub MemoryChangesNothing : Type 0
MemoryChangesNothing =
    (conf : Config) (s t : State) (name piece : List ℕ) (f : Fault) → PushStep conf s name piece (Err f) t
    → f.cause ≡ cause.Memory → t ≡ s

-- A push changes no feed but its own.
abbrev pub OthersStay : Type 0
OthersStay =
    (conf : Config) (s t : State) (name piece : List ℕ) (answer : Result Pushed Fault) (k : ℕ)
    → PushStep conf s name piece answer t
    → (k ≡ place_in conf name → ⊥) → slice_get t.channels k ≡ slice_get s.channels k
