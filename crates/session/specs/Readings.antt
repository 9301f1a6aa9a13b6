-- What a run wrote, read by the format's rules, is what the views show.
use Rattle.std.specs.Prelude.{
  ◌≡◌,
  ℕ,
  ◌++◌,
  List,
  ◌∷◌,
  Some,
  Ok,
  length,
  slice_get,
  slice_set,
}
use denote.Ref.{Bor}
use Rattle.std.specs.Io.KnownBytes.{Appends}
use Rattle.stream_writer.specs.Sinks.{Sunk}
use Rattle.view_lang.specs.Config.{Config, View, tables_of}
use Rattle.view_lang.specs.World.{world}
use Rattle.session.specs.Steps.{IsReadAsView, Run, State, start, view_in}
use Rattle.session.specs.declared.calls.Reply.{Reply}
use Rattle.session.specs.declared.calls.Reply.TheVariants as reply
use Rattle.session.specs.declared.calls.Step.{Step}
use Rattle.session.specs.declared.calls.Step.TheVariants as step

-- A view was written to the sink n after these steps of a fresh session. They are a run, which left some accepted edits
-- that aren't undone. The bytes that the sink gained are read as the table of the view over what these edits leave.
pub record WroteView (conf : Config) (sinks : List Sunk) (steps : List Step) (replies : List Reply) (name : List ℕ)
    (n : ℕ) (later : List Step) (answers : List Reply) (new : State) (last : List Sunk) : Type 0 where
  pub left : State
  pub before : List Sunk
  pub runs : Run conf (start conf) sinks steps replies left before
  pub view : View
  pub named : view_in conf name ≡ Some view
  pub old : Sunk
  pub there : slice_get before n ≡ Some old
  pub wrote : Sunk
  pub bytes : List ℕ
  pub gained : Appends old.taken wrote.taken bytes
  pub read : IsReadAsView (tables_of conf) view (world (tables_of conf) left.past.edits) bytes
  pub rest : Run conf left (slice_set before n wrote) later answers new last

-- It is so of each write of a run that was answered with a length.
abbrev pub WrittenIsRead : Type 0
WrittenIsRead =
    (conf : Config) (sinks last : List Sunk) (steps later : List Step) (replies answers : List Reply)
    (name : Bor (List ℕ)) (n count : ℕ) (new : State)
    → length steps ≡ length replies
    → Run conf (start conf) sinks (steps ++ step.Write name n ∷ later) (replies ++ reply.Write (Ok count) ∷ answers) new
    last
    → WroteView conf sinks steps replies name.now n later answers new last
