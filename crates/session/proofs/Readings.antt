-- What a run wrote is read as what the views show.
use Rattle.std.proofs.Common.{
  ◌≡◌,
  ℕ,
  ◌++◌,
  ◌∙◌,
  Bor,
  List,
  [],
  ◌∷◌,
  Option,
  None,
  Some,
  Ok,
  length,
  pred,
  take,
  refl,
  ap,
  subst,
}
use Rattle.std.specs.Prelude.{slice_set}
use Rattle.std.proofs.Math.Seq.{take-length}
use Rattle.std.specs.Io.KnownBytes.{Appends}
use Rattle.stream_writer.specs.Sinks.{Sunk, Writes}
use Rattle.view_lang.specs.Config.{Config, View, tables_of}
use Rattle.view_lang.specs.World.{world}
use Rattle.session.specs.Readings.{WrittenIsRead, WroteView}
use Rattle.session.specs.Steps.{Run, State, Steps, WriteTo, WritesView, start, stream_of, view_in}
use Rattle.session.specs.declared.calls.Reply.{Reply}
use Rattle.session.specs.declared.calls.Reply.TheVariants as reply
use Rattle.session.specs.declared.calls.Step.{Step}
use Rattle.session.specs.declared.calls.Step.TheVariants as step

-- a run is the steps before one, this one, and those after it
record Parted (conf : Config) (s : State) (ks : List Sunk) (steps : List Step) (replies : List Reply) (st : Step)
    (r : Reply) (later : List Step) (answers : List Reply) (new : State) (last : List Sunk) : Type 0 where
  left : State
  before : List Sunk
  next : State
  after : List Sunk
  runs : Run conf s ks steps replies left before
  goes : Steps conf left before st r next after
  rest : Run conf next after later answers new last

parted :
    (conf : Config) (s : State) (ks : List Sunk) (steps : List Step) (replies : List Reply) (st : Step) (r : Reply)
    (later : List Step) (answers : List Reply) (new : State) (last : List Sunk)
    → length steps ≡ length replies → Run conf s ks (steps ++ st ∷ later) (replies ++ r ∷ answers) new last
    → Parted conf s ks steps replies st r later answers new last
unfolding Run
parted conf s ks [] [] st r later answers new last same run =
    record {
      left = s;
      before = ks;
      next = run.0;
      after = run.1;
      runs = (refl, refl);
      goes = run.2;
      rest = run.3;
    }
parted conf s ks [] (y ∷ ys) st r later answers new last same run = absurd (cc)
parted conf s ks (x ∷ xs) [] st r later answers new last same run = absurd (cc)
parted conf s ks (x ∷ xs) (y ∷ ys) st r later answers new last same run =
    let p = parted conf run.0 run.1 xs ys st r later answers new last (ap pred same) run.3 in
    record {
      left = p.left;
      before = p.before;
      next = p.next;
      after = p.after;
      runs = (run.0, run.1, run.2, p.runs);
      goes = p.goes;
      rest = p.rest;
    }

-- bytes that were put whole
gained_whole :
    (old new : Sunk) (count : ℕ) (whole : List ℕ) → Writes old new (Ok count) whole → Appends old.taken new.taken whole
gained_whole old new count whole writes =
    let all : take count whole ≡ whole = ap (λ m. take m whole) writes.complete ∙ take-length whole in
    subst (λ bytes. Appends old.taken new.taken bytes) all writes.bytes

module _ (conf : Config) (sinks : List Sunk) (steps : List Step) (replies : List Reply) (name : Bor (List ℕ))
    (n count : ℕ) (later : List Step) (answers : List Reply) (new : State) (last : List Sunk)
    (p : Parted conf (start conf) sinks steps replies (step.Write name n) (reply.Write (Ok count)) later answers new
    last)
    (w : WriteTo conf p.left p.before name.now n (Ok count) p.after) (still : p.next ≡ p.left) where
  wrote_by :
      (o : Option View) → view_in conf name.now ≡ o → WritesView (tables_of conf) p.left.past o w.old (Ok count) w.new
      → WroteView conf sinks steps replies name.now n later answers new last
  wrote_by None there h = absurd (cc)
  wrote_by (Some view) there h =
      record {
        left = p.left;
        before = p.before;
        runs = p.runs;
        view = view;
        named = there;
        old = w.old;
        there = w.there;
        wrote = w.new;
        bytes = stream_of (tables_of conf) view (world (tables_of conf) p.left.past.edits);
        gained =
            gained_whole w.old w.new count
            (stream_of (tables_of conf) view (world (tables_of conf) p.left.past.edits)) h.0;
        read = h.1;
        rest =
            subst (λ (t : State). Run conf t (slice_set p.before n w.new) later answers new last) still
            (subst (λ (ls : List Sunk). Run conf p.next ls later answers new last) w.result p.rest);
      }

pub written_read : WrittenIsRead
unfolding Steps
written_read conf sinks last steps later replies answers name n count new same run =
    let p : Parted conf (start conf) sinks steps replies (step.Write name n) (reply.Write (Ok count)) later answers new
    last =
    parted conf (start conf) sinks steps replies (step.Write name n) (reply.Write (Ok count)) later answers new last
    same run in
    wrote_by conf sinks steps replies name n count later answers new last p p.goes.0 p.goes.1
    (view_in conf name.now) refl p.goes.0.writes
