-- The steps of a run, one by one.
use Rattle.std.proofs.Common.{
  ◌≡◌,
  ℕ,
  ◌+◌,
  ◌<◌,
  Bor,
  Some,
  Result,
  List,
  [],
  ◌∷◌,
  ◌++◌,
  length,
  get_or,
  map,
  take,
  refl,
  ap,
  sym,
  subst,
  ◌∙◌,
  add-one,
}
use Rattle.std.specs.Prelude.{slice_get, slice_set}
use Rattle.std.specs.Option.{option_map}
use Rattle.std.proofs.Math.Seq.{take-suc}
use Rattle.std.proofs.lemmas.List.{map-set}
use Rattle.std.proofs.lemmas.Option.{slice_get-get_or, slice_get-map}
use Rattle.stream_writer.specs.Sinks.{Sunk}
use Rattle.view_lang.specs.Config.{Config}
use Rattle.session.specs.Bounds.{Does, EachDoes}
use Rattle.session.specs.Shows.{IsStep, IsWithin, SessionParts, config_of}
use Rattle.session.specs.Steps.{FinishStep, PushStep, Run, State, Steps, UndoTo, WriteStep, WriteTo}
use Rattle.session.specs.declared.calls.Fault.{Fault}
use Rattle.session.specs.declared.calls.Pushed.{Pushed}
use Rattle.session.specs.declared.calls.Reply.{Reply}
use Rattle.session.specs.declared.calls.Reply.TheVariants as reply
use Rattle.session.specs.declared.calls.Step.{Step}
use Rattle.session.specs.declared.calls.Step.TheVariants as step
use Rattle.session.specs.declared.calls.ViewFault.{ViewFault}

-- a step by its call
pub push_steps :
    (p q : SessionParts) (ks : List Sunk) (st : Step) (name piece : Bor (List ℕ)) (answer : Result Pushed Fault)
    → st ≡ step.Push name piece
    → IsStep p (λ s t. PushStep (config_of p) s name.now piece.now answer t) q
    → IsStep p (λ s t. Steps (config_of p) s ks st (reply.Push answer) t ks) q
unfolding Steps
push_steps p q ks st name piece answer is goes s shown =
    let made = goes s shown in (
      made.0,
      subst (λ (x : Step). Steps (config_of p) s ks x (reply.Push answer) made.0 ks) (sym is) (made.1, refl),
      made.2,
    )

pub finish_steps :
    (p q : SessionParts) (ks : List Sunk) (st : Step) (name : Bor (List ℕ)) (answer : Result (Unit {0}) Fault)
    → st ≡ step.Finish name
    → IsStep p (λ s t. FinishStep (config_of p) s name.now answer t) q
    → IsStep p (λ s t. Steps (config_of p) s ks st (reply.Finish answer) t ks) q
unfolding Steps
finish_steps p q ks st name answer is goes s shown =
    let made = goes s shown in (
      made.0,
      subst (λ (x : Step). Steps (config_of p) s ks x (reply.Finish answer) made.0 ks) (sym is) (made.1, refl),
      made.2,
    )

pub undo_steps :
    (p q : SessionParts) (ks : List Sunk) (st : Step) (answer : Result (Unit {0}) Fault) → st ≡ step.Undo
    → IsStep p (λ s t. UndoTo s answer t) q
    → IsStep p (λ s t. Steps (config_of p) s ks st (reply.Undo answer) t ks) q
unfolding Steps
undo_steps p q ks st answer is goes s shown =
    let made = goes s shown in (
      made.0,
      subst (λ (x : Step). Steps (config_of p) s ks x (reply.Undo answer) made.0 ks) (sym is) (made.1, refl),
      made.2,
    )

pub write_steps :
    {X : Type 0} (sunk : X → Sunk) (p q : SessionParts) (sinks : List X) (st : Step) (name : Bor (List ℕ)) (n : ℕ)
    (d new : X)
    (answer : Result ℕ ViewFault) → st ≡ step.Write name n → IsWithin (length sinks) st
    → IsStep p (λ s t. WriteStep (config_of p) s name.now (sunk (get_or sinks n d)) answer (sunk new) × (t ≡ s)) q
    → IsStep p
    (λ s t. Steps (config_of p) s (map sunk sinks) st (reply.Write answer) t (map sunk (slice_set sinks n new))) q
unfolding Steps
write_steps sunk p q sinks st name n d new answer is within goes s shown =
    let made = goes s shown in
    let below : n < length sinks = subst (IsWithin (length sinks)) is within in
    let old : Sunk = sunk (get_or sinks n d) in
    let there : slice_get (map sunk sinks) n ≡ Some old =
    slice_get-map sunk sinks n ∙ ap (option_map sunk) (slice_get-get_or sinks n d below) in
    let writes : WriteTo (config_of p) s (map sunk sinks) name.now n answer (map sunk (slice_set sinks n new)) =
    record { old = old; new = sunk new; there = there; writes = made.1.0; result = map-set sunk sinks n new } in (
      made.0,
      subst (λ (x : Step). Steps (config_of p) s (map sunk sinks) x (reply.Write answer) made.0
          (map sunk (slice_set sinks n new))) (sym is)
          (writes, made.1.1),
      made.2,
    )

run_one :
    (conf : Config) (s t : State) (ks ls : List Sunk) (st : Step) (r : Reply) → Steps conf s ks st r t ls
    → Run conf s ks (st ∷ []) (r ∷ []) t ls
unfolding Run
run_one conf s t ks ls st r h = (t, ls, h, (refl, refl))

-- a run goes on by one step
pub run_more :
    (conf : Config) (s t u : State) (ks ls ms : List Sunk) (steps : List Step) (replies : List Reply) (st : Step)
    (r : Reply)
    → Run conf s ks steps replies t ls → Steps conf t ls st r u ms
    → Run conf s ks (steps ++ st ∷ []) (replies ++ r ∷ []) u ms
unfolding Run
run_more conf s t u ks ls ms [] [] st r run h =
    let P : State → Type 0 = λ x. Steps conf x ls st r u ms in
    let Q : List Sunk → Type 0 = λ xs. Steps conf s xs st r u ms in
    run_one conf s u ks ms st r (subst Q run.1 (subst P run.0 h))
run_more conf s t u ks ls ms [] (x ∷ xs) st r run h = absurd run
run_more conf s t u ks ls ms (x ∷ xs) [] st r run h = absurd run
run_more conf s t u ks ls ms (x ∷ xs) (y ∷ ys) st r run h =
    (run.0, run.1, run.2, run_more conf run.0 t u run.1 ls ms xs ys st r run.3 h)

-- so does what each step does
each_more :
    (o p q : SessionParts) (ks ls ms : List Sunk) (steps : List Step) (replies : List Reply) (st : Step) (r : Reply)
    → EachDoes o ks steps replies p ls → Does p ls st r q ms
    → EachDoes o ks (steps ++ st ∷ []) (replies ++ r ∷ []) q ms
each_more o p q ks ls ms [] [] st r same h =
    let P : SessionParts → Type 0 = λ x. Does x ls st r q ms in
    let Q : List Sunk → Type 0 = λ xs. Does o xs st r q ms in
    (q, ms, subst Q same.1 (subst P same.0 h), (refl, refl))
each_more o p q ks ls ms [] (y ∷ ys) st r run h = absurd run
each_more o p q ks ls ms (x ∷ xs) [] st r run h = absurd run
each_more o p q ks ls ms (x ∷ xs) (y ∷ ys) st r run h =
    (run.0, run.1, run.2, each_more run.0 p q run.1 ls ms xs ys st r run.3 h)

pub each_next :
    (o p q : SessionParts) (ks ls ms : List Sunk) (steps : List Step) (i : ℕ) (d : Step) (before after : List Reply)
    (r : Reply)
    → EachDoes o ks (take i steps) before p ls → Does p ls (get_or steps i d) r q ms → i < length steps
    → after ≡ before ++ r ∷ [] → EachDoes o ks (take (i + 1) steps) after q ms
each_next o p q ks ls ms steps i d before after r so_far goes below more =
    let st : Step = get_or steps i d in
    let next : take (i + 1) steps ≡ take i steps ++ st ∷ [] =
    ap (λ n. take n steps) (add-one i) ∙ take-suc steps i d below in
    subst (λ xs. EachDoes o ks xs after q ms) (sym next)
    (subst (λ rs. EachDoes o ks (take i steps ++ st ∷ []) rs q ms) (sym more)
    (each_more o p q ks ls ms (take i steps) before st r so_far goes))

-- nothing was done
pub run_none : (p : SessionParts) (ks : List Sunk) → IsStep p (λ s t. Run (config_of p) s ks [] [] t ks) p
unfolding Run
run_none p ks s shown = (s, (refl, refl), shown)

-- a step more was done
pub run_next :
    (o p q : SessionParts) (ks ls ms : List Sunk) (steps : List Step) (i : ℕ) (d : Step) (before after : List Reply)
    (r : Reply)
    → IsStep o (λ s t. Run (config_of o) s ks (take i steps) before t ls) p
    → IsStep p (λ s t. Steps (config_of p) s ls (get_or steps i d) r t ms) q
    → config_of p ≡ config_of o → i < length steps → after ≡ before ++ r ∷ []
    → IsStep o (λ s t. Run (config_of o) s ks (take (i + 1) steps) after t ms) q
run_next o p q ks ls ms steps i d before after r so_far goes same below more s shown =
    let st : Step = get_or steps i d in
    let a = so_far s shown in
    let b = goes a.0 a.2 in
    let step : Steps (config_of o) a.0 ls st r b.0 ms =
    subst (λ (conf : Config). Steps conf a.0 ls st r b.0 ms) same b.1 in
    let next : take (i + 1) steps ≡ take i steps ++ st ∷ [] =
    ap (λ n. take n steps) (add-one i) ∙ take-suc steps i d below in
    let whole : Run (config_of o) s ks (take i steps ++ st ∷ []) (before ++ r ∷ []) b.0 ms =
    run_more (config_of o) s a.0 b.0 ks ls ms (take i steps) before st r a.1 step in
    let saturated : Run (config_of o) s ks (take i steps ++ st ∷ []) after b.0 ms =
    subst (λ (rs : List Reply). Run (config_of o) s ks (take i steps ++ st ∷ []) rs b.0 ms) (sym more) whole in
    (b.0, subst (λ (xs : List Step). Run (config_of o) s ks xs after b.0 ms) (sym next) saturated, b.2)
