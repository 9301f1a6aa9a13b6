-- What a refused push leaves.
use Rattle.std.proofs.Common.{
  ◌≡◌,
  ℕ,
  zero,
  suc,
  Bool,
  true,
  false,
  Option,
  None,
  Some,
  Result,
  Ok,
  Err,
  List,
  [],
  ◌∷◌,
  refl,
  ap,
  sym,
  ◌∙◌,
}
use Rattle.std.specs.Prelude.{slice_get, slice_set}
use Rattle.values.specs.StreamCauses.{cause_of as cause_named}
use Rattle.values.specs.declared.causes.Cause.TheVariants as cause
use Rattle.values.specs.declared.faults.StreamFault.{StreamFault}
use Rattle.values.specs.declared.faults.StreamFault.TheVariants as fault
use Rattle.feed.specs.Events.{Event as Message, Given}
use Rattle.feed.specs.States.{after_push, is_broken}
use Rattle.view_lang.specs.Config.{Table, tables_of}
use Rattle.view_lang.specs.Edits.{Edit}
use Rattle.view_lang.specs.UnfitCauses.{named}
use Rattle.view_lang.specs.declared.config.Role.{Role}
use Rattle.view_lang.specs.declared.unfit.Unfit.{Unfit}
use Rattle.view_lang.specs.declared.unfit.Unfit.TheVariants as unfit
use Rattle.session.specs.Laws.{MemoryChangesNothing, OthersStay, RefusalsKeepEdits}
use Rattle.session.specs.Refusals.{refused}
use Rattle.session.specs.Steps.{
  Channel,
  Past,
  PushBy,
  PushTo,
  State,
  edit_answer,
  edit_in,
  edited,
  given_answer,
  given_past,
  kind_of,
  message_answer,
  message_past,
  moved,
  place_in,
  push_answer,
  push_channel,
  push_past,
  unfit_in,
}
use Rattle.session.specs.declared.calls.Event.{Event}
use Rattle.session.specs.declared.calls.Fault.{Fault}
use Rattle.session.specs.declared.calls.Pushed.{Pushed}

-- an edit that is refused isn't applied
edit_refused : (past : Past) (used : ℕ) (kind : Event) (e : Edit) (o : Option Unfit) (f : Fault)
    → Err f ≡ edit_answer used kind o → edited past e o ≡ past
edit_refused past used kind e None f h = absurd (cc)
edit_refused past used kind e (Some u) f h = refl

message_refused :
    (tables : List Table) (past : Past) (used : ℕ) (kind : Event) (o : Option Edit) (f : Fault)
    → Err f ≡ message_answer tables past used kind o
    → message_past tables past o ≡ past
message_refused tables past used kind None f h = absurd (cc)
message_refused tables past used kind (Some e) f h = edit_refused past used kind e (unfit_in tables past e) f h

given_refused :
    (tables : List Table) (role : Role) (past : Past) (used : ℕ) (o : Option Message) (f : Fault)
    → Err f ≡ given_answer tables role past used o
    → given_past tables role past o ≡ past
given_refused tables role past used None f h = absurd (cc)
given_refused tables role past used (Some m) f h = message_refused tables past used (kind_of m) (edit_in role m) f h

gave_refused :
    (tables : List Table) (role : Role) (past : Past) (gave : Result Given StreamFault) (f : Fault)
    → Err f ≡ push_answer tables role past gave
    → push_past tables role past gave ≡ past
gave_refused tables role past (Ok g) f h = given_refused tables role past g.used g.event f h
gave_refused tables role past (Err e) f h = refl

push_refused :
    (tables : List Table) (past after : Past) (c d : Channel) (b : Bool) (piece : List ℕ) (f : Fault)
    → PushBy tables past c b piece (Err f) after d
    → after ≡ past
push_refused tables past after c d true piece f h = h.1
push_refused tables past after c d false [] f h = absurd (cc (h.0))
push_refused tables past after c d false (x ∷ xs) f h = h.edits ∙ gave_refused tables c.role past h.gave f h.answers

to_refused : (tables : List Table) (s t : State) (k : ℕ) (o : Option Channel) (piece : List ℕ) (f : Fault)
    → PushTo tables s k o piece (Err f) t → t.past ≡ s.past
to_refused tables s t k None piece f h = ap (λ (x : State). x.past) h.1
to_refused tables s t k (Some c) piece f h =
    ap (λ (x : State). x.past) h.leads
    ∙ push_refused tables s.past h.past c h.channel (is_broken c.fed.condition) piece f h.pushes

pub refusals_keep_edits : RefusalsKeepEdits
refusals_keep_edits conf s t name piece f h =
    to_refused (tables_of conf) s t (place_in conf name) (slice_get s.channels (place_in conf name)) piece f h

-- want of memory
lacks_memory : (e : StreamFault) → cause_named e ≡ cause.Memory → e ≡ fault.Memory
lacks_memory fault.Memory h = refl
lacks_memory fault.NoContinuation h = absurd (cc)
lacks_memory fault.BadSize h = absurd (cc)
lacks_memory fault.BadTable h = absurd (cc)
lacks_memory fault.BadName h = absurd (cc)
lacks_memory fault.Version h = absurd (cc)
lacks_memory fault.HeaderKind h = absurd (cc)
lacks_memory fault.BodySize h = absurd (cc)
lacks_memory fault.NoSchema h = absurd (cc)
lacks_memory fault.SecondSchema h = absurd (cc)
lacks_memory fault.BigEndian h = absurd (cc)
lacks_memory fault.UnsupportedType h = absurd (cc)
lacks_memory fault.BadType h = absurd (cc)
lacks_memory fault.TooManyFields h = absurd (cc)
lacks_memory fault.Compressed h = absurd (cc)
lacks_memory fault.DictionaryClash h = absurd (cc)
lacks_memory fault.UnknownDictionary h = absurd (cc)
lacks_memory fault.DictionaryTooLarge h = absurd (cc)
lacks_memory fault.NodeCount h = absurd (cc)
lacks_memory fault.BufferCount h = absurd (cc)
lacks_memory fault.BadLength h = absurd (cc)
lacks_memory fault.BufferRange h = absurd (cc)
lacks_memory fault.BufferShort h = absurd (cc)
lacks_memory fault.NullCount h = absurd (cc)
lacks_memory fault.Offsets h = absurd (cc)
lacks_memory fault.NotUtf8 h = absurd (cc)
lacks_memory fault.DictionaryIndex h = absurd (cc)
lacks_memory fault.DecimalRange h = absurd (cc)
lacks_memory fault.SchemaMismatch h = absurd (cc)
lacks_memory fault.AfterEnd h = absurd (cc)
lacks_memory fault.Truncated h = absurd (cc)

unfit_is_told : (u : Unfit) → named u ≡ cause.Memory → ⊥
unfit_is_told unfit.NullKey h = cc
unfit_is_told unfit.DuplicateKey h = cc
unfit_is_told unfit.UnknownKey h = cc
unfit_is_told unfit.TooManyRows h = cc
unfit_is_told unfit.CellTooHeavy h = cc

judged_by_memory : (used : ℕ) (kind : Event) (o : Option Unfit) (f : Fault) → Err f ≡ edit_answer used kind o
    → f.cause ≡ cause.Memory → ⊥
judged_by_memory used kind None f h m = cc
judged_by_memory used kind (Some u) f h m =
    let same : f ≡ record { cause = named u; used = used } = cc in
    unfit_is_told u (sym (ap (λ (x : Fault). x.cause) same) ∙ m)

message_by_memory :
    (tables : List Table) (past : Past) (used : ℕ) (kind : Event) (o : Option Edit) (f : Fault)
    → Err f ≡ message_answer tables past used kind o
    → f.cause ≡ cause.Memory → ⊥
message_by_memory tables past used kind None f h m = cc
message_by_memory tables past used kind (Some e) f h m = judged_by_memory used kind (unfit_in tables past e) f h m

given_by_memory :
    (tables : List Table) (role : Role) (past : Past) (used : ℕ) (o : Option Message) (f : Fault)
    → Err f ≡ given_answer tables role past used o
    → f.cause ≡ cause.Memory → ⊥
given_by_memory tables role past used None f h m = cc
given_by_memory tables role past used (Some x) f h m = message_by_memory tables past used (kind_of x) (edit_in role x)
    f h m

gave_by_memory :
    (tables : List Table) (past : Past) (c : Channel) (piece : List ℕ) (gave : Result Given StreamFault) (f : Fault)
    → Err f ≡ push_answer tables c.role past gave → f.cause ≡ cause.Memory → push_channel c piece gave ≡ c
unfolding after_push
gave_by_memory tables past c piece (Ok g) f h m = absurd (given_by_memory tables c.role past g.used g.event f h m)
gave_by_memory tables past c piece (Err e) f h m =
    let same : f ≡ refused (cause_named e) = cc in
    let is : e ≡ fault.Memory = lacks_memory e (sym (ap (λ (x : Fault). x.cause) same) ∙ m) in
    ap (λ (x : StreamFault). push_channel c piece (Err x)) is

push_by_memory :
    (tables : List Table) (past after : Past) (c d : Channel) (b : Bool) (piece : List ℕ) (f : Fault)
    → PushBy tables past c b piece (Err f) after d
    → f.cause ≡ cause.Memory → d ≡ c
push_by_memory tables past after c d true piece f h m = h.2
push_by_memory tables past after c d false [] f h m = absurd (cc (h.0))
push_by_memory tables past after c d false (x ∷ xs) f h m =
    h.stream ∙ gave_by_memory tables past c (x ∷ xs) h.gave f h.answers m

set_same : {X : Type 0} (xs : List X) (k : ℕ) (x : X) → slice_get xs k ≡ Some x → slice_set xs k x ≡ xs
set_same [] k x h = absurd (cc)
set_same (y ∷ ys) zero x h = let same : y ≡ x = cc in ap (λ z. z ∷ ys) (sym same)
set_same (y ∷ ys) (suc k) x h = ap (λ zs. y ∷ zs) (set_same ys k x h)

to_by_memory :
    (tables : List Table) (s t : State) (k : ℕ) (o : Option Channel) (piece : List ℕ) (f : Fault) → slice_get
    s.channels k ≡ o
    → PushTo tables s k o piece (Err f) t → f.cause ≡ cause.Memory → t ≡ s
to_by_memory tables s t k None piece f at h m = h.1
to_by_memory tables s t k (Some c) piece f at h m =
    let past : h.past ≡ s.past =
    push_refused tables s.past h.past c h.channel (is_broken c.fed.condition) piece f h.pushes in
    let channel : h.channel ≡ c =
    push_by_memory tables s.past h.past c h.channel (is_broken c.fed.condition) piece f h.pushes m in
    h.leads ∙ ap (λ (p : Past). moved s k p h.channel) past ∙ ap (λ (d : Channel). moved s k s.past d) channel
    ∙ ap (λ (cs : List Channel). record { past = s.past; channels = cs }) (set_same s.channels k c at)

pub memory_changes_nothing : MemoryChangesNothing
memory_changes_nothing conf s t name piece f h m =
    to_by_memory (tables_of conf) s t (place_in conf name) (slice_get s.channels (place_in conf name)) piece f refl h m

-- the other feeds
set_other : {X : Type 0} (xs : List X) (k j : ℕ) (x : X) → (j ≡ k → ⊥) → slice_get (slice_set xs k x) j ≡ slice_get xs j
set_other [] k j x differ = refl
set_other (z ∷ xs) zero zero x differ = absurd (differ refl)
set_other (z ∷ xs) zero (suc j) x differ = refl
set_other (z ∷ xs) (suc k) zero x differ = refl
set_other (z ∷ xs) (suc k) (suc j) x differ = set_other xs k j x (λ e. differ (ap suc e))

to_others :
    (tables : List Table) (s t : State) (k j : ℕ) (o : Option Channel) (piece : List ℕ) (answer : Result Pushed Fault)
    → PushTo tables s k o piece answer t
    → (j ≡ k → ⊥) → slice_get t.channels j ≡ slice_get s.channels j
to_others tables s t k j None piece answer h differ = ap (λ (x : State). slice_get x.channels j) h.1
to_others tables s t k j (Some c) piece answer h differ =
    ap (λ (x : State). slice_get x.channels j) h.leads ∙ set_other s.channels k j h.channel differ

pub others_stay : OthersStay
others_stay conf s t name piece answer k h differ =
    to_others (tables_of conf) s t (place_in conf name) k (slice_get s.channels (place_in conf name)) piece answer h
    differ

pub ruleset refusing = (refusals_keep_edits, memory_changes_nothing, others_stay)
