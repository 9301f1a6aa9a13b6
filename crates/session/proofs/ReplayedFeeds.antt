-- The states of feeds while a run is replayed, and the causes that they answer.
use Rattle.std.proofs.Common.{◌≡◌, ◌⊎◌, inl, inr, ℕ, zero, suc, ◌<◌, Bool, true, false, Bor, Option, None, Some, Result, Ok, Err, List, [], ◌∷◌, ◌++◌, length, drop, refl, ap, sym, subst, ◌∙◌, arith, append-nil, append_assoc}
use Rattle.std.specs.Prelude.{◌==◌, slice_get, slice_set}
use Rattle.std.proofs.lemmas.Bool.{eqb-false, eqb-true}
use Rattle.std.proofs.lemmas.Option.{none-some, same_Some}
use Rattle.std.specs.Io.KnownBytes.{Appends}
use Rattle.values.specs.Reading.{FailsWith, IsValid, Reading}
use Rattle.values.specs.StreamCauses.{cause_of as cause_named}
use Rattle.values.specs.declared.causes.Cause.{Cause}
use Rattle.values.specs.declared.causes.Cause.TheVariants as cause
use Rattle.values.specs.declared.faults.StreamFault.{StreamFault}
use Rattle.values.specs.declared.faults.StreamFault.TheVariants as fault
use Rattle.stream_writer.specs.Sinks.{Sunk}
use Rattle.feed.specs.Retained.{stream_in}
use Rattle.feed.specs.Events.{Event as Message, Given}
use Rattle.feed.specs.Transcript.{transcript}
use Rattle.feed.specs.States.{
  FeedState,
  Finishes,
  Gives,
  after_finish,
  after_push,
  finishing_when,
  gives,
  is_broken,
  retained_in,
}
use Rattle.view_lang.specs.Config.{Config, Table, tables_of}
use Rattle.view_lang.specs.Edits.{Edit}
use Rattle.view_lang.specs.UnfitCauses.{named}
use Rattle.view_lang.specs.declared.config.Role.{Role}
use Rattle.view_lang.specs.declared.unfit.Unfit.{Unfit}
use Rattle.view_lang.specs.declared.unfit.Unfit.TheVariants as unfit
use Rattle.session.specs.Steps.{Channel, Past, State, edit_answer, end_answer, message_answer, moved, place_in, push_channel, push_past, undone, undone_by, unfit_in, view_in, with_feed}
use Rattle.session.specs.declared.calls.Event.{Event as Kind}
use Rattle.session.specs.declared.calls.Reply.{Reply}
use Rattle.session.specs.declared.calls.Step.{Step}
use Rattle.session.specs.Cuts.{Breaks, BreaksByPush, EndsWell, IfAnswered, IfHeard, IsDone, IsFault, IsOther, Left, Mark, MayBreak, Took, Unless, completes, is_unfit, is_unheard, left_after, marked, next_message, of_feed, of_undo, of_write, put_at, replay, role_at, used_of, written_by}
use Rattle.session.proofs.FedBytes.{FeedLaws, tells-none}

-- Causes of faults of streams

abbrev pub fault_named : Cause → StreamFault
fault_named cause.NoContinuation = fault.NoContinuation
fault_named cause.BadSize = fault.BadSize
fault_named cause.BadTable = fault.BadTable
fault_named cause.BadName = fault.BadName
fault_named cause.Version = fault.Version
fault_named cause.HeaderKind = fault.HeaderKind
fault_named cause.BodySize = fault.BodySize
fault_named cause.NoSchema = fault.NoSchema
fault_named cause.SecondSchema = fault.SecondSchema
fault_named cause.BigEndian = fault.BigEndian
fault_named cause.UnsupportedType = fault.UnsupportedType
fault_named cause.BadType = fault.BadType
fault_named cause.TooManyFields = fault.TooManyFields
fault_named cause.Compressed = fault.Compressed
fault_named cause.DictionaryClash = fault.DictionaryClash
fault_named cause.UnknownDictionary = fault.UnknownDictionary
fault_named cause.DictionaryTooLarge = fault.DictionaryTooLarge
fault_named cause.NodeCount = fault.NodeCount
fault_named cause.BufferCount = fault.BufferCount
fault_named cause.BadLength = fault.BadLength
fault_named cause.BufferRange = fault.BufferRange
fault_named cause.BufferShort = fault.BufferShort
fault_named cause.NullCount = fault.NullCount
fault_named cause.Offsets = fault.Offsets
fault_named cause.NotUtf8 = fault.NotUtf8
fault_named cause.DictionaryIndex = fault.DictionaryIndex
fault_named cause.DecimalRange = fault.DecimalRange
fault_named cause.SchemaMismatch = fault.SchemaMismatch
fault_named cause.AfterEnd = fault.AfterEnd
fault_named cause.Truncated = fault.Truncated
fault_named _ = fault.Memory

pub facts : (f : StreamFault) → (is_unfit (cause_named f) ≡ false) × (is_unheard (cause_named f) ≡ false) ×
    (fault_named (cause_named f) ≡ f)
facts fault.NoContinuation = (refl, refl, refl)
facts fault.BadSize = (refl, refl, refl)
facts fault.BadTable = (refl, refl, refl)
facts fault.BadName = (refl, refl, refl)
facts fault.Version = (refl, refl, refl)
facts fault.HeaderKind = (refl, refl, refl)
facts fault.BodySize = (refl, refl, refl)
facts fault.NoSchema = (refl, refl, refl)
facts fault.SecondSchema = (refl, refl, refl)
facts fault.BigEndian = (refl, refl, refl)
facts fault.UnsupportedType = (refl, refl, refl)
facts fault.BadType = (refl, refl, refl)
facts fault.TooManyFields = (refl, refl, refl)
facts fault.Compressed = (refl, refl, refl)
facts fault.DictionaryClash = (refl, refl, refl)
facts fault.UnknownDictionary = (refl, refl, refl)
facts fault.DictionaryTooLarge = (refl, refl, refl)
facts fault.NodeCount = (refl, refl, refl)
facts fault.BufferCount = (refl, refl, refl)
facts fault.BadLength = (refl, refl, refl)
facts fault.BufferRange = (refl, refl, refl)
facts fault.BufferShort = (refl, refl, refl)
facts fault.NullCount = (refl, refl, refl)
facts fault.Offsets = (refl, refl, refl)
facts fault.NotUtf8 = (refl, refl, refl)
facts fault.DictionaryIndex = (refl, refl, refl)
facts fault.DecimalRange = (refl, refl, refl)
facts fault.SchemaMismatch = (refl, refl, refl)
facts fault.AfterEnd = (refl, refl, refl)
facts fault.Truncated = (refl, refl, refl)
facts fault.Memory = (refl, refl, refl)

-- Lists and functions at a number

pub get-set : {X : Type 0} (xs : List X) (k : ℕ) (x y : X) → slice_get xs k ≡ Some y → slice_get
    (slice_set xs k x) k ≡ Some x
get-set [] k x y is = absurd (none-some y is)
get-set (z ∷ xs) zero x y is = refl
get-set (z ∷ xs) (suc k) x y is = get-set xs k x y is

pub get-other : {X : Type 0} (xs : List X) (k j : ℕ) (x : X) → (j ≡ k → ⊥) → slice_get
    (slice_set xs k x) j ≡ slice_get xs j
get-other [] k j x differ = refl
get-other (z ∷ xs) zero zero x differ = absurd (differ refl)
get-other (z ∷ xs) zero (suc j) x differ = refl
get-other (z ∷ xs) (suc k) zero x differ = refl
get-other (z ∷ xs) (suc k) (suc j) x differ = get-other xs k j x (λ e. differ (ap suc e))

pub set-same : {X : Type 0} (xs : List X) (k : ℕ) (x : X) → slice_get xs k ≡ Some x → slice_set xs k x ≡ xs
set-same [] k x is = refl
set-same (y ∷ xs) zero x is = ap (λ z. z ∷ xs) (sym (same_Some y x is))
set-same (y ∷ xs) (suc k) x is = ap (λ zs. y ∷ zs) (set-same xs k x is)

-- j is k, or not
pub same_by : (j k : ℕ) → (((j == k) ≡ true) × (j ≡ k)) ⊎ (((j == k) ≡ false) × (j ≡ k → ⊥))
same_by j k = by_bool (j == k) refl where
  by_bool : (b : Bool) → (j == k) ≡ b → (((j == k) ≡ true) × (j ≡ k)) ⊎ (((j == k) ≡ false) × (j ≡ k → ⊥))
  by_bool true e = inl (e, eqb-true j k e)
  by_bool false e = inr (e, eqb-false j k e)

pub put_at-same : {X : Type 0} (k : ℕ) (x : X) (f : ℕ → X) → put_at k x f k ≡ x
put_at-same k x f = elim (same_by k k) [
  | inl e ↦ rw e.0 refl
  | inr e ↦ absurd (e.1 refl)
]

pub put_at-other : {X : Type 0} (k j : ℕ) (x : X) (f : ℕ → X) → (j ≡ k → ⊥) → put_at k x f j ≡ f j
put_at-other k j x f differ = elim (same_by j k) [
  | inl e ↦ absurd (differ e.1)
  | inr e ↦ rw e.0 refl
]

-- known bytes at the front
pub appends-more : (a b c : Option (List ℕ)) (xs ys : List ℕ) → Appends a b xs → Appends b c ys → Appends a c (xs ++ ys)
appends-more None b c xs ys h g = tt
appends-more (Some us) None c xs ys h g = absurd h
appends-more (Some us) (Some bs) None xs ys h g = absurd g
appends-more (Some us) (Some bs) (Some cs) xs ys h g = g ∙ ap (λ zs. zs ++ ys) h ∙ append_assoc us xs ys

pub appends-none : (a : Option (List ℕ)) → Appends a a []
appends-none None = tt
appends-none (Some us) = sym (append-nil us)

-- the index of a feed by its name
abbrev pub place : Config → Bor (List ℕ) → ℕ
place conf name = place_in conf name.now

-- the state after a push to feed k, which was in this state
abbrev pub after_given : Config → State → ℕ → Channel → List ℕ → Result Given StreamFault → State
after_given conf s k c piece gave =
    moved s k (push_past (tables_of conf) c.role s.past gave) (push_channel c piece gave)

-- What may break a feed still may have broken it at first, if it isn't broken.
abbrev pub Heir : Reading FeedState → FeedState → List ℕ → Type 0
Heir end fed bytes = ((f : StreamFault) → MayBreak (transcript fed bytes).end f → MayBreak end f) ⊎
    (is_broken fed.condition ≡ true)

-- The state of a feed: it goes on, or it is broken with bytes remaining, or all its bytes were consumed without a
-- fault.
pub data Stand (end : Reading FeedState) (fed : FeedState) (bytes : List ℕ) : Type 0 where
  going : (transcript fed bytes).end ≡ end → Stand end fed bytes
  stuck : is_broken fed.condition ≡ true → 0 < length bytes → Stand end fed bytes
  over : (s : FeedState) → end ≡ Ok s → bytes ≡ [] → (is_broken fed.condition ≡ true) ⊎
      ((f : StreamFault) → MayBreak end f → ⊥) → Stand end fed bytes

-- the feeds are in states in which these messages are still to come, of what remains to be offered
abbrev pub Follows : (ℕ → Role) → (ℕ → Reading FeedState) → (ℕ → List Message) → (ℕ → List ℕ) → List Channel → Type 0
Follows roles ends messages streams channels =
    (k : ℕ) (c : Channel) → slice_get channels k ≡ Some c
    → (c.role ≡ roles k) × (messages k ≡ (transcript c.fed (streams k)).events) × Heir (ends k) c.fed (streams k)
    × Stand
    (ends k) c.fed (streams k)

-- where one feed goes on
pub follows-set :
    (roles : ℕ → Role) (ends : ℕ → Reading FeedState) (messages new : ℕ → List Message) (streams left : ℕ → List ℕ)
    (channels : List Channel) (k : ℕ) (c : Channel) (fed : FeedState)
    → Follows roles ends messages streams channels → slice_get channels k ≡ Some c
    → new k ≡ (transcript fed (left k)).events → Heir (ends k) fed (left k) → Stand (ends k) fed (left k)
    → ((j : ℕ) → (j ≡ k → ⊥) → new j ≡ messages j) → ((j : ℕ) → (j ≡ k → ⊥) → left j ≡ streams j)
    → Follows roles ends new left (slice_set channels k (with_feed c fed))
follows-set roles ends messages new streams left channels k c fed follows there at heir stand messages_stay
    streams_stay j d is = elim (same_by j k) [
      | inl e ↦ here e.1
      | inr e ↦ other e.1
    ] where
      here : j ≡ k → (d.role ≡ roles j) × (new j ≡ (transcript d.fed (left j)).events) × Heir (ends j) d.fed (left j)
          × Stand
          (ends j) d.fed (left j)
      here e =
          let found : with_feed c fed ≡ d = same_Some (with_feed c fed) d
          (sym (get-set channels k (with_feed c fed) c there) ∙ ap
          (λ i. slice_get (slice_set channels k (with_feed c fed)) i) (sym e) ∙ is) in
          subst (λ i. (d.role ≡ roles i) × (new i ≡ (transcript d.fed (left i)).events) × Heir (ends i) d.fed (left i)
          × Stand
          (ends i) d.fed (left i)) (sym e)
          (subst (λ x. (x.role ≡ roles k) × (new k ≡ (transcript x.fed (left k)).events) × Heir (ends k) x.fed (left k)
          × Stand
          (ends k) x.fed (left k)) found ((follows k c there).0, at, heir, stand))

      other : (j ≡ k → ⊥) → (d.role ≡ roles j) × (new j ≡ (transcript d.fed (left j)).events)
          × Heir (ends j) d.fed (left j)
          × Stand (ends j) d.fed (left j)
      other e =
          let found : slice_get channels j ≡ Some d = sym (get-other channels k j (with_feed c fed) e) ∙ is in
          let before = follows j d found in (
            before.0,
            messages_stay j e ∙ before.1 ∙ ap (λ bs. (transcript d.fed bs).events) (sym (streams_stay j e)),
            subst (λ bs. Heir (ends j) d.fed bs) (sym (streams_stay j e)) before.2,
            subst (λ bs. Stand (ends j) d.fed bs) (sym (streams_stay j e)) before.3,
          )

-- the same streams, number by number
pub follows-same :
    (roles : ℕ → Role) (ends : ℕ → Reading FeedState) (messages : ℕ → List Message) (streams left : ℕ → List ℕ)
    (channels : List Channel)
    → ((j : ℕ) → left j ≡ streams j) → Follows roles ends messages streams channels
    → Follows roles ends messages left channels
follows-same roles ends messages streams left channels same follows j d is = (
  (follows j d is).0,
  (follows j d is).1 ∙ ap (λ bs. (transcript d.fed bs).events) (sym (same j)),
  subst (λ bs. Heir (ends j) d.fed bs) (sym (same j)) (follows j d is).2,
  subst (λ bs. Stand (ends j) d.fed bs) (sym (same j)) (follows j d is).3,
)

-- where a step leads, as the replay has it
pub record Goes (conf : Config) (ends : ℕ → Reading FeedState) (st : Step) (re : Reply) (messages : ℕ → List Message)
    (streams bytes : ℕ → List ℕ) (before : List Sunk) (s t : State) (ls : List Sunk) : Type 0 where
  pub messages_left : ℕ → List Message
  pub bytes_left : ℕ → List ℕ
  pub same : (marks : List Mark) → replay conf (marked conf st re marks) messages
      (record { past = s.past; bytes = bytes })
      ≡ replay conf marks messages_left (record { past = t.past; bytes = bytes_left })
  pub now : (k : ℕ) (f : StreamFault) → Breaks conf k f st re → MayBreak (ends k) f
  pub well : (k : ℕ) → EndsWell conf k st re → (f : StreamFault) → MayBreak (ends k) f → ⊥
  pub pushes : (k : ℕ) (f : StreamFault) → BreaksByPush conf k f st re → FailsWith (ends k) f
  pub follows : Follows (role_at conf) ends messages_left (left_after conf streams st re) t.channels
  pub took : Took bytes_left before ls

pub some-length : (b : ℕ) (bs : List ℕ) → 0 < length (b ∷ bs)
some-length b bs = omega arith

pub none-there : (b : ℕ) (bs : List ℕ) → ◌≡◌ {A = List ℕ} [] (b ∷ bs) → ⊥
none-there b bs e = absurd (cc)

pub true-false : (b : Bool) → b ≡ true → b ≡ false → ⊥
true-false true x y = absurd (cc)
true-false false x y = absurd (cc)

pub broken-stream : (f : StreamFault) → cause.FeedBroken ≡ cause_named f → ⊥
broken-stream f e = true-false (is_unheard (cause_named f)) (ap is_unheard (sym e)) (facts f).1

pub unknown-stream : (f : StreamFault) → cause.UnknownFeed ≡ cause_named f → ⊥
unknown-stream f e = true-false (is_unheard (cause_named f)) (ap is_unheard (sym e)) (facts f).1

pub same-stream : (f g : StreamFault) → cause_named f ≡ cause_named g → f ≡ g
same-stream f g e = sym (facts f).2 ∙ ap fault_named e ∙ (facts g).2

pub unfit-told : (u : Unfit) → is_unfit (named u) ≡ true
unfit-told unfit.NullKey = refl
unfit-told unfit.DuplicateKey = refl
unfit-told unfit.UnknownKey = refl
unfit-told unfit.TooManyRows = refl
unfit-told unfit.CellTooHeavy = refl

pub unfit-heard : (u : Unfit) → is_unheard (named u) ≡ false
unfit-heard unfit.NullKey = refl
unfit-heard unfit.DuplicateKey = refl
unfit-heard unfit.UnknownKey = refl
unfit-heard unfit.TooManyRows = refl
unfit-heard unfit.CellTooHeavy = refl

pub unfit-stream : (u : Unfit) (f : StreamFault) → named u ≡ cause_named f → ⊥
unfit-stream u f e = true-false (is_unfit (cause_named f)) (ap is_unfit (sym e) ∙ unfit-told u) (facts f).0

pub heard-if : (x : Bool) (claim : Type 0) → x ≡ false → Unless x claim → claim
heard-if true claim e h = absurd (cc)
heard-if false claim e h = h

pub fault-heard : (f : StreamFault) (claim : Type 0) → IfHeard (cause_named f) claim → claim
fault-heard f claim h = heard-if (is_unheard (cause_named f)) claim (facts f).1 h

pub no-fault : (tables : List Table) (past : Past) (used : ℕ) (kind : Kind) (e : Option Edit) (f : StreamFault)
    → IsFault (message_answer tables past used kind e) f → ⊥
no-fault tables past used kind None f h = h
no-fault tables past used kind (Some e) f h = by_unfit (unfit_in tables past e) h where
  by_unfit : (o : Option Unfit) → IsFault (edit_answer used kind o) f → ⊥
  by_unfit None g = g
  by_unfit (Some u) g = unfit-stream u f g

pub faulty : (s : FeedState) (piece : List ℕ) (f : StreamFault) → IsOther (cause_named f) → Gives s piece (Err f) → FailsWith
    (gives s piece) f
unfolding Gives
faulty s piece fault.Memory ok may = absurd ok
faulty s piece _ ok may = may

pub breaks : (s : FeedState) (piece : List ℕ) (f : StreamFault) → IsOther (cause_named f) → is_broken
    (after_push s piece (Err f)).condition ≡ true
unfolding after_push
breaks s piece fault.Memory ok = absurd ok
breaks s piece _ ok = refl

pub from-heir : (end : Reading FeedState) (fed : FeedState) (bytes : List ℕ) → is_broken fed.condition ≡ false
    → Heir end fed bytes
    → (f : StreamFault) → MayBreak (transcript fed bytes).end f → MayBreak end f
from-heir end fed bytes whole (inl h) = h
from-heir end fed bytes whole (inr broken) = absurd (true-false (is_broken fed.condition) broken whole)

pub finish-fault : (fed : FeedState) (gave : Result (Unit {0}) StreamFault) (f : StreamFault) → Finishes fed gave → IsFault
    (end_answer gave) f → Finishes fed (Err f)
finish-fault fed (Ok u) f may h = absurd h
finish-fault fed (Err g) f may h = subst (λ x. Finishes fed (Err x)) (same-stream g f h) may

pub finish-heir : (laws : FeedLaws) (end : Reading FeedState) (fed : FeedState) (gave : Result (Unit {0}) StreamFault)
    → Heir end (after_finish fed gave) []
unfolding after_finish Finishes
finish-heir laws end fed (Ok u) =
    inl (λ f m. absurd (subst (λ x. MayBreak x.end f) (tells-none laws (after_finish fed (Ok u))) m))
finish-heir laws end fed (Err g) = inr refl

pub over-end : (laws : FeedLaws) (end : Reading FeedState) (fed : FeedState) (bytes : List ℕ) → bytes ≡ [] →
    (transcript fed bytes).end ≡ end → end ≡ Ok fed
over-end laws end fed bytes none e = sym e ∙ ap (λ ys. (transcript fed ys).end) none ∙ ap (λ x. x.end)
    (tells-none laws fed)

pub valid-stands : {X : Type 0} (m : Reading X) (f : StreamFault) → IsValid m → FailsWith m f → ⊥
valid-stands (Ok x) f good stands = stands
valid-stands (Err fs) f good stands = good

pub finish-well : (laws : FeedLaws) (end : Reading FeedState) (fed : FeedState) (gave : Result (Unit {0}) StreamFault)
    (bytes : List ℕ)
    → is_broken fed.condition ≡ false → bytes ≡ [] → Finishes fed gave → Stand end fed bytes → IsDone (end_answer gave)
    → (f : StreamFault) → MayBreak end f → ⊥
unfolding Finishes
finish-well laws end fed (Ok u) bytes whole none may (going e) done f m =
    valid-stands (finishing_when fed.condition (stream_in (retained_in fed))) f may
    (subst (λ x. MayBreak x f) (over-end laws end fed bytes none e) m)
finish-well laws end fed (Ok u) bytes whole none may (stuck broken some) done f m = true-false
    (is_broken fed.condition) broken whole
finish-well laws end fed (Ok u) bytes whole none may (over d e n (inl broken)) done f m = true-false
    (is_broken fed.condition) broken whole
finish-well laws end fed (Ok u) bytes whole none may (over d e n (inr h)) done f m = h f m
finish-well laws end fed (Err g) bytes whole none may stand done f m = done

pub finish-breaks : (fed : FeedState) (g : StreamFault) → is_broken (after_finish fed (Err g)).condition ≡ true
unfolding after_finish
finish-breaks fed g = refl

pub finish-stand : (laws : FeedLaws) (end : Reading FeedState) (fed : FeedState) (gave : Result (Unit {0}) StreamFault)
    (bytes : List ℕ)
    → is_broken fed.condition ≡ false → bytes ≡ [] → Finishes fed gave → Stand end fed bytes → Stand end
    (after_finish fed gave) bytes
finish-stand laws end fed (Ok u) bytes whole none may (going e) =
    over fed (over-end laws end fed bytes none e) none
    (inr (finish-well laws end fed (Ok u) bytes whole none may (going e) tt))
finish-stand laws end fed (Err g) bytes whole none may (going e) = over fed (over-end laws end fed bytes none e) none
    (inl (finish-breaks fed g))
finish-stand laws end fed gave bytes whole none may (stuck broken some) = absurd
    (true-false (is_broken fed.condition) broken whole)
finish-stand laws end fed gave bytes whole none may (over d e n (inl broken)) = absurd
    (true-false (is_broken fed.condition) broken whole)
finish-stand laws end fed gave bytes whole none may (over d e n (inr h)) = over d e n (inr h)

pub put_at-nothing : (k : ℕ) (used : ℕ) (streams : ℕ → List ℕ) → used ≡ 0 → (j : ℕ) → put_at k
    (drop used (streams k)) streams j ≡ streams j
put_at-nothing k used streams none j = elim (same_by j k) [
  | inl e ↦ ap (λ i. put_at k (drop used (streams k)) streams i) e.1 ∙ put_at-same k (drop used (streams k)) streams
      ∙ ap (λ u. drop u (streams k)) none ∙ ap streams (sym e.1)
  | inr e ↦ put_at-other k j (drop used (streams k)) streams e.1
]

pub event-completes : (tables : List Table) (past : Past) (used : ℕ) (kind : Kind) (e : Option Edit)
    → (completes (message_answer tables past used kind e) ≡ true) ×
    (used_of (message_answer tables past used kind e) ≡ used)
event-completes tables past used kind None = (refl, refl)
event-completes tables past used kind (Some e) = by_unfit (unfit_in tables past e) where
  by_unfit : (o : Option Unfit) → (completes (edit_answer used kind o) ≡ true)
      × (used_of (edit_answer used kind o) ≡ used)
  by_unfit None = (refl, refl)
  by_unfit (Some u) = (unfit-told u, refl)

pub replay-feed : (conf : Config) (k : ℕ) (marks : List Mark) (messages : ℕ → List Message) (left : Left)
    → replay conf (of_feed k ∷ marks) messages left ≡ next_message (replay conf marks) conf k (messages k) messages left
unfolding replay
replay-feed conf k marks messages left = refl

pub replay-undo : (conf : Config) (marks : List Mark) (messages : ℕ → List Message) (left : Left)
    → replay conf (of_undo ∷ marks) messages left ≡ replay conf marks messages
    (record { past = undone left.past; bytes = left.bytes })
unfolding replay
replay-undo conf marks messages left = refl

pub replay-write : (conf : Config) (name : List ℕ) (n : ℕ) (marks : List Mark) (messages : ℕ → List Message) (left : Left)
    → replay conf (of_write name n ∷ marks) messages left ≡ replay conf marks messages
    (written_by conf (view_in conf name) n left)
unfolding replay
replay-write conf name n marks messages left = refl

pub undo-nothing : (past : Past) → past.depth ≡ 0 → undone past ≡ past
unfolding undone
undo-nothing past none = ap (λ d. undone_by d past) none

-- a completed message was offered to a feed that accepts bytes
pub event-heard : (tables : List Table) (past : Past) (used : ℕ) (kind : Kind) (e : Option Edit) (claim : Type 0)
    → IfAnswered (message_answer tables past used kind e) claim → claim
event-heard tables past used kind None claim h = h
event-heard tables past used kind (Some e) claim h = by_unfit (unfit_in tables past e) h where
  by_unfit : (o : Option Unfit) → IfAnswered (edit_answer used kind o) claim → claim
  by_unfit None g = g
  by_unfit (Some u) g = heard-if (is_unheard (named u)) claim (unfit-heard u) g
