-- The beginning and the end of a stream's input.
use Rattle.std.proofs.Common.{
  ◌≡◌,
  inl,
  inr,
  ℕ,
  ◌-◌,
  ◌<◌,
  ◌≤◌,
  IfErr,
  IfOk,
  OnOk,
  Bool,
  true,
  false,
  Option,
  None,
  Result,
  Ok,
  Err,
  List,
  [],
  ◌∷◌,
  ◌++◌,
  length,
  take,
  drop,
  refl,
  ap,
  sym,
  subst,
  ◌∙◌,
  arith,
  append_assoc,
  append-nil,
  length-drop,
}
use Rattle.std.specs.Prelude.{if◌then◌else◌, ◌==◌}
use Rattle.std.proofs.lemmas.List.{take_all}
use Rattle.std.proofs.lemmas.Bool.{eqb-true}
use Rattle.values.specs.Datum.{Datum}
use Rattle.values.specs.Reading.{FailsWith, Reading, one}
use Rattle.values.specs.StreamCauses.{cause_of}
use Rattle.values.specs.declared.faults.StreamFault.{StreamFault}
use Rattle.values.specs.declared.faults.StreamFault.TheVariants as fault
use Rattle.values.specs.declared.causes.Cause.{Cause}
use Rattle.schema_meta.specs.Means.{Means}
use Rattle.schema_meta.specs.Story.{Story, after_rows, at_input_end, ends, story_of}
use Rattle.messages.specs.Laws.{NothingYet}
use Rattle.feed.specs.declared.condition.Condition.TheVariants as condition
use Rattle.feed.specs.Events.{given}
use Rattle.feed.specs.Retained.{Retained, stream_in}
use Rattle.feed.specs.Shown.{FeedParts, Shows}
use Rattle.feed.specs.States.{FeedState, Finishes, after_finish, after_push, finishing_when, fresh, gives, retained_in}
use Rattle.feed.specs.StoryLaw.{AllIsReported, IsBetween, PartialIsHeld, PartialReports, rest_story}
use Rattle.liveviews.specs.Buffered.{buffered_rows}
use Rattle.liveviews.specs.Source.{OfSource}
use Rattle.liveviews.specs.declared.recasting.table.Table.{Table}
use Rattle.liveviews.specs.declared.recasting.buffered_batches.BufferedBatches.{BufferedBatches}
use Rattle.liveviews.specs.Steps.{AreConsumedSo, GoesOn, HasConsumed, HasConsumedAll, IsComplete, IsRead, Reached, Refuses}
use Rattle.liveviews.proofs.Accounts.{after-shows, finish-fault, finish-valid}
use Rattle.liveviews.proofs.BufferedLemmas.{kept-so-none}
use Rattle.liveviews.proofs.Stories.{after-none, between-goes, stands-refuses}
use Rattle.liveviews.proofs.Tables.{fresh-between, nothing-tells, taken-none}

-- where reading begins
pub begins :
    (none : NothingYet) (law : AllIsReported) (f : FeedParts) (t : BufferedBatches) → Shows f (fresh None)
    → buffered_rows t ≡ [] → t.batches.items ≡ [] → (input : List ℕ) → HasConsumed (story_of input) f t input
begins none law f t shows no-rows no-batches input =
    let s : Story = story_of input in
    let P : List (List Datum) → Type 0 = λ rows. Reached s f rows input in (
      subst P (sym no-rows)
          (inl (between-goes none s [] f input (fresh None) fresh-between shows (taken-none s.schema) (law input))),
      kept-so-none s.schema t no-batches,
    )

-- A whole input is a piece after which nothing comes.
pub taken-whole : (s : Story) (f : FeedParts) (t : BufferedBatches) (input : List ℕ) → HasConsumed s f t input
    → HasConsumed s f t (input ++ [])
taken-whole s f t input h = subst (HasConsumed s f t) (sym (append-nil input)) h

-- the rest of a piece, as the code has it
pub taken-rest : (s : Story) (f : FeedParts) (t : BufferedBatches) (bytes later : List ℕ) (n : ℕ)
    → HasConsumed s f t (drop n bytes ++ later)
    → HasConsumed s f t (take (length bytes - n) (drop n bytes) ++ later)
taken-rest s f t bytes later n h =
    let size : length (drop n bytes) ≡ length bytes - n = length-drop n bytes in
    let whole : take (length bytes - n) (drop n bytes) ≡ drop n bytes =
    take_all (length bytes - n) (drop n bytes) (omega (arith, size)) in
    subst (λ (xs : List ℕ). HasConsumed s f t (xs ++ later)) (sym whole) h

pub no-bytes : (bytes : List ℕ) → length bytes ≤ 0 → bytes ≡ []
no-bytes [] none = refl
no-bytes (b ∷ bs) none = absurd (omega (arith, none))

-- Nothing remains of a piece.
pub taken-all : (s : Story) (f : FeedParts) (t : BufferedBatches) (bytes later : List ℕ) → length bytes ≤ 0
    → HasConsumed s f t (bytes ++ later) → HasConsumed s f t later
taken-all s f t bytes later none h =
    subst (λ (xs : List ℕ). HasConsumed s f t (xs ++ later)) (no-bytes bytes none) h

-- the same of bytes that are read from a source
pub source-more :
    (f new : FeedParts) (t after : BufferedBatches) (piece : List ℕ)
    → ((s : Story) (later : List ℕ) → HasConsumed s f t (piece ++ later) → HasConsumed s new after later) → (bytes : List ℕ)
    → ((later : List ℕ) → HasConsumed (story_of (bytes ++ later)) f t later) → (later : List ℕ)
    → HasConsumed (story_of ((bytes ++ piece) ++ later)) new after later
source-more f new t after piece goes bytes taken later =
    goes (story_of ((bytes ++ piece) ++ later)) later
    (subst (λ (xs : List ℕ). HasConsumed (story_of xs) f t (piece ++ later)) (sym (append_assoc bytes piece later))
    (taken (piece ++ later)))

pub source-fault :
    (f new : FeedParts) (t after : BufferedBatches) (piece : List ℕ) (c : Cause)
    → ((s : Story) (later : List ℕ) → HasConsumed s f t (piece ++ later) → Refuses s c) → (bytes later : List ℕ)
    → ((later : List ℕ) → HasConsumed (story_of (bytes ++ later)) f t later)
    → HasConsumedAll new after (Err c) ((bytes ++ piece) ++ later)
source-fault f new t after piece c stops bytes later taken =
    stops (story_of ((bytes ++ piece) ++ later)) later
    (subst (λ (xs : List ℕ). HasConsumed (story_of xs) f t (piece ++ later)) (sym (append_assoc bytes piece later))
    (taken (piece ++ later)))

pub source-all :
    (f : FeedParts) (t : BufferedBatches) (u : Unit {0}) (bytes : List ℕ)
    → ((later : List ℕ) → HasConsumed (story_of (bytes ++ later)) f t later) → HasConsumedAll f t (Ok u) bytes
source-all f t u bytes taken =
    subst (λ (xs : List ℕ). HasConsumed (story_of xs) f t []) (append-nil bytes) (taken [])

-- Where a message is begun and not ended, the input may not end.
held-test : (n : ℕ) (t : Bool) (m : Reading (Unit {0})) → 0 < n → (n == 0) ≡ t
    → (if t then m else Err (one fault.Truncated)) ≡ Err (one fault.Truncated)
held-test n false m some is = refl
held-test n true m some is = let none : n ≡ 0 = eqb-true n 0 is in absurd (omega (arith, none, some))

finish-held :
    (k : Retained) (held : List ℕ) → 0 < length held → k.held ≡ held
    → finishing_when condition.Opened (stream_in k) ≡ Err (one fault.Truncated)
finish-held k held some is =
    let more : 0 < length k.held = let same : length k.held ≡ length held = ap length is in omega (arith, same, some) in
    held-test (length k.held) (length k.held == 0) (at_input_end k.known.schema) more refl

finish-between : (k : Retained) → k.held ≡ []
    → finishing_when condition.Opened (stream_in k) ≡ at_input_end k.known.schema
finish-between k is =
    ap (λ (held : List ℕ). if length held == 0 then at_input_end k.known.schema else Err (one fault.Truncated)) is

-- how a stream ends where its input ends here
record EndsHere (k : Retained) (held : List ℕ) (t : FeedState) : Type 0 where
  end : (rest_story k held).end ≡ finishing_when t.condition (stream_in (retained_in t))
  valid :
      (u : Unit {0}) → finishing_when t.condition (stream_in (retained_in t)) ≡ Ok u
      → rest_story k held ≡ ends (retained_in t).known (at_input_end (retained_in t).known.schema)

ends-between : (t : FeedState) → IsBetween t → EndsHere (retained_in t) [] t
ends-between t b =
    let k : Retained = retained_in t in
    let told : rest_story k [] ≡ ends k.known (at_input_end k.known.schema) = nothing-tells k [] (omega arith) in
    record {
      end = ap (λ x. x.end) told
          ∙ sym (ap (λ c. finishing_when c (stream_in k)) b.goes_on ∙ finish-between k b.none_held);
      valid = λ u is. told;
    }

ends-within :
    (tells : PartialReports) (keeps : PartialIsHeld) (t : FeedState) (held : List ℕ) → 0 < length held → IsBetween t
    → gives t held ≡ Ok (given (length held) None)
    → EndsHere (retained_in t) held (after_push t held (Ok (given (length held) None)))
ends-within tells keeps t held some b begun =
    let next : FeedState = after_push t held (Ok (given (length held) None)) in
    let told : rest_story (retained_in t) held ≡ ends (retained_in t).known (Err (one fault.Truncated)) =
    tells t held (length held) b some begun in
    let here : (retained_in next).held ≡ held =
    keeps t held (length held) b.goes_on begun ∙ ap (λ xs. xs ++ held) b.none_held in
    let goes : next.condition ≡ condition.Opened = after-shows t held (given (length held) None) ∙ b.goes_on in
    let ending : finishing_when next.condition (stream_in (retained_in next)) ≡ Err (one fault.Truncated) =
    ap (λ c. finishing_when c (stream_in (retained_in next))) goes ∙ finish-held (retained_in next) held some here in
    record {
      end = ap (λ x. x.end) told ∙ sym ending;
      valid = λ u is. let both : Err (one fault.Truncated) ≡ Ok u = sym ending ∙ is in absurd (cc);
    }

ends-so :
    (tells : PartialReports) (keeps : PartialIsHeld) (t : FeedState) (held : List ℕ) → IsBetween t
    → gives t held ≡ Ok (given (length held) None)
    → EndsHere (retained_in t) held (after_push t held (Ok (given (length held) None)))
ends-so tells keeps t [] b begun = subst (EndsHere (retained_in t) []) (sym (after-none t)) (ends-between t b)
ends-so tells keeps t (x ∷ xs) b begun = ends-within tells keeps t (x ∷ xs) (omega arith) b begun

-- how the input ends of a feed that goes on
goes-ends :
    (tells : PartialReports) (keeps : PartialIsHeld) (s : Story) (f : FeedParts) (rows : List (List Datum))
    → (g : GoesOn s f rows [])
    → EndsHere (retained_in g.state) (g.held ++ []) (after_push g.state g.held (Ok (given (length g.held) None)))
goes-ends tells keeps s f rows g =
    let next : FeedState = after_push g.state g.held (Ok (given (length g.held) None)) in
    subst (λ (xs : List ℕ). EndsHere (retained_in g.state) xs next) (sym (append-nil g.held))
    (ends-so tells keeps g.state g.held g.between g.begun)

reached-refused :
    (tells : PartialReports) (keeps : PartialIsHeld) (s : Story) (f : FeedParts) (rows : List (List Datum))
    (c : StreamFault) → ((t : FeedState) → Shows f t → Finishes t (Err c)) → Reached s f rows [] → FailsWith s.end c
reached-refused tells keeps s f rows c answer (inl g) =
    let t : FeedState = after_push g.state g.held (Ok (given (length g.held) None)) in
    let here = goes-ends tells keeps s f rows g in
    let end : s.end ≡ finishing_when t.condition (stream_in (retained_in t)) = ap (λ x. x.end) g.tells ∙ here.end in
    subst (λ (m : Reading (Unit {0})). FailsWith m c) (sym end) (finish-fault t c (answer t g.shows))
reached-refused tells keeps s f rows c answer (inr e) =
    let none : finishing_when e.state.condition (stream_in (retained_in e.state)) ≡ Ok tt =
    ap (λ k. finishing_when k (stream_in (retained_in e.state))) e.marked in
    absurd
    (subst (λ (m : Reading (Unit {0})). FailsWith m c) none (finish-fault e.state c (answer e.state e.shows)))

pub end-refused :
    (tells : PartialReports) (keeps : PartialIsHeld) (s : Story) (f : FeedParts)
    (rows : List (List Datum)) (c : StreamFault) → ((u : FeedState) → Shows f u → Finishes u (Err c))
    → Reached s f rows [] → Refuses s (cause_of c)
end-refused tells keeps s f rows c answer reached =
    stands-refuses s c (reached-refused tells keeps s f rows c answer reached)

finished-retained : (t : FeedState) (u : Unit {0}) → retained_in (after_finish t (Ok u)) ≡ retained_in t
unfolding after_finish
finished-retained t u = refl

abbrev ending_at : Retained → Story
ending_at k = ends k.known (at_input_end k.known.schema)

pub reached-complete :
    (tells : PartialReports) (keeps : PartialIsHeld) (s : Story) (f new : FeedParts) (rows : List (List Datum))
    (u : Unit {0}) → ((t : FeedState) → Shows f t → Finishes t (Ok u))
    → ((t : FeedState) → Shows f t → Shows new (after_finish t (Ok u))) → Reached s f rows [] → IsComplete s new rows
reached-complete tells keeps s f new rows u answer after (inl g) =
    let t : FeedState = after_push g.state g.held (Ok (given (length g.held) None)) in
    let here = goes-ends tells keeps s f rows g in
    let valid = finish-valid t u (answer t g.shows) in
    record {
      state = after_finish t (Ok u);
      shows = after t g.shows;
      taken = g.taken;
      tells = g.tells ∙ ap (after_rows rows) (here.valid valid.0 valid.1)
          ∙ ap (λ k. after_rows rows (ending_at k)) (sym (finished-retained t u));
    }
reached-complete tells keeps s f new rows u answer after (inr e) =
    let input : at_input_end (retained_in e.state).known.schema ≡ Ok tt = ap at_input_end e.known in
    record {
      state = after_finish e.state (Ok u);
      shows = after e.state e.shows;
      taken = e.taken;
      tells = e.tells ∙ ap (λ m. after_rows rows (ends (retained_in e.state).known m)) (sym input)
          ∙ ap (λ k. after_rows rows (ending_at k)) (sym (finished-retained e.state u));
    }

-- the table of all bytes of a source, or why there is none
read-so :
    (f : FeedParts) (rows : BufferedBatches) (read : Result Table Cause)
    → IfOk read (λ t. (s : Story) → HasConsumed s f rows [] → Means s t.schema.fields.items (buffered_rows t.rows))
    → OnOk read ((s : Story) → HasConsumed s f rows [] → AreConsumedSo s.schema s.rows)
    → IfErr read (λ c. (s : Story) → HasConsumed s f rows [] → Refuses s c)
    → (input : List ℕ) → HasConsumed (story_of input) f rows [] → IsRead read input
read-so f rows (Ok t) means accepted refused input taken =
    (means (story_of input) taken, accepted (story_of input) taken)
read-so f rows (Err c) means accepted refused input taken = refused (story_of input) taken

taken-so :
    (f : FeedParts) (rows : BufferedBatches) (all : Result (Unit {0}) Cause) (u : Unit {0}) (input : List ℕ) → all ≡ Ok u
    → HasConsumedAll f rows all input → HasConsumed (story_of input) f rows []
taken-so f rows all u input is h =
    subst (λ (r : Result (Unit {0}) Cause). HasConsumedAll f rows r input) is h

pub source-read :
    (held : Option (List ℕ)) (f : FeedParts) (rows : BufferedBatches) (all : Result (Unit {0}) Cause) (u : Unit {0})
    (read : Result Table Cause) → all ≡ Ok u → OfSource held (HasConsumedAll f rows all)
    → IfOk read (λ t. (s : Story) → HasConsumed s f rows [] → Means s t.schema.fields.items (buffered_rows t.rows))
    → OnOk read ((s : Story) → HasConsumed s f rows [] → AreConsumedSo s.schema s.rows)
    → IfErr read (λ c. (s : Story) → HasConsumed s f rows [] → Refuses s c) → OfSource held (IsRead read)
source-read held f rows all u read is source means accepted refused = record {
  input = source.input;
  read = source.read;
  so = read-so f rows read means accepted refused source.input (taken-so f rows all u source.input is source.so);
}

pub source-story :
    (held : Option (List ℕ)) (f : FeedParts) (rows : BufferedBatches) (all : Result (Unit {0}) Cause) (u : Unit {0})
    → all ≡ Ok u → OfSource held (HasConsumedAll f rows all) → (s : Story) × HasConsumed s f rows []
source-story held f rows all u is source =
    (story_of source.input, taken-so f rows all u source.input is source.so)
