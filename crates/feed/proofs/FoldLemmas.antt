-- The reading of a stream, from its transcript.
use Rattle.std.proofs.Common.{
  ◌≡◌,
  inl,
  inr,
  ℕ,
  zero,
  suc,
  ◌-◌,
  ◌<◌,
  ◌≤◌,
  Option,
  None,
  Some,
  Ok,
  Err,
  List,
  [],
  ◌∷◌,
  ◌++◌,
  length,
  drop,
  refl,
  ap,
  sym,
  subst,
  ◌∙◌,
  arith,
  length-drop,
}
use Rattle.std.specs.Prelude.{◌==◌, if◌then◌else◌, unwrap_or}
use Rattle.std.proofs.Math.Seq.{drop-length}
use Rattle.values.specs.Datum.{Datum}
use Rattle.values.specs.Rose.{Rose}
use Rattle.values.specs.Reading.{Reading, mapped, one}
use Rattle.values.specs.declared.faults.StreamFault.TheVariants as fault
use Rattle.dictionaries.specs.Batches.{DictionaryBatch, dictionary_after}
use Rattle.schema_meta.specs.Entry.{Entry}
use Rattle.schema_meta.specs.declared.header.Header.{Header}
use Rattle.schema_meta.specs.declared.header.Header.TheVariants as header
use Rattle.schema_meta.specs.Parts.{arrays_of}
use Rattle.schema_meta.specs.Rows.{columns_in, rows_in, values_of}
use Rattle.schema_meta.specs.Sound.{after, schema_after}
use Rattle.schema_meta.specs.Stage.{Known}
use Rattle.schema_meta.specs.Story.{Story, after_rows, at_end_mark, at_input_end, ends, fields_of, with_schema, story}
use Rattle.messages.specs.Laws.{FirstMessageLaw}
use Rattle.messages.specs.MessageLaw.{Brings}
use Rattle.feed.specs.declared.condition.Condition.TheVariants as condition
use Rattle.feed.specs.Retained.{retained, retained_of, stream_in}
use Rattle.feed.specs.Events.{Event, Given, batch, dictionary, ended, schema, given, event_by}
use Rattle.feed.specs.States.{FeedState, after_push, finishing_when, fresh, given_when, gives, retained_in}
use Rattle.feed.specs.StoryLaw.{EventsReportAll, IsBetween, input_end, story_in, rest_story, rest_story_from}
use Rattle.feed.specs.Transcript.{led_by, transcript}
use Rattle.feed.proofs.CutLemmas.{event_of, event-by, ok-same, partial-uses, whole-uses}
use Rattle.feed.proofs.StoryLemmas.{
  all-is-story_step,
  brings,
  event-tells,
  faults-tell,
  gives-open,
  retained-next,
  none-held,
  partial-is-held,
  partial-tells,
  zero_cases,
}
use Rattle.feed.proofs.TranscriptLemmas.{nothing-left, step}

-- a story without events
abbrev alone : Reading (Unit {0}) → Story
alone end = record { schema = None; rows = []; end = end }

with_schema-alone : (known : Known) (end : Reading (Unit {0})) → ends known end ≡ with_schema known.schema (alone end)
with_schema-alone known end = by_schema known.schema where
  by_schema : (o : Option (List (Rose Entry))) → record { schema = o; rows = []; end = end } ≡ with_schema o (alone end)
  by_schema None = refl
  by_schema (Some fields) = refl

with_schema-rows : (o : Option (List (Rose Entry))) (rows : List (List Datum)) (s : Story)
    → after_rows rows (with_schema o s) ≡ with_schema o (after_rows rows s)
with_schema-rows None rows s = refl
with_schema-rows (Some fields) rows s = refl

-- the end of the input of a feed that goes on, by the bytes that it holds
open-end : (s : FeedState) (held : List ℕ) → s.condition ≡ condition.Opened → (retained_in s).held ≡ held
    → input_end (Ok s) ≡ (if length held == 0 then at_input_end (retained_in s).known.schema
    else Err (one fault.Truncated))
open-end s held goes is =
    ap (λ c. finishing_when c (stream_in (retained_in s))) goes
    ∙ ap (λ h. if length h == 0 then at_input_end (retained_in s).known.schema else Err (one fault.Truncated)) is

-- how an event changes the schema that is known
abbrev SchemaAfter : Event → Option (List (Rose Entry)) → Option (List (Rose Entry)) → Type 0
SchemaAfter (schema fields) before now = (before ≡ None) × (now ≡ Some fields)
SchemaAfter (dictionary id delta values) before now = now ≡ before
SchemaAfter (batch columns rows body) before now = now ≡ before
SchemaAfter ended before now = now ≡ before

same-schema : (o b : Option (List (Rose Entry))) → b ≡ None → schema_after o b ≡ o
same-schema o b none = ap (schema_after o) none

schema-by :
    (now : Known) (o b : Option (List (Rose Entry))) (ds : List DictionaryBatch) (body : List ℕ) (h : Header)
    (e : Event) → now.schema ≡ schema_after o b
    → Brings o b h → event_by now ds body h ≡ Ok e → SchemaAfter e o (schema_after o b)
schema-by now o b ds body header.Schema e known br is =
    let there : schema_after o b ≡ Some br.fields = ap (schema_after o) br.is in
    let fields : fields_of now ≡ br.fields = ap (λ x. unwrap_or x []) (known ∙ there) in
    let seen : schema (fields_of now) ≡ e =
    ok-same (event_by now ds body header.Schema) (schema (fields_of now)) e refl is in
    subst (λ x. SchemaAfter x o (schema_after o b)) seen (br.new, there ∙ ap (λ x. Some x) (sym fields))
schema-by now o b ds body (header.Dictionary d) e known br is = by_values (values_of (fields_of now) d body) is where
  by_values : (vs : Reading (List Datum)) → mapped (λ values. dictionary d.id d.is_delta (length values)) vs ≡ Ok e
      → SchemaAfter e o (schema_after o b)
  by_values (Ok values) at =
      let seen : dictionary d.id d.is_delta (length values) ≡ e =
      ok-same (Ok (dictionary d.id d.is_delta (length values))) (dictionary d.id d.is_delta (length values)) e
      refl at in
      subst (λ x. SchemaAfter x o (schema_after o b)) seen (same-schema o b br)
  by_values (Err fs) at = absurd (cc)
schema-by now o b ds body (header.Batch head) e known br is =
    by_columns (columns_in body (arrays_of (dictionary_after ds) (fields_of now) head)) is where
      by_columns : (cs : Reading (List (List Datum)))
          → mapped (λ columns. batch columns head.rows (length body)) cs ≡ Ok e
          → SchemaAfter e o (schema_after o b)
      by_columns (Ok columns) at =
          let seen : batch columns head.rows (length body) ≡ e =
          ok-same (Ok (batch columns head.rows (length body))) (batch columns head.rows (length body)) e refl at in
          subst (λ x. SchemaAfter x o (schema_after o b)) seen (same-schema o b br)
      by_columns (Err fs) at = absurd (cc)
schema-by now o b ds body header.End e known br is =
    let seen : ended ≡ e = ok-same (event_by now ds body header.End) ended e refl is in
    subst (λ x. SchemaAfter x o (schema_after o b)) seen (same-schema o b br)

module _ (laws : FirstMessageLaw) where
  schema-next :
      (s : FeedState) (bytes : List ℕ) (used : ℕ) (e : Event) → IsBetween s → gives s bytes ≡ Ok (given used (Some e))
      → SchemaAfter e (retained_in s).known.schema
      (retained_in (after_push s bytes (Ok (given used (Some e))))).known.schema
  schema-next s bytes used e between is =
      elim (event-by (retained_in s) bytes used e (sym (gives-open laws s bytes between.goes_on) ∙ is)) [
        | event_of w found m size ↦
            subst (λ k. SchemaAfter e (retained_in s).known.schema k.known.schema)
            (sym (retained-next laws s bytes used e w found size))
            (schema-by (after (retained_in s).known w.meta) (retained_in s).known.schema w.meta.schema
            (retained_in s).dictionaries _ w.meta.header e refl
            (brings laws (retained_in s).known ((retained_in s).held ++ bytes) w found) m)
      ]

  -- where a feed is between two messages, the reading of what remains is what its transcript means, with the schema
  -- that is known
  abbrev ReportsIn : ℕ → Type 0
  ReportsIn n =
      (s : FeedState) (bytes : List ℕ) → length bytes ≤ n → IsBetween s
      → rest_story (retained_in s) bytes ≡ with_schema (retained_in s).known.schema (story_in (transcript s bytes))

  nothing-tells : (s : FeedState) → IsBetween s
      → rest_story (retained_in s) [] ≡ with_schema (retained_in s).known.schema (story_in (transcript s []))
  unfolding story
  nothing-tells s between =
      let o : Option (List (Rose Entry)) = (retained_in s).known.schema in
      ap (ends (retained_in s).known) (sym (open-end s [] between.goes_on between.none_held))
      ∙ with_schema-alone (retained_in s).known (input_end (Ok s))
      ∙ ap (λ t. with_schema o (story_in t)) (sym (nothing-left s))

  -- the beginning of a message
  partial-folds : (s : FeedState) (b : ℕ) (bs : List ℕ) (used : ℕ) → IsBetween s
      → gives s (b ∷ bs) ≡ Ok (given used None)
      → story_in (transcript s (b ∷ bs)) ≡ alone (Err (one fault.Truncated))
  unfolding after_push
  partial-folds s b bs used between is =
      let bytes : List ℕ = b ∷ bs in
      let t : FeedState = after_push s bytes (Ok (given used None)) in
      let none : drop used bytes ≡ [] =
      ap (λ n. drop n bytes) (partial-uses laws s bytes used is) ∙ drop-length bytes in
      let held : (retained_in t).held ≡ bytes =
      partial-is-held laws s bytes used between.goes_on is ∙ ap (λ h. h ++ bytes) between.none_held in
      ap story_in (step laws s b bs (Ok (given used None)) is ∙ ap (λ ys. transcript t ys) none ∙ nothing-left t)
      ∙ ap alone (open-end t bytes between.goes_on held
      ∙ not-empty (length bytes) (at_input_end (retained_in t).known.schema) (omega arith)) where
        not-empty : (n : ℕ) (end : Reading (Unit {0})) → 0 < n
            → (if n == 0 then end else Err (one fault.Truncated)) ≡ Err (one fault.Truncated)
        not-empty n end some = elim (zero_cases n) [
          | inl none ↦ absurd (omega (arith, none.1, some))
          | inr there ↦ rw there.0 refl
        ]

  -- what follows an end mark
  gives-ended : (s : FeedState) (b : ℕ) (bs : List ℕ) → s.condition ≡ condition.Ended
      → gives s (b ∷ bs) ≡ Err (one fault.AfterEnd)
  unfolding gives
  gives-ended s b bs is = ap (λ c. given_when c (retained_in s) (b ∷ bs)) is

  mark-tells : (s : FeedState) (rest : List ℕ) → s.condition ≡ condition.Ended
      → story_in (transcript s rest) ≡ alone (at_end_mark rest)
  mark-tells s [] is = ap story_in (nothing-left s) ∙ ap (λ c. alone (finishing_when c (stream_in (retained_in s)))) is
  mark-tells s (b ∷ bs) is = ap story_in (step laws s b bs (Err (one fault.AfterEnd)) (gives-ended s b bs is))
      ∙ ap alone (some (length (b ∷ bs)) (Ok tt) (omega arith)) where
        some : (n : ℕ) (end : Reading (Unit {0})) → 0 < n
            → Err (one fault.AfterEnd) ≡ (if n == 0 then end else Err (one fault.AfterEnd))
        some n end more = elim (zero_cases n) [
          | inl none ↦ absurd (omega (arith, none.1, more))
          | inr there ↦ rw there.0 refl
        ]

  event-folds :
      (n : ℕ) (s : FeedState) (bytes : List ℕ) (used : ℕ) (e : Event) → ReportsIn n → length (drop used bytes) ≤ n
      → IsBetween s
      → gives s bytes ≡ Ok (given used (Some e))
      → rest_story_from e (retained_in (after_push s bytes (Ok (given used (Some e))))) (drop used bytes)
      ≡ with_schema (retained_in s).known.schema
      (story_in (led_by (Some e) (transcript (after_push s bytes (Ok (given used (Some e)))) (drop used bytes))))
  unfolding after_push
  event-folds n s bytes used (schema fields) tells small between is =
      let t : FeedState = after_push s bytes (Ok (given used (Some (schema fields)))) in
      let rest : Story = story_in (transcript t (drop used bytes)) in
      let now = schema-next s bytes used (schema fields) between is in
      tells t (drop used bytes) small
      (record {
        goes_on = between.goes_on;
        none_held = none-held laws s bytes used (schema fields) between.goes_on is;
      })
      ∙ ap (λ o. with_schema o rest) now.1
      ∙ ap (λ o. with_schema o (story_in (led_by (Some (schema fields)) (transcript t (drop used bytes))))) (sym now.0)
  event-folds n s bytes used (dictionary id delta values) tells small between is =
      let t : FeedState = after_push s bytes (Ok (given used (Some (dictionary id delta values)))) in
      tells t (drop used bytes) small
      (record {
        goes_on = between.goes_on;
        none_held = none-held laws s bytes used (dictionary id delta values) between.goes_on is;
      })
      ∙ ap (λ o. with_schema o (story_in (transcript t (drop used bytes))))
      (schema-next s bytes used (dictionary id delta values) between is)
  event-folds n s bytes used (batch columns rows body) tells small between is =
      let t : FeedState = after_push s bytes (Ok (given used (Some (batch columns rows body)))) in
      let rest : Story = story_in (transcript t (drop used bytes)) in
      ap (after_rows (rows_in rows columns))
      (tells t (drop used bytes) small
      (record {
        goes_on = between.goes_on;
        none_held = none-held laws s bytes used (batch columns rows body) between.goes_on is;
      })
      ∙ ap (λ o. with_schema o rest) (schema-next s bytes used (batch columns rows body) between is))
      ∙ with_schema-rows (retained_in s).known.schema (rows_in rows columns) rest
  event-folds n s bytes used ended tells small between is =
      let t : FeedState = after_push s bytes (Ok (given used (Some ended))) in
      with_schema-alone (retained_in t).known (at_end_mark (drop used bytes))
      ∙ ap (λ o. with_schema o (alone (at_end_mark (drop used bytes)))) (schema-next s bytes used ended between is)
      ∙ ap (with_schema (retained_in s).known.schema) (sym (mark-tells t (drop used bytes) refl))

  push-folds : (n : ℕ) (s : FeedState) (b : ℕ) (bs : List ℕ) → ReportsIn n → length (b ∷ bs) ≤ suc n → IsBetween s
      → (r : Reading Given) → gives s (b ∷ bs) ≡ r
      → rest_story (retained_in s) (b ∷ bs) ≡ with_schema (retained_in s).known.schema
      (story_in (transcript s (b ∷ bs)))
  push-folds n s b bs tells small between (Err fs) is =
      faults-tell laws s (b ∷ bs) fs between is ∙ with_schema-alone (retained_in s).known (Err fs)
      ∙ ap (λ t. with_schema (retained_in s).known.schema (story_in t)) (sym (step laws s b bs (Err fs) is))
  push-folds n s b bs tells small between (Ok g) is = by_event g.used g.event is where
    by_event : (u : ℕ) (o : Option Event) → gives s (b ∷ bs) ≡ Ok (given u o)
        → rest_story (retained_in s) (b ∷ bs) ≡ with_schema (retained_in s).known.schema
        (story_in (transcript s (b ∷ bs)))
    by_event u None at =
        partial-tells laws s (b ∷ bs) u between (omega arith) at
        ∙ with_schema-alone (retained_in s).known (Err (one fault.Truncated))
        ∙ ap (with_schema (retained_in s).known.schema) (sym (partial-folds s b bs u between at))
    by_event u (Some e) at =
        let less = whole-uses laws s (b ∷ bs) u e at in
        let size : length (drop u (b ∷ bs)) ≡ length (b ∷ bs) - u = length-drop u (b ∷ bs) in
        event-tells laws s (b ∷ bs) u e between at
        ∙ event-folds n s (b ∷ bs) u e tells (omega (arith, less.0, small, size)) between at
        ∙ ap (λ t. with_schema (retained_in s).known.schema (story_in t))
        (sym (step laws s b bs (Ok (given u (Some e))) at))

  folds : (n : ℕ) → ReportsIn n
  folds n s [] small between = nothing-tells s between
  folds zero s (b ∷ bs) small between = absurd (omega (arith, small))
  folds (suc n) s (b ∷ bs) small between = push-folds n s b bs (folds n) small between (gives s (b ∷ bs)) refl

  fresh-between : IsBetween (fresh None)
  unfolding retained_of retained
  fresh-between = record { goes_on = refl; none_held = refl }

  pub events-tell-all : EventsReportAll
  unfolding retained_of retained
  events-tell-all bytes = all-is-story_step bytes ∙ folds (length bytes) (fresh None) bytes (omega arith) fresh-between
