-- What the events of a feed say of the whole stream.
use Rattle.std.proofs.Common.{
  ◌≡◌,
  ◌⊎◌,
  inl,
  inr,
  ℕ,
  zero,
  suc,
  ◌-◌,
  ◌<◌,
  ◌≤◌,
  Bool,
  true,
  false,
  Option,
  None,
  Some,
  Ok,
  Err,
  List,
  [],
  ◌∷◌,
  ◌++◌,
  length,
  take,
  drop,
  refl,
  ap,
  sym,
  subst,
  ◌∙◌,
  arith,
  append-nil,
}
use Rattle.std.specs.Prelude.{slice_range, ◌==◌}
use Rattle.std.proofs.lemmas.Bool.{eqb-true, eqb-false, cases_lt}
use Rattle.std.proofs.Math.Seq.{take-length}
use Rattle.values.specs.Datum.{Datum}
use Rattle.values.specs.Rose.{Rose}
use Rattle.values.specs.Reading.{Faults, Reading, mapped, one}
use Rattle.values.specs.declared.faults.StreamFault.TheVariants as fault
use Rattle.dictionaries.specs.Batches.{DictionaryBatch, dictionary_after, batch as batch_of_values}
use Rattle.schema_meta.specs.Entry.{Entry}
use Rattle.schema_meta.specs.BatchHead.{BatchHead}
use Rattle.schema_meta.specs.declared.header.Header.{Header}
use Rattle.schema_meta.specs.declared.header.Header.TheVariants as header
use Rattle.schema_meta.specs.Framing.{first}
use Rattle.schema_meta.specs.Parts.{arrays_of}
use Rattle.schema_meta.specs.Rows.{columns_in, rows_in, rows_of, values_of}
use Rattle.schema_meta.specs.Sound.{after, schema_after}
use Rattle.schema_meta.specs.Stage.{Known, Meta, Whole, end_of}
use Rattle.schema_meta.specs.Story.{
  Story,
  after_batch,
  after_rows,
  after_values,
  at_end_mark,
  ends,
  fields_of,
  with_schema,
  story,
  story_of,
  story_step,
  story_by,
}
use Rattle.messages.specs.Laws.{FirstMessageLaw}
use Rattle.messages.specs.MessageLaw.{Brings, IsMessage}
use Rattle.feed.specs.declared.condition.Condition.TheVariants as condition
use Rattle.feed.specs.Retained.{Retained, retained, retained_of, brought_by, taken}
use Rattle.feed.specs.Events.{Event, batch, dictionary, ended, schema, Given, given, event_by, reading}
use Rattle.feed.specs.States.{FeedState, after_push, given_when, gives, retained_in}
use Rattle.feed.specs.StoryLaw.{
  AllIsReported,
  EventReports,
  FaultsReport,
  NoneHeld,
  PartialIsHeld,
  PartialReports,
  StoryKnowsSchema,
  rest_story,
  rest_story_from,
}
use Rattle.feed.proofs.RetainedLemmas.{after-partial, after-whole, retained_past, left-after}
use Rattle.feed.proofs.CutLemmas.{
  event_of,
  by_fault,
  by_none,
  by_whole,
  event-by,
  read-by,
  partial-by,
  ends-in-piece,
  ok-err,
  ok-same,
}

zero_by : (n : ℕ) (b : Bool) → (n == 0) ≡ b → (((n == 0) ≡ true) × (n ≡ 0)) ⊎ (((n == 0) ≡ false) × (0 < n))
zero_by n true e = inl (e, eqb-true n 0 e)
zero_by n false e = elim (cases_lt 0 n) [
  | inl some ↦ inr (e, some)
  | inr none ↦ absurd (eqb-false n 0 e (omega (arith, none)))
]

pub zero_cases : (n : ℕ) → (((n == 0) ≡ true) × (n ≡ 0)) ⊎ (((n == 0) ≡ false) × (0 < n))
zero_cases n = zero_by n (n == 0) refl

abbrev story_with : Option (List (Rose Entry)) → List (List Datum) → Reading (Unit {0}) → Story
story_with fields rows end = record { schema = fields; rows = rows; end = end }

-- the story of what remains
abbrev left : Known → List DictionaryBatch → List ℕ → Story
left known ds bytes = story (length bytes) known ds bytes

-- a story of a stream whose schema is known
knows : (n : ℕ) (known : Known) (ds : List DictionaryBatch) (bytes : List ℕ) (fields : List (Rose Entry))
    → known.schema ≡ Some fields
    → (story n known ds bytes).schema ≡ Some fields
unfolding story
knows zero known ds bytes fields is = is
knows (suc n) known ds bytes fields is = elim (zero_cases (length bytes)) [
  | inl none ↦ rw none.0 is
  | inr some ↦ rw some.0 (by_schema known.schema is)
] where
  by_schema : (o : Option (List (Rose Entry))) → o ≡ Some fields
      → (with_schema o (story_step (story n) known ds bytes (first known bytes))).schema ≡ Some fields
  by_schema None there = absurd (cc)
  by_schema (Some fs) there = there

pub rest_story-knows : StoryKnowsSchema
rest_story-knows k bytes fields is = knows (length bytes) k.known k.dictionaries bytes fields is

-- a story that has the schema stays as it is with it
with_schema-same : (o : Option (List (Rose Entry))) (s : Story)
    → ((fields : List (Rose Entry)) → o ≡ Some fields → s.schema ≡ Some fields) → with_schema o s ≡ s
with_schema-same None s same = refl
with_schema-same (Some fields) s same = ap (λ m. story_with m s.rows s.end) (sym (same fields refl))

module _ (laws : FirstMessageLaw) where
  pub brings : (known : Known) (bytes : List ℕ) (w : Whole) → first known bytes ≡ Ok (Some w)
      → Brings known.schema w.meta.schema w.meta.header
  brings known bytes w is =
      let m : IsMessage known bytes w = laws.message known bytes w is in
      m.brings

  -- More messages than there are bytes change nothing.
  story_step-same :
      (n m : ℕ) (known now : Known) (ds : List DictionaryBatch) (bytes : List ℕ) (w : Whole)
      → ((es : List DictionaryBatch) → story n now es (drop (end_of w) bytes) ≡ story m now es (drop (end_of w) bytes))
      → (h : Header)
      → story_by now (λ es. story n now es (drop (end_of w) bytes)) ds (slice_range bytes w.front (end_of w))
      (drop (end_of w) bytes) h
      ≡ story_by now (λ es. story m now es (drop (end_of w) bytes)) ds (slice_range bytes w.front (end_of w))
      (drop (end_of w) bytes) h
  story_step-same n m known now ds bytes w same header.Schema = same ds
  story_step-same n m known now ds bytes w same (header.Dictionary d) =
      by_values (values_of (fields_of now) d (slice_range bytes w.front (end_of w))) where
        by_values : (vs : Reading (List Datum))
            → after_values now vs (λ values.
            story n now (ds ++ batch_of_values d.id d.is_delta values ∷ []) (drop (end_of w) bytes))
            ≡ after_values now vs (λ values.
            story m now (ds ++ batch_of_values d.id d.is_delta values ∷ []) (drop (end_of w) bytes))
        by_values (Ok values) = same (ds ++ batch_of_values d.id d.is_delta values ∷ [])
        by_values (Err fs) = refl
  story_step-same n m known now ds bytes w same (header.Batch b) =
      ap (λ s. after_batch now (rows_of (dictionary_after ds) (fields_of now) b (slice_range bytes w.front (end_of w)))
      s) (same ds)
  story_step-same n m known now ds bytes w same header.End = refl

  story-fuel :
      (n m : ℕ) (known : Known) (ds : List DictionaryBatch) (bytes : List ℕ) → length bytes ≤ n → length bytes ≤ m
      → story n known ds bytes ≡ story m known ds bytes
  unfolding story story_step
  story-fuel zero zero known ds bytes a b = refl
  story-fuel zero (suc m) known ds bytes a b = elim (zero_cases (length bytes)) [
    | inl none ↦ rw none.0 refl
    | inr some ↦ absurd (omega (arith, a, some.1))
  ]
  story-fuel (suc n) zero known ds bytes a b = elim (zero_cases (length bytes)) [
    | inl none ↦ rw none.0 refl
    | inr some ↦ absurd (omega (arith, b, some.1))
  ]
  story-fuel (suc n) (suc m) known ds bytes a b = elim (zero_cases (length bytes)) [
    | inl none ↦ rw none.0 refl
    | inr some ↦ rw some.0
        (ap (with_schema known.schema) (by_first (λ k es xs. story-fuel n m k es xs) (first known bytes) refl))
  ] where
    by_first : ((k : Known) (es : List DictionaryBatch) (xs : List ℕ) → length xs ≤ n → length xs ≤ m
        → story n k es xs ≡ story m k es xs)
        → (r : Reading (Option Whole)) → first known bytes ≡ r
        → story_step (story n) known ds bytes r ≡ story_step (story m) known ds bytes r
    by_first same (Err fs) is = refl
    by_first same (Ok None) is = refl
    by_first same (Ok (Some w)) is =
        let less = left-after laws known bytes w is in
        story_step-same n m known (after known w.meta) ds bytes w
        (λ es. same (after known w.meta) es (drop (end_of w) bytes) (omega (arith, a, less)) (omega (arith, b, less)))
        w.meta.header

  -- the story of bytes that are there, by their first message
  pub story-step :
      (known : Known) (ds : List DictionaryBatch) (bytes : List ℕ) (r : Reading (Option Whole)) → 0 < length bytes
      → first known bytes ≡ r
      → left known ds bytes ≡ with_schema known.schema (story_step left known ds bytes r)
  unfolding story story_step
  story-step known ds bytes r some is = by_length (length bytes) refl where
    by_first : (n : ℕ) (m : Reading (Option Whole)) → length bytes ≡ suc n → first known bytes ≡ m
        → story_step (story n) known ds bytes m ≡ story_step left known ds bytes m
    by_first n (Err fs) size at = refl
    by_first n (Ok None) size at = refl
    by_first n (Ok (Some w)) size at =
        let less = left-after laws known bytes w at in
        story_step-same n (length (drop (end_of w) bytes)) known (after known w.meta) ds bytes w
        (λ es. story-fuel n (length (drop (end_of w) bytes)) (after known w.meta) es (drop (end_of w) bytes)
        (omega (arith, size, less)) (omega arith)) w.meta.header

    by_length : (n : ℕ) → length bytes ≡ n
        → story n known ds bytes ≡ with_schema known.schema (story_step left known ds bytes r)
    by_length zero size = absurd (omega (arith, some, size))
    by_length (suc n) size = elim (zero_cases (length bytes)) [
      | inl none ↦ absurd (omega (arith, none.1, some))
      | inr there ↦ rw there.0 (ap (λ m. with_schema known.schema (story_step (story n) known ds bytes m)) is
          ∙ ap (with_schema known.schema) (by_first n r size is))
    ]

  -- between two messages nothing is held
  first-between : (k : Retained) (bytes : List ℕ) (r : Reading (Option Whole)) → k.held ≡ []
      → first k.known (k.held ++ bytes) ≡ r → first k.known bytes ≡ r
  first-between k bytes r none is = ap (λ h. first k.known (h ++ bytes)) (sym none) ∙ is

  pub gives-open : (s : FeedState) (bytes : List ℕ) → s.condition ≡ condition.Opened
      → gives s bytes ≡ reading (retained_in s) bytes
  unfolding gives
  gives-open s bytes is = ap (λ c. given_when c (retained_in s) bytes) is

  -- a schema that is known stays known
  same-schema : (known : Known) (m : Meta) → m.schema ≡ None → (after known m).schema ≡ known.schema
  same-schema known m none = ap (λ o. schema_after known.schema o) none

  ends-same : (a b : Known) (end : Reading (Unit {0})) → a.schema ≡ b.schema → ends a end ≡ ends b end
  ends-same a b end same = ap (λ o. story_with o [] end) same

  some-bytes : (known : Known) (bytes : List ℕ) (w : Whole) → first known bytes ≡ Ok (Some w) → 0 < length bytes
  some-bytes known bytes w is =
      let less = left-after laws known bytes w is in
      omega (arith, less)

  -- what is retained after a message between two
  pub retained-next :
      (s : FeedState) (bytes : List ℕ) (used : ℕ) (e : Event) (w : Whole)
      → first (retained_in s).known ((retained_in s).held ++ bytes) ≡ Ok (Some w)
      → end_of w - length (retained_in s).held ≡ used
      → retained_in (after_push s bytes (Ok (given used (Some e)))) ≡ retained_past (retained_in s) bytes w
  unfolding after_push
  retained-next s bytes used e w is size =
      after-whole laws s.declared s.bytes bytes (retained_in s) w used refl is
      (omega (arith, size, (ends-in-piece laws s.declared s.bytes bytes w is).0))

  pub none-held : NoneHeld
  none-held s bytes used e goes is = elim (event-by (retained_in s) bytes used e (sym (gives-open s bytes goes) ∙ is)) [
    | event_of w found m size ↦ ap (λ k. k.held) (retained-next s bytes used e w found size)
  ]

  pub partial-is-held : PartialIsHeld
  unfolding after_push
  partial-is-held s bytes used goes is =
      let k : Retained = retained_in s in
      let found = partial-by k bytes (given used None) (sym (gives-open s bytes goes) ∙ is) refl in
      let all : take used bytes ≡ bytes = ap (λ g. take g.used bytes) found.1 ∙ take-length bytes in
      ap (λ xs. (retained_of s.declared (s.bytes ++ xs)).held) all
      ∙ ap (λ x. x.held) (after-partial laws s.declared s.bytes bytes k refl found.0)

  rows-of : (k : Retained) (now : Known) (b : BatchHead) (body : List ℕ) (columns : List (List Datum))
      → columns_in body (arrays_of (dictionary_after k.dictionaries) (fields_of now) b) ≡ Ok columns
      → rows_of (dictionary_after k.dictionaries) (fields_of now) b body ≡ Ok (rows_in b.rows columns)
  unfolding rows_of
  rows-of k now b body columns is = ap (λ m. mapped (rows_in b.rows) m) is

  -- the meaning of a message, by its header and its event
  tells-by :
      (k : Retained) (now : Known) (h : Header) (body rest : List ℕ) (e : Event)
      → event_by now k.dictionaries body h ≡ Ok e
      → story_by now (λ es. left now es rest) k.dictionaries body rest h
      ≡ rest_story_from e
      (record { known = now; dictionaries = k.dictionaries ++ brought_by (fields_of now) body h; held = [] }) rest
  tells-by k now header.Schema body rest e is =
      let seen : schema (fields_of now) ≡ e =
      ok-same (event_by now k.dictionaries body header.Schema) (schema (fields_of now)) e refl is in
      subst (λ x. left now k.dictionaries rest ≡ rest_story_from x
      (record { known = now; dictionaries = k.dictionaries ++ []; held = [] }) rest) seen
      (ap (λ ds. left now ds rest) (sym (append-nil k.dictionaries)))
  tells-by k now (header.Dictionary d) body rest e is = by_values (values_of (fields_of now) d body) is where
    by_values : (vs : Reading (List Datum)) → mapped (λ values. dictionary d.id d.is_delta (length values)) vs ≡ Ok e
        → after_values now vs (λ values. left now (k.dictionaries ++ batch_of_values d.id d.is_delta values ∷ []) rest)
        ≡ rest_story_from e (record { known = now; dictionaries = k.dictionaries ++ taken d vs; held = [] }) rest
    by_values (Ok values) at =
        let seen : dictionary d.id d.is_delta (length values) ≡ e =
        ok-same (Ok (dictionary d.id d.is_delta (length values))) (dictionary d.id d.is_delta (length values)) e
        refl at in
        subst (λ x. left now (k.dictionaries ++ batch_of_values d.id d.is_delta values ∷ []) rest
        ≡ rest_story_from x
        (record {
          known = now;
          dictionaries = k.dictionaries ++ batch_of_values d.id d.is_delta values ∷ [];
          held = [];
        }) rest) seen refl
    by_values (Err fs) at = absurd (cc)
  tells-by k now (header.Batch b) body rest e is =
      by_columns (columns_in body (arrays_of (dictionary_after k.dictionaries) (fields_of now) b)) refl is where
        by_columns : (cs : Reading (List (List Datum)))
            → columns_in body (arrays_of (dictionary_after k.dictionaries) (fields_of now) b) ≡ cs
            → mapped (λ columns. batch columns b.rows (length body)) cs ≡ Ok e
            → after_batch now (rows_of (dictionary_after k.dictionaries) (fields_of now) b body)
            (left now k.dictionaries rest)
            ≡ rest_story_from e (record { known = now; dictionaries = k.dictionaries ++ []; held = [] }) rest
        by_columns (Ok columns) there at =
            let seen : batch columns b.rows (length body) ≡ e =
            ok-same (Ok (batch columns b.rows (length body))) (batch columns b.rows (length body)) e refl at in
            subst (λ x. after_batch now (rows_of (dictionary_after k.dictionaries) (fields_of now) b body)
            (left now k.dictionaries rest)
            ≡ rest_story_from x (record { known = now; dictionaries = k.dictionaries ++ []; held = [] }) rest) seen
            (ap (λ m. after_batch now m (left now k.dictionaries rest)) (rows-of k now b body columns there)
            ∙ ap (λ ds. after_rows (rows_in b.rows columns) (left now ds rest)) (sym (append-nil k.dictionaries)))
        by_columns (Err fs) there at = absurd (cc)
  tells-by k now header.End body rest e is =
      let seen : ended ≡ e = ok-same (event_by now k.dictionaries body header.End) ended e refl is in
      subst (λ x. ends now (at_end_mark rest) ≡ rest_story_from x
      (record { known = now; dictionaries = k.dictionaries ++ []; held = [] }) rest) seen refl

  -- the schema after an event
  from-schema :
      (e : Event) (k : Retained) (rest : List ℕ) (fields : List (Rose Entry)) → k.known.schema ≡ Some fields
      → (rest_story_from e k rest).schema ≡ Some fields
  from-schema (schema fs) k rest fields is = rest_story-knows k rest fields is
  from-schema (dictionary id delta values) k rest fields is = rest_story-knows k rest fields is
  from-schema (batch columns rows body) k rest fields is = rest_story-knows k rest fields is
  from-schema ended k rest fields is = is

  -- a schema that was known before a message is known after it
  still-known :
      (o m : Option (List (Rose Entry))) (h : Header) (fields : List (Rose Entry)) → Brings o m h → o ≡ Some fields
      → schema_after o m ≡ Some fields
  still-known o m header.Schema fields b is = absurd (none-known o fields b.new is) where
    none-known : (x : Option (List (Rose Entry))) (fs : List (Rose Entry)) → x ≡ None → x ≡ Some fs → ⊥
    none-known None fs a c = absurd (cc)
    none-known (Some y) fs a c = absurd (cc)
  still-known o m (header.Dictionary d) fields b is = ap (λ x. schema_after o x) b ∙ is
  still-known o m (header.Batch h) fields b is = ap (λ x. schema_after o x) b ∙ is
  still-known o m header.End fields b is = ap (λ x. schema_after o x) b ∙ is

  pub event-tells : EventReports
  unfolding story_step
  event-tells s bytes used e between is =
      elim (event-by k bytes used e (sym (gives-open s bytes between.goes_on) ∙ is)) [
        | event_of w found m size ↦ of_whole w found m size
      ] where
        k : Retained
        k = retained_in s

        of_whole : (w : Whole) → first k.known (k.held ++ bytes) ≡ Ok (Some w)
            → event_by (after k.known w.meta) k.dictionaries (slice_range (k.held ++ bytes) w.front (end_of w))
            w.meta.header ≡ Ok e
            → end_of w - length k.held ≡ used
            → rest_story k bytes ≡ rest_story_from e (retained_in (after_push s bytes (Ok (given used (Some e)))))
            (drop used bytes)
        of_whole w found m size =
            let here : first k.known bytes ≡ Ok (Some w) =
            first-between k bytes (Ok (Some w)) between.none_held found in
            let now : Known = after k.known w.meta in
            let body : List ℕ = slice_range bytes w.front (end_of w) in
            let same_body : slice_range (k.held ++ bytes) w.front (end_of w) ≡ body =
            ap (λ h. slice_range (h ++ bytes) w.front (end_of w)) between.none_held in
            let all : end_of w ≡ used = omega (arith, size, ap (λ h. length h) between.none_held) in
            let seen : event_by now k.dictionaries body w.meta.header ≡ Ok e =
            ap (λ b. event_by now k.dictionaries b w.meta.header) (sym same_body) ∙ m in
            let next : Retained =
            record {
              known = now;
              dictionaries = k.dictionaries ++ brought_by (fields_of now) body w.meta.header;
              held = [];
            } in
            let retained_there : retained_in (after_push s bytes (Ok (given used (Some e)))) ≡ next =
            retained-next s bytes used e w found size
            ∙ ap (λ b. record {
              known = now;
              dictionaries = k.dictionaries ++ brought_by (fields_of now) b w.meta.header;
              held = [];
            }) same_body in
            story-step k.known k.dictionaries bytes (Ok (Some w)) (some-bytes k.known bytes w here) here
            ∙ ap (with_schema k.known.schema) (tells-by k now w.meta.header body (drop (end_of w) bytes) e seen)
            ∙ with_schema-same k.known.schema (rest_story_from e next (drop (end_of w) bytes))
            (λ fields at. from-schema e next (drop (end_of w) bytes) fields
            (still-known k.known.schema w.meta.schema w.meta.header fields (brings k.known bytes w here) at))
            ∙ ap (λ n. rest_story_from e next (drop n bytes)) all
            ∙ ap (λ x. rest_story_from e x (drop used bytes)) (sym retained_there)

  with_schema-ends : (known : Known) (end : Reading (Unit {0}))
      → with_schema known.schema (ends known end) ≡ ends known end
  with_schema-ends known end = with_schema-same known.schema (ends known end) (λ fields is. is)

  pub partial-tells : PartialReports
  unfolding story_step
  partial-tells s bytes used between some is =
      let k : Retained = retained_in s in
      let found = partial-by k bytes (given used None) (sym (gives-open s bytes between.goes_on) ∙ is) refl in
      story-step k.known k.dictionaries bytes (Ok None) some (first-between k bytes (Ok None) between.none_held found.0)
      ∙ with_schema-ends k.known (Err (one fault.Truncated))

  rows-fault : (k : Retained) (now : Known) (b : BatchHead) (body : List ℕ) (gs : Faults)
      → columns_in body (arrays_of (dictionary_after k.dictionaries) (fields_of now) b) ≡ Err gs
      → rows_of (dictionary_after k.dictionaries) (fields_of now) b body ≡ Err gs
  unfolding rows_of
  rows-fault k now b body gs at = ap (λ m. mapped (rows_in b.rows) m) at

  -- a fault of a message's body
  body-fault :
      (k : Retained) (now : Known) (h : Header) (body rest : List ℕ) (fs : Faults) → now.schema ≡ k.known.schema
      → event_by now k.dictionaries body h ≡ Err fs
      → story_by now (λ es. left now es rest) k.dictionaries body rest h ≡ ends k.known (Err fs)
  body-fault k now header.Schema body rest fs same is = absurd (cc)
  body-fault k now (header.Dictionary d) body rest fs same is = by_values (values_of (fields_of now) d body) is where
    by_values : (vs : Reading (List Datum)) → mapped (λ values. dictionary d.id d.is_delta (length values)) vs ≡ Err fs
        → after_values now vs (λ values.
        left now (k.dictionaries ++ batch_of_values d.id d.is_delta values ∷ []) rest) ≡ ends k.known (Err fs)
    by_values (Ok values) at = absurd (cc)
    by_values (Err gs) at =
        let gs_is : gs ≡ fs = cc in
        ap (λ f. ends now (Err f)) gs_is ∙ ends-same now k.known (Err fs) same
  body-fault k now (header.Batch b) body rest fs same is =
      by_columns (columns_in body (arrays_of (dictionary_after k.dictionaries) (fields_of now) b)) refl is where
        by_columns : (cs : Reading (List (List Datum)))
            → columns_in body (arrays_of (dictionary_after k.dictionaries) (fields_of now) b) ≡ cs
            → mapped (λ columns. batch columns b.rows (length body)) cs ≡ Err fs
            → after_batch now (rows_of (dictionary_after k.dictionaries) (fields_of now) b body)
            (left now k.dictionaries rest) ≡ ends k.known (Err fs)
        by_columns (Ok columns) there at = absurd (cc)
        by_columns (Err gs) there at =
            let gs_is : gs ≡ fs = cc in
            ap (λ m. after_batch now m (left now k.dictionaries rest)) (rows-fault k now b body gs there)
            ∙ ap (λ f. ends now (Err f)) gs_is ∙ ends-same now k.known (Err fs) same
  body-fault k now header.End body rest fs same is = absurd (cc)

  -- only a Schema message has a schema, and it has no fault in its body
  schema-same :
      (k : Retained) (bytes body : List ℕ) (w : Whole) (fs : Faults) (h : Header)
      → Brings k.known.schema w.meta.schema h
      → event_by (after k.known w.meta) k.dictionaries body h ≡ Err fs → (after k.known w.meta).schema ≡ k.known.schema
  schema-same k bytes body w fs header.Schema b is = absurd (cc)
  schema-same k bytes body w fs (header.Dictionary d) b is = same-schema k.known w.meta b
  schema-same k bytes body w fs (header.Batch h) b is = same-schema k.known w.meta b
  schema-same k bytes body w fs header.End b is = same-schema k.known w.meta b

  body-by : (n : ℕ) (m : Reading Event) (fs : Faults) → mapped (λ x. given n (Some x)) m ≡ Err fs → m ≡ Err fs
  body-by n (Ok x) fs is = absurd (cc)
  body-by n (Err gs) fs is = cc

  pub faults-tell : FaultsReport
  unfolding story_step
  faults-tell s bytes fs between is = elim (read-by k bytes) [
    | by_fault gs found m ↦ of_fault gs found (faults-of gs m)
    | by_none found m ↦ absurd (ok-err (reading k bytes) (given (length bytes) None) fs m read)
    | by_whole w found m ↦ of_whole w found (sym m ∙ read)
  ] where
    k : Retained
    k = retained_in s

    read : reading k bytes ≡ Err fs
    read = sym (gives-open s bytes between.goes_on) ∙ is

    faults-of : (gs : Faults) → reading k bytes ≡ Err gs → gs ≡ fs
    faults-of gs m = err-same (reading k bytes) gs fs m read where
      err-same : (r : Reading Given) (a b : Faults) → r ≡ Err a → r ≡ Err b → a ≡ b
      err-same (Ok g) a b x y = absurd (cc)
      err-same (Err c) a b x y = cc

    nothing-read : (r : Reading (Option Whole)) (gs : Faults) → first k.known [] ≡ Ok None → first k.known [] ≡ Err gs
        → ⊥
    nothing-read r gs a b = ok-err (first k.known []) None gs a b

    some : (gs : Faults) → first k.known bytes ≡ Err gs → 0 < length bytes
    some gs at = by_bytes bytes at where
      by_bytes : (xs : List ℕ) → first k.known xs ≡ Err gs → 0 < length xs
      by_bytes [] h = absurd (nothing-read (Ok None) gs (laws.none k.known) h)
      by_bytes (x ∷ xs) h = omega arith

    of_fault : (gs : Faults) → first k.known (k.held ++ bytes) ≡ Err gs → gs ≡ fs
        → rest_story k bytes ≡ ends k.known (Err fs)
    of_fault gs found same =
        let here : first k.known bytes ≡ Err gs = first-between k bytes (Err gs) between.none_held found in
        story-step k.known k.dictionaries bytes (Err gs) (some gs here) here
        ∙ with_schema-ends k.known (Err gs)
        ∙ ap (λ f. ends k.known (Err f)) same

    of_whole : (w : Whole) → first k.known (k.held ++ bytes) ≡ Ok (Some w)
        → mapped (λ x. given (end_of w - length k.held) (Some x))
        (event_by (after k.known w.meta) k.dictionaries (slice_range (k.held ++ bytes) w.front (end_of w))
        w.meta.header) ≡ Err fs
        → rest_story k bytes ≡ ends k.known (Err fs)
    of_whole w found m =
        let here : first k.known bytes ≡ Ok (Some w) = first-between k bytes (Ok (Some w)) between.none_held found in
        let now : Known = after k.known w.meta in
        let body : List ℕ = slice_range bytes w.front (end_of w) in
        let at : event_by now k.dictionaries body w.meta.header ≡ Err fs =
        ap (λ h. event_by now k.dictionaries (slice_range (h ++ bytes) w.front (end_of w)) w.meta.header)
        (sym between.none_held)
        ∙ body-by (end_of w - length k.held)
        (event_by now k.dictionaries (slice_range (k.held ++ bytes) w.front (end_of w)) w.meta.header) fs m in
        story-step k.known k.dictionaries bytes (Ok (Some w)) (some-bytes k.known bytes w here) here
        ∙ ap (with_schema k.known.schema) (body-fault k now w.meta.header body (drop (end_of w) bytes) fs
        (schema-same k bytes body w fs w.meta.header (brings k.known bytes w here) at) at)
        ∙ with_schema-ends k.known (Err fs)

pub all-is-story_step : AllIsReported
unfolding story_of retained_of retained
all-is-story_step bytes = refl
