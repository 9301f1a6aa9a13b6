-- A piece, and more of it.
use Rattle.std.proofs.Common.{
  ◌≡◌,
  inl,
  inr,
  ℕ,
  zero,
  suc,
  ◌+◌,
  ◌-◌,
  ◌<◌,
  ◌≤◌,
  Option,
  None,
  Some,
  Ok,
  Err,
  List,
  [],
  ◌∷◌,
  ◌++◌,
  length,
  take,
  drop,
  refl,
  ap,
  sym,
  subst,
  ◌∙◌,
  arith,
  append_assoc,
  length-append,
}
use Rattle.std.specs.Prelude.{slice_range}
use Rattle.std.proofs.lemmas.List.{take-append-le, take-append-drop, nil_from_length}
use Rattle.std.proofs.lemmas.Bool.{cases_lt}
use Rattle.std.proofs.Math.Seq.{take-length}
use Rattle.values.specs.Rose.{Rose}
use Rattle.values.specs.Reading.{Faults, Reading, ◌>>=◌, mapped}
use Rattle.values.specs.Logical.{NamedType}
use Rattle.dictionaries.specs.Batches.{DictionaryBatch}
use Rattle.schema_meta.specs.Framing.{first}
use Rattle.schema_meta.specs.SchemaLaw.{before}
use Rattle.schema_meta.specs.Sound.{after}
use Rattle.schema_meta.specs.Stage.{Known, Whole, end_of}
use Rattle.messages.specs.Laws.{FirstMessageLaw}
use Rattle.messages.specs.MessageLaw.{IsMessage}
use Rattle.feed.specs.declared.condition.Condition.{Condition}
use Rattle.feed.specs.declared.condition.Condition.TheVariants as condition
use Rattle.feed.specs.Retained.{Retained, retained, retained_of, retained_after, brought}
use Rattle.feed.specs.Events.{Event, Given, given, given_by, event_by, reading}
use Rattle.feed.specs.States.{FeedState, retained_in, gives, given_when, closed, condition_after, after_push}
use Rattle.feed.specs.CutLaw.{PartialJoins, WholeStays, FaultsStay, WholeUses, PartialUses, shifted}
use Rattle.feed.proofs.RetainedLemmas.{same-range, front-below, retained_here, after-partial, left-after}

-- two ends of one reading
pub ok-err : {X : Type 0} (m : Reading X) (x : X) (fs : Faults) → m ≡ Ok x → m ≡ Err fs → ⊥
ok-err (Ok y) x fs a b = absurd (cc)
ok-err (Err gs) x fs a b = absurd (cc)

pub ok-same : {X : Type 0} (m : Reading X) (x y : X) → m ≡ Ok x → m ≡ Ok y → x ≡ y
ok-same (Ok z) x y a b = cc
ok-same (Err gs) x y a b = absurd (cc)

none-some : (m : Option Event) (e : Event) → m ≡ None → m ≡ Some e → ⊥
none-some (Some x) e a b = absurd (cc)
none-some None e a b = absurd (cc)

no-event : (u v : ℕ) (e : Event) (m : Reading Given) → m ≡ Ok (given u None) → m ≡ Ok (given v (Some e)) → ⊥
no-event u v e m a b = none-some None e refl (ap (λ g. g.event) (ok-same m (given u None) (given v (Some e)) a b))

none-whole : (w : Whole) (r : Reading (Option Whole)) → r ≡ Ok None → r ≡ Ok (Some w) → ⊥
none-whole w (Ok None) a b = absurd (cc)
none-whole w (Ok (Some v)) a b = absurd (cc)
none-whole w (Err fs) a b = absurd (cc)

-- what a reading of a piece came from
pub data ReadBy (k : Retained) (piece : List ℕ) (m : Reading Given) : Type 0 where
  by_fault : (fs : Faults) → first k.known (k.held ++ piece) ≡ Err fs → m ≡ Err fs → ReadBy k piece m
  by_none : first k.known (k.held ++ piece) ≡ Ok None → m ≡ Ok (given (length piece) None) → ReadBy k piece m
  by_whole : (w : Whole) → first k.known (k.held ++ piece) ≡ Ok (Some w) → m ≡ given_by k piece (Some w)
      → ReadBy k piece m

pub read-by : (k : Retained) (piece : List ℕ) → ReadBy k piece (reading k piece)
unfolding reading
read-by k piece = by_first (first k.known (k.held ++ piece)) refl where
  by_first : (r : Reading (Option Whole)) → first k.known (k.held ++ piece) ≡ r
      → ReadBy k piece (r >>= given_by k piece)
  by_first (Err fs) is = by_fault fs is refl
  by_first (Ok None) is = by_none is refl
  by_first (Ok (Some w)) is = by_whole w is refl

-- an event that was read
pub data EventBy (k : Retained) (piece : List ℕ) (used : ℕ) (e : Event) : Type 0 where
  event_of : (w : Whole) → first k.known (k.held ++ piece) ≡ Ok (Some w)
      → event_by (after k.known w.meta) k.dictionaries (slice_range (k.held ++ piece) w.front (end_of w))
      w.meta.header ≡ Ok e
      → end_of w - length k.held ≡ used → EventBy k piece used e

event-by-whole : (n used : ℕ) (m : Reading Event) (e : Event)
    → mapped (λ x. given n (Some x)) m ≡ Ok (given used (Some e))
    → (m ≡ Ok e) × (n ≡ used)
event-by-whole n used (Ok x) e is =
    let same : given n (Some x) ≡ given used (Some e) =
    ok-same (Ok (given n (Some x))) (given n (Some x)) (given used (Some e)) refl is in
    let events : Some x ≡ Some e = ap (λ g. g.event) same in
    (cc, ap (λ g. g.used) same)
event-by-whole n used (Err fs) e is = absurd (cc)

pub event-by : (k : Retained) (piece : List ℕ) (used : ℕ) (e : Event) → reading k piece ≡ Ok (given used (Some e))
    → EventBy k piece used e
event-by k piece used e is = elim (read-by k piece) [
  | by_fault fs found m ↦ absurd (ok-err (reading k piece) (given used (Some e)) fs is m)
  | by_none found m ↦ absurd (no-event (length piece) used e (reading k piece) m is)
  | by_whole w found m ↦ of_whole w found
      (event-by-whole (end_of w - length k.held) used
      (event_by (after k.known w.meta) k.dictionaries (slice_range (k.held ++ piece) w.front (end_of w)) w.meta.header)
      e (sym m ∙ is))
] where
  of_whole : (w : Whole) → first k.known (k.held ++ piece) ≡ Ok (Some w)
      → (event_by (after k.known w.meta) k.dictionaries (slice_range (k.held ++ piece) w.front (end_of w))
      w.meta.header ≡ Ok e) × (end_of w - length k.held ≡ used)
      → EventBy k piece used e
  of_whole w found p = event_of w found p.0 p.1

none-by-whole : (n : ℕ) (m : Reading Event) (g : Given) → mapped (λ x. given n (Some x)) m ≡ Ok g → g.event ≡ None → ⊥
none-by-whole n (Ok x) g is none =
    none-some g.event x none (sym (ap (λ y. y.event) (ok-same (Ok (given n (Some x))) (given n (Some x)) g refl is)))
none-by-whole n (Err fs) g is none = ok-err (Err fs) g fs is refl

pub partial-by : (k : Retained) (piece : List ℕ) (g : Given) → reading k piece ≡ Ok g → g.event ≡ None
    → (first k.known (k.held ++ piece) ≡ Ok None) × (g ≡ given (length piece) None)
partial-by k piece g is none = elim (read-by k piece) [
  | by_fault fs found m ↦ absurd (ok-err (reading k piece) g fs is m)
  | by_none found m ↦ (found, ok-same (reading k piece) g (given (length piece) None) is m)
  | by_whole w found m ↦ absurd
      (none-by-whole (end_of w - length k.held)
      (event_by (after k.known w.meta) k.dictionaries (slice_range (k.held ++ piece) w.front (end_of w)) w.meta.header)
      g (sym m ∙ is) none)
]

module _ (laws : FirstMessageLaw) where
  -- what was not whole ends beyond
  pub ends-beyond :
      (known : Known) (bytes more : List ℕ) (w : Whole) → first known bytes ≡ Ok None
      → first known (bytes ++ more) ≡ Ok (Some w)
      → length bytes < end_of w
  ends-beyond known bytes more w none some = elim (cases_lt (length bytes) (end_of w)) [
    | inl beyond ↦ beyond
    | inr within ↦ absurd (none-whole w (first known bytes) none
        (ap (λ xs. first known xs) (sym (take-append-drop (end_of w) bytes))
        ∙ laws.whole known (take (end_of w) bytes) (drop (end_of w) bytes) w
        (ap (λ xs. first known xs) (sym (take-append-le (end_of w) bytes more (omega (arith, within))))
        ∙ laws.alone known (bytes ++ more) w some)))
  ]

  held-first : (k : Retained) (p q : List ℕ) (r : Reading (Option Whole)) → first k.known ((k.held ++ p) ++ q) ≡ r
      → first k.known (k.held ++ (p ++ q)) ≡ r
  held-first k p q r is = ap (λ xs. first k.known xs) (sym (append_assoc k.held p q)) ∙ is

  -- a whole message is read as before
  nothing_prepared :
      (k : Retained) (p q : List ℕ) (w : Whole) → first k.known (k.held ++ p) ≡ Ok (Some w)
      → reading k (p ++ q) ≡ given_by k p (Some w)
  unfolding reading
  nothing_prepared k p q w is =
      let m : IsMessage k.known (k.held ++ p) w = laws.message k.known (k.held ++ p) w is in
      let range : slice_range (k.held ++ (p ++ q)) w.front (end_of w) ≡ slice_range (k.held ++ p) w.front (end_of w) =
      ap (λ xs. slice_range xs w.front (end_of w)) (sym (append_assoc k.held p q))
      ∙ same-range (k.held ++ p) q w.front (end_of w) (front-below w) m.within in
      ap (λ r. r >>= given_by k (p ++ q)) (held-first k p q (Ok (Some w)) (laws.whole k.known (k.held ++ p) q w is))
      ∙ ap (λ b. mapped (λ e. given (end_of w - length k.held) (Some e))
      (event_by (after k.known w.meta) k.dictionaries b w.meta.header)) range

  reading-faults : (k : Retained) (p q : List ℕ) (fs : Faults) → reading k p ≡ Err fs → reading k (p ++ q) ≡ Err fs
  unfolding reading
  reading-faults k p q fs is = elim (read-by k p) [
    | by_fault gs found m ↦ ap (λ r. r
        >>= given_by k (p ++ q)) (held-first k p q (Err gs) (laws.faults k.known (k.held ++ p) q gs found)) ∙ sym m ∙ is
    | by_none found m ↦ absurd (ok-err (reading k p) (given (length p) None) fs m is)
    | by_whole w found m ↦ nothing_prepared k p q w found ∙ sym m ∙ is
  ]

  reading-whole :
      (k : Retained) (p q : List ℕ) (used : ℕ) (e : Event) → reading k p ≡ Ok (given used (Some e))
      → reading k (p ++ q) ≡ Ok (given used (Some e))
  reading-whole k p q used e is = elim (read-by k p) [
    | by_fault gs found m ↦ absurd (ok-err (reading k p) (given used (Some e)) gs is m)
    | by_none found m ↦ absurd (no-event (length p) used e (reading k p) m is)
    | by_whole w found m ↦ nothing_prepared k p q w found ∙ sym m ∙ is
  ]

  shift-mapped : (n a b : ℕ) (m : Reading Event) → b ≡ n + a
      → mapped (λ e. given b (Some e)) m ≡ shifted n (mapped (λ e. given a (Some e)) m)
  shift-mapped n a b (Ok e) is = ap (λ u. Ok (given u (Some e))) is
  shift-mapped n a b (Err fs) is = refl

  reading-joins :
      (k : Retained) (p q : List ℕ) → first k.known (k.held ++ p) ≡ Ok None
      → reading k (p ++ q) ≡ shifted (length p) (reading (retained_here k.known k.dictionaries (k.held ++ p)) q)
  unfolding reading
  reading-joins k p q none = by_first (first k.known ((k.held ++ p) ++ q)) refl where
    next : Retained
    next = retained_here k.known k.dictionaries (k.held ++ p)

    by_first : (r : Reading (Option Whole)) → first k.known ((k.held ++ p) ++ q) ≡ r
        → (first k.known (k.held ++ (p ++ q))
        >>= given_by k (p ++ q)) ≡ shifted (length p) (first k.known ((k.held ++ p) ++ q) >>= given_by next q)
    by_first (Err fs) is = rw (held-first k p q (Err fs) is, is) refl
    by_first (Ok None) is = rw (held-first k p q (Ok None) is, is) (ap (λ n. Ok (given n None)) (length-append p q))
    by_first (Ok (Some w)) is =
        let beyond : length (k.held ++ p) < end_of w = ends-beyond k.known (k.held ++ p) q w none is in
        let size : length (k.held ++ p) ≡ length k.held + length p = length-append k.held p in
        rw (held-first k p q (Ok (Some w)) is, is)
        (ap (λ xs. mapped (λ e. given (end_of w - length k.held) (Some e))
        (event_by (after k.known w.meta) k.dictionaries (slice_range xs w.front (end_of w)) w.meta.header))
        (sym (append_assoc k.held p q))
        ∙ shift-mapped (length p) (end_of w - length (k.held ++ p)) (end_of w - length k.held)
        (event_by (after k.known w.meta) k.dictionaries (slice_range ((k.held ++ p) ++ q) w.front (end_of w))
        w.meta.header) (omega (arith, beyond, size)))

  -- what is held is no whole message
  never-whole :
      (n : ℕ) (known : Known) (ds : List DictionaryBatch) (bytes : List ℕ) (w : Whole) → length bytes ≤ n
      → first (retained n known ds bytes).known (retained n known ds bytes).held ≡ Ok (Some w) → ⊥
  unfolding retained
  never-whole zero known ds bytes w small is =
      let none : bytes ≡ [] = nil_from_length bytes (omega (arith, small)) in
      none-whole w (first known []) (laws.none known) (ap (λ xs. first known xs) (sym none) ∙ is)
  never-whole (suc n) known ds bytes w small is =
      by_first (λ k es xs. never-whole n k es xs w) (first known bytes) refl is where
        by_first : ((k : Known) (es : List DictionaryBatch) (xs : List ℕ) → length xs ≤ n
            → first (retained n k es xs).known (retained n k es xs).held ≡ Ok (Some w) → ⊥)
            → (r : Reading (Option Whole)) → first known bytes ≡ r
            → first (retained_after (retained n) known ds bytes r).known
            (retained_after (retained n) known ds bytes r).held ≡ Ok (Some w) → ⊥
        by_first never (Err fs) found at = ok-err (first known bytes) (Some w) fs at found
        by_first never (Ok None) found at = none-whole w (first known bytes) found at
        by_first never (Ok (Some v)) found at =
            let less = left-after laws known bytes v found in
            never (after known v.meta) (ds ++ brought (after known v.meta) bytes v) (drop (end_of v) bytes)
            (omega (arith, small, less)) at

  -- a message that is whole with a piece ends within the piece
  pub ends-in-piece :
      (declared : Option (List (Rose NamedType))) (bytes piece : List ℕ) (w : Whole)
      → first (retained_of declared bytes).known ((retained_of declared bytes).held ++ piece) ≡ Ok (Some w)
      → (length (retained_of declared bytes).held < end_of w)
      × (end_of w ≤ length (retained_of declared bytes).held + length piece)
  unfolding retained_of
  ends-in-piece declared bytes piece w is = by_held (first k.known k.held) refl where
    k : Retained
    k = retained (length bytes) (before declared) [] bytes

    m : IsMessage k.known (k.held ++ piece) w
    m = laws.message k.known (k.held ++ piece) w is

    size : length (k.held ++ piece) ≡ length k.held + length piece
    size = length-append k.held piece

    by_held : (r : Reading (Option Whole)) → first k.known k.held ≡ r
        → (length k.held < end_of w) × (end_of w ≤ length k.held + length piece)
    by_held (Err fs) found =
        absurd (ok-err (first k.known (k.held ++ piece)) (Some w) fs is (laws.faults k.known k.held piece fs found))
    by_held (Ok None) found = (ends-beyond k.known k.held piece w found is, omega (arith, m.within, size))
    by_held (Ok (Some v)) found = absurd (never-whole (length bytes) (before declared) [] bytes v (omega arith) found)

  -- by condition
  closed-fault : (p q : List ℕ) (fs : Faults) → closed p ≡ Err fs → closed (p ++ q) ≡ Err fs
  closed-fault [] q fs is = absurd (ok-err (closed []) (given 0 None) fs refl is)
  closed-fault (x ∷ p) q fs is = is

  closed-none : (p : List ℕ) (used : ℕ) (e : Event) → closed p ≡ Ok (given used (Some e)) → ⊥
  closed-none [] used e is = no-event 0 used e (closed []) refl is
  closed-none (x ∷ p) used e is = absurd (cc)

  closed-empty : (p : List ℕ) (g : Given) → closed p ≡ Ok g → (p ≡ []) × (g ≡ given 0 None)
  closed-empty [] g is = (refl, ok-same (closed []) g (given 0 None) is refl)
  closed-empty (x ∷ p) g is = absurd (cc)

  shift-none : (m : Reading Given) → m ≡ shifted 0 m
  shift-none (Ok g) = ap (λ u. Ok (given u g.event)) (omega arith)
  shift-none (Err fs) = refl

  closed-joins : (p q : List ℕ) (g : Given) (k : Retained) → closed p ≡ Ok g
      → closed (p ++ q) ≡ shifted (length p) (closed q)
  closed-joins p q g k is =
      let none : p ≡ [] = (closed-empty p g is).0 in
      subst (λ xs. closed (xs ++ q) ≡ shifted (length xs) (closed q)) (sym none) (shift-none (closed q))

  faults-when : (c : Condition) (k : Retained) (p q : List ℕ) (fs : Faults) → given_when c k p ≡ Err fs
      → given_when c k (p ++ q) ≡ Err fs
  faults-when condition.Opened k p q fs is = reading-faults k p q fs is
  faults-when condition.Ended k p q fs is = closed-fault p q fs is
  faults-when condition.Finished k p q fs is = closed-fault p q fs is
  faults-when condition.Broken k p q fs is = closed-fault p q fs is

  whole-when :
      (c : Condition) (k : Retained) (p q : List ℕ) (used : ℕ) (e : Event) → given_when c k p ≡ Ok (given used (Some e))
      → given_when c k (p ++ q) ≡ Ok (given used (Some e))
  whole-when condition.Opened k p q used e is = reading-whole k p q used e is
  whole-when condition.Ended k p q used e is = absurd (closed-none p used e is)
  whole-when condition.Finished k p q used e is = absurd (closed-none p used e is)
  whole-when condition.Broken k p q used e is = absurd (closed-none p used e is)

  pub faults-stay : FaultsStay
  unfolding gives
  faults-stay s p q fs is = faults-when s.condition (retained_in s) p q fs is

  pub whole-stays : WholeStays
  unfolding gives
  whole-stays s p q used e is = whole-when s.condition (retained_in s) p q used e is

  pub whole-uses : WholeUses
  unfolding gives
  whole-uses s p used e = by_condition s.condition where
    by_condition : (c : Condition) → given_when c (retained_in s) p ≡ Ok (given used (Some e))
        → (0 < used) × (used ≤ length p)
    by_condition condition.Opened is = elim (event-by (retained_in s) p used e is) [
      | event_of w found m size ↦ (
        omega (arith, size, (ends-in-piece s.declared s.bytes p w found).0),
        omega (arith, size, (ends-in-piece s.declared s.bytes p w found).1),
      )
    ]
    by_condition condition.Ended is = absurd (closed-none p used e is)
    by_condition condition.Finished is = absurd (closed-none p used e is)
    by_condition condition.Broken is = absurd (closed-none p used e is)

  closed-uses : (p : List ℕ) (used : ℕ) → closed p ≡ Ok (given used None) → used ≡ length p
  closed-uses p used is =
      let e = closed-empty p (given used None) is in
      ap (λ g. g.used) e.1 ∙ sym (ap (λ xs. length xs) e.0)

  pub partial-uses : PartialUses
  unfolding gives
  partial-uses s p used = by_condition s.condition where
    by_condition : (c : Condition) → given_when c (retained_in s) p ≡ Ok (given used None) → used ≡ length p
    by_condition condition.Opened is = ap (λ g. g.used) (partial-by (retained_in s) p (given used None) is refl).1
    by_condition condition.Ended is = closed-uses p used is
    by_condition condition.Finished is = closed-uses p used is
    by_condition condition.Broken is = closed-uses p used is

  -- a piece without an event, and the next
  joins-when :
      (c : Condition) (s : FeedState) (p q : List ℕ) (g : Given) → s.condition ≡ c
      → given_when c (retained_in s) p ≡ Ok g → g.event ≡ None
      → given_when c (retained_in s) (p ++ q) ≡ shifted (length p)
      (given_when c (retained_of s.declared (s.bytes ++ take g.used p)) q)
  joins-when condition.Opened s p q g at is none =
      let k : Retained = retained_in s in
      let found = partial-by k p g is none in
      let all : take g.used p ≡ p = ap (λ x. take x.used p) found.1 ∙ take-length p in
      reading-joins k p q found.0
      ∙ ap (λ x. shifted (length p) (reading x q))
      (sym (ap (λ xs. retained_of s.declared (s.bytes ++ xs)) all
      ∙ after-partial laws s.declared s.bytes p k refl found.0))
  joins-when condition.Ended s p q g at is none =
      closed-joins p q g (retained_of s.declared (s.bytes ++ take g.used p)) is
  joins-when condition.Finished s p q g at is none =
      closed-joins p q g (retained_of s.declared (s.bytes ++ take g.used p)) is
  joins-when condition.Broken s p q g at is none =
      closed-joins p q g (retained_of s.declared (s.bytes ++ take g.used p)) is

  same-condition : (c : Condition) (m : Option Event) → m ≡ None → condition_after c m ≡ c
  same-condition c None is = refl
  same-condition c (Some e) is = absurd (cc)

  pub partial-joins : PartialJoins
  unfolding gives after_push
  partial-joins s p q g is none =
      joins-when s.condition s p q g refl is none
      ∙ ap (λ c. shifted (length p) (given_when c (retained_of s.declared (s.bytes ++ take g.used p)) q))
      (sym (same-condition s.condition g.event none))
