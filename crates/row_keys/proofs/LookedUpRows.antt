-- Live rows that are looked up by their keys.
use Rattle.std.proofs.Common.{
  ◌≡◌,
  ℕ,
  zero,
  suc,
  ◌<◌,
  Bool,
  true,
  false,
  cond,
  List,
  [],
  ◌∷◌,
  Option,
  None,
  Some,
  find,
  length,
  refl,
  ap,
  sym,
  subst,
  ◌∙◌,
  arith,
  true≢false,
}
use Rattle.std.specs.Prelude.{MatchOption, if◌then◌else◌}
use Rattle.std.proofs.lemmas.Option.{none-some}
use Rattle.values.specs.Datum.{Datum, null, truth, whole, text, bytes, list, structure, is_null}
use Rattle.values.specs.Keys.{datum_of_key, key_of}
use Rattle.values.specs.declared.key.Key.{Key}
use Rattle.values.specs.declared.key.Key.TheVariants as key
use Rattle.view_lang.specs.Causes.{has_repeated}
use Rattle.view_lang.specs.Config.{Table}
use Rattle.view_lang.specs.Contents.{Contents, is_among, key_in, keys_in, same_key}
use Rattle.view_lang.specs.Joined.{side_of}
use Rattle.row_keys.specs.Numbers.{AreDistinct, IsAt, IsUnused, Numbered}
use Rattle.row_keys.specs.Slots.{IsLiveAt, IsThere, Slot, contents_of, live, row_of, slot}
use Rattle.row_keys.specs.Store.{IsKnown, IsUnknown, Store}
use Rattle.row_keys.specs.Stored.{AreGiven, AreKeyed, joined, live_keys}
use Rattle.row_keys.proofs.JoinedNumbers.{joined_at, keys_live, unused_among}
use Rattle.row_keys.proofs.KeyCells.{keyless}
use Rattle.row_keys.proofs.KeyFacts.{key_datum, neither, or_none, same_refl, same_sym}
use Rattle.row_keys.proofs.Places.{some_same}
use Rattle.row_keys.proofs.RetractedRows.{among_live}
use Rattle.row_keys.proofs.TurnedRows.{distinct_joined}

side_given : (t : Table) (c : Contents) (d : Datum) → is_null d ≡ false
    → side_of t c d ≡ find (λ row. same_key d (key_in t row)) c.live
unfolding side_of
side_given t c null h = absurd (true≢false h)
side_given t c (truth b) h = refl
side_given t c (whole n) h = refl
side_given t c (text s) h = refl
side_given t c (bytes b) h = refl
side_given t c (list es) h = refl
side_given t c (structure es) h = refl

pub side_null : (t : Table) (c : Contents) (d : Datum) → is_null d ≡ true → side_of t c d ≡ None
unfolding side_of
side_null t c null h = refl
side_null t c (truth b) h = absurd (true≢false (sym h))
side_null t c (whole n) h = absurd (true≢false (sym h))
side_null t c (text s) h = absurd (true≢false (sym h))
side_null t c (bytes b) h = absurd (true≢false (sym h))
side_null t c (list es) h = absurd (true≢false (sym h))
side_null t c (structure es) h = absurd (true≢false (sym h))

find_none : (t : Table) (d : Datum) (rows : List (List Datum)) → is_among d (keys_in t rows) ≡ false
    → find (λ row. same_key d (key_in t row)) rows ≡ None
unfolding is_among
find_none t d [] h = refl
find_none t d (r ∷ rs) h =
    let a = neither (same_key d (key_in t r)) (is_among d (keys_in t rs)) h in
    ap (λ b. cond b (Some r) (find (λ row. same_key d (key_in t row)) rs)) a.0 ∙ find_none t d rs a.1

-- The first row with a key is the only one.
find_some :
    (t : Table) (d : Datum) (slots : List Slot) (n : ℕ) → IsThere slots n true → key_in t (row_of slots n) ≡ d
    → same_key d d ≡ true → has_repeated (keys_in t (live slots)) ≡ false
    → find (λ row. same_key d (key_in t row)) (live slots) ≡ Some (row_of slots n)
unfolding live has_repeated
find_some t d [] n there is same single = absurd (none-some (slot there.0 true) there.1)
find_some t d (s ∷ ss) zero there is same single =
    let here : s ≡ slot there.0 true = some_same s (slot there.0 true) there.1 in
    let P : Slot → Type 0 = λ x. key_in t x.row ≡ d
    → find (λ row. same_key d (key_in t row)) (if x.live then x.row ∷ live ss else live ss) ≡ Some x.row in
    subst P (sym here)
    (λ e. ap (λ b. cond b (Some there.0) (find (λ row. same_key d (key_in t row)) (live ss)))
    (ap (same_key d) e ∙ same)) is
find_some t d (s ∷ ss) (suc n) there is same single =
    by s.live single (λ rest. find_some t d ss n there is same rest)
  where
    by : (b : Bool) → has_repeated (keys_in t (if b then s.row ∷ live ss else live ss)) ≡ false
        → (has_repeated (keys_in t (live ss)) ≡ false
        → find (λ row. same_key d (key_in t row)) (live ss) ≡ Some (row_of ss n))
        → find (λ row. same_key d (key_in t row)) (if b then s.row ∷ live ss else live ss) ≡ Some (row_of ss n)
    by true one rest =
        let a = neither (is_among (key_in t s.row) (keys_in t (live ss))) (has_repeated (keys_in t (live ss))) one in
        let other : same_key d (key_in t s.row) ≡ false =
        same_sym d (key_in t s.row) ∙ ap (same_key (key_in t s.row)) (sym is)
        ∙ among_live t ss n (key_in t s.row) there a.0 in
        ap (λ b. cond b (Some s.row) (find (λ row. same_key d (key_in t row)) (live ss))) other ∙ rest a.1
    by false one rest = rest one

none_live : (d : Datum) (xs : List Numbered) → key_of d ≡ None → is_among d (live_keys xs) ≡ false
unfolding is_among
none_live d [] h = refl
none_live d (x ∷ xs) h = by x.live (none_live d xs h)
  where
    by : (b : Bool) → is_among d (live_keys xs) ≡ false
        → is_among d (if b then datum_of_key x.key ∷ live_keys xs else live_keys xs) ≡ false
    by true rest = or_none (same_key d (datum_of_key x.key)) (is_among d (live_keys xs)) (keyless d x.key h) rest
    by false rest = rest

abbrev store_of : Table → List (List Datum) → List Numbered → ℕ → Store
store_of t rows xs v = record { table = t; slots = joined rows xs; visits = v }

given_kind : (d : Datum) → key_of d ≡ None → is_null d ≡ false
given_kind null h = absurd (none-some key.Null (sym h))
given_kind (truth b) h = refl
given_kind (whole n) h = refl
given_kind (text s) h = refl
given_kind (bytes b) h = refl
given_kind (list es) h = refl
given_kind (structure es) h = refl

pub unknown_kind :
    (t : Table) (rows : List (List Datum)) (xs : List Numbered) (v : ℕ) (d : Datum) → AreKeyed t rows xs
    → key_of d ≡ None → IsUnknown (store_of t rows xs v) d
unknown_kind t rows xs v d keyed none =
    side_given t (contents_of (joined rows xs)) d (given_kind d none)
    ∙ find_none t d (live (joined rows xs)) (ap (is_among d) (keys_live t rows xs keyed) ∙ none_live d xs none)

there_below : (slots : List Slot) (n : ℕ) (b : Bool) → IsThere slots n b → n < length slots
there_below [] n b there = absurd (none-some (slot there.0 b) there.1)
there_below (s ∷ ss) zero b there = omega arith
there_below (s ∷ ss) (suc n) b there = let below = there_below ss n b there in omega (arith, below)

there_live : (slots : List Slot) (n : ℕ) → IsThere slots n true → IsLiveAt slots n
there_live [] n there = absurd (none-some (slot there.0 true) there.1)
there_live (s ∷ ss) zero there = ap (λ (x : Slot). x.live) (some_same s (slot there.0 true) there.1)
there_live (s ∷ ss) (suc n) there = there_live ss n there

known_by :
    (t : Table) (rows : List (List Datum)) (xs : List Numbered) (v : ℕ) (d : Datum) (k : Key) (found : Option ℕ)
    → AreKeyed t rows xs → AreDistinct xs → is_null d ≡ false → key_of d ≡ Some k
    → MatchOption found (IsUnused xs k) (λ n. IsAt xs n k true)
    → MatchOption found (IsUnknown (store_of t rows xs v) d) (IsKnown (store_of t rows xs v) d)
known_by t rows xs v d k None keyed distinct given is unused =
    let among : is_among d (live_keys xs) ≡ false =
    ap (λ x. is_among x (live_keys xs)) (sym (key_datum d k is)) ∙ unused_among xs k unused in
    side_given t (contents_of (joined rows xs)) d given
    ∙ find_none t d (live (joined rows xs)) (ap (is_among d) (keys_live t rows xs keyed) ∙ among)
known_by t rows xs v d k (Some n) keyed distinct given is at =
    let here = joined_at t rows xs n k true keyed at in
    let exact : datum_of_key k ≡ d = key_datum d k is in
    let same : same_key d d ≡ true = subst (λ x. same_key x x ≡ true) exact (same_refl k) in (
      there_below (joined rows xs) n true here.0,
      side_given t (contents_of (joined rows xs)) d given
          ∙ find_some t d (joined rows xs) n here.0 (here.1 ∙ exact) same
          (distinct_joined t rows xs keyed distinct),
      ap is_null (here.1 ∙ exact) ∙ given,
      there_live (joined rows xs) n here.0,
    )

-- A stored key isn't null, so null finds no row.

pub key_known :
    (t : Table) (rows : List (List Datum)) (xs : List Numbered) (v : ℕ) (k : Key) (found : Option ℕ)
    → AreKeyed t rows xs → AreDistinct xs → AreGiven xs
    → MatchOption found (IsUnused xs k) (λ n. IsAt xs n k true)
    → MatchOption found (IsUnknown (store_of t rows xs v) (datum_of_key k)) (IsKnown (store_of t rows xs v)
    (datum_of_key k))
key_known t rows xs v (key.Bool b) found keyed distinct given at =
    known_by t rows xs v (truth b) (key.Bool b) found keyed distinct refl refl at
key_known t rows xs v (key.Int n) found keyed distinct given at =
    known_by t rows xs v (whole n) (key.Int n) found keyed distinct refl refl at
key_known t rows xs v (key.Utf8 s) found keyed distinct given at =
    known_by t rows xs v (text s) (key.Utf8 s) found keyed distinct refl refl at
key_known t rows xs v (key.Binary b) found keyed distinct given at =
    known_by t rows xs v (bytes b) (key.Binary b) found keyed distinct refl refl at
key_known t rows xs v key.Null None keyed distinct given at = side_null t (contents_of (joined rows xs)) null refl
key_known t rows xs v key.Null (Some n) keyed distinct given at =
    absurd (true≢false (given n key.Null at))
