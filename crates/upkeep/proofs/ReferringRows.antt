-- The rows that refer to keys, and a view of them where those keys' rows change.
use Rattle.std.proofs.Common.{
  ◌≡◌,
  ℕ,
  zero,
  suc,
  ◌+◌,
  ◌<◌,
  ◌≤◌,
  ◌||◌,
  ◌&&◌,
  All,
  Bool,
  true,
  false,
  cond,
  List,
  [],
  ◌∷◌,
  Option,
  None,
  Some,
  count_by,
  get_or,
  length,
  map,
  refl,
  ap,
  sym,
  subst,
  ◌∙◌,
  arith,
  true≢false,
}
use Rattle.std.specs.BTreeMap.{is_at}
use Rattle.std.specs.List.{list_any}
use Rattle.std.specs.List.Sorted.{IsStrictlySortedBy}
use Rattle.std.specs.Ordering.{is_eq, nat_cmp}
use Rattle.std.specs.Option.{option_and_then}
use Rattle.std.proofs.lemmas.Option.{none-some}
use Rattle.std.specs.Cmp.{nat_cmp_total, tied_itself}
use Rattle.std.specs.Prelude.{if◌then◌else◌, nat_eq, slice_index_or}
use Rattle.std.proofs.lemmas.List.Elements.{All-cons, All-head, All-nil, All-tail}
use Rattle.std.proofs.lemmas.List.Sums.{sum_by-cons}
use Rattle.values.specs.Datum.{Datum}
use Rattle.values.specs.KeyOrder.{KeysAreOrdered}
use Rattle.values.specs.Keys.{datum_of_key, key_of}
use Rattle.values.specs.declared.key.Key.{Key}
use Rattle.view_lang.specs.Cells.{cell_at}
use Rattle.view_lang.specs.Config.{View}
use Rattle.view_lang.specs.Contents.{is_among, same_key}
use Rattle.view_lang.specs.Images.{ImageAt, image}
use Rattle.view_lang.specs.Joined.{Side, joined_by, joined_row, looked_up}
use Rattle.view_lang.specs.Shifts.{row_at}
use Rattle.view_lang.specs.Truth.{passes}
use Rattle.view_lang.specs.declared.view.Lookup.{Lookup}
use Rattle.lookups.specs.Keeping.{Keeps as KeepsReferrers, holds, is_key}
use Rattle.lookups.specs.Refers.{RowsByKey, is_among as is_numbered, refers as refers_to}
use Rattle.row_keys.specs.NumberLaws.{LiveCanGo, NumbersAscend, RowsAreAtNumbers}
use Rattle.row_keys.specs.Numbered.{live_at, numbered}
use Rattle.row_keys.specs.Slots.{CanRetract, IsThere, Slot, live, marked, no_slot, row_of, slot}
use Rattle.row_keys.proofs.KeyCells.{keyless}
use Rattle.row_keys.proofs.KeyFacts.{key_datum}
use Rattle.upkeep.specs.Touched.{refers_by}
use Rattle.upkeep.specs.ViewStates.{looks_up, projected_by, projected_row, referring_by, referring_row}
use Rattle.upkeep.proofs.SwappedRows.{row_marked}

some_is : {X : Type 0} (x y : X) → Some x ≡ Some y → x ≡ y
some_is x y h = cc h

-- keys as values

pub is_key_same : KeysAreOrdered → (d : Datum) (k : Key) (o : Option Key) → key_of d ≡ o
    → is_key k o ≡ same_key d (datum_of_key k)
is_key_same law d k None h = sym (keyless d k h)
is_key_same law d k (Some held) h =
    ap is_eq (law held k) ∙ ap (λ x. same_key x (datum_of_key k)) (key_datum d held h)

-- A row refers to one of some keys where its cell is among them.
any_among : KeysAreOrdered → (d : Datum) (keys : List Key)
    → list_any (λ k. is_key k (key_of d)) keys ≡ is_among d (map datum_of_key keys)
unfolding is_among
any_among law d [] = refl
any_among law d (k ∷ ks) =
    ap (λ b. b || list_any (λ x. is_key x (key_of d)) ks) (is_key_same law d k (key_of d) refl)
    ∙ ap (λ b. same_key d (datum_of_key k) || b) (any_among law d ks)

any_none : {X : Type 0} (f : X → Bool) (xs : List X) → ((x : X) → f x ≡ false) → list_any f xs ≡ false
any_none f [] h = refl
any_none f (x ∷ xs) h = ap (λ b. b || list_any f xs) (h x) ∙ any_none f xs h

any_same : {X : Type 0} (f g : X → Bool) (xs : List X) → ((x : X) → f x ≡ g x) → list_any f xs ≡ list_any g xs
any_same f g [] h = refl
any_same f g (x ∷ xs) h = ap (λ b. b || list_any f xs) (h x) ∙ ap (λ b. g x || b) (any_same f g xs h)

-- whether a row refers to one of some keys, if it is live
abbrev pub refers_live : Lookup → List Datum → Option (List Datum) → Bool
refers_live l keys None = false
refers_live l keys (Some row) = is_among (cell_at row l.on) keys

cell_refers : KeysAreOrdered → (l : Lookup) (keys : List Key) (o : Option (List Datum))
    → list_any (λ k. holds k (option_and_then (referring_by (Some l)) o)) keys
    ≡ refers_live l (map datum_of_key keys) o
cell_refers law l keys None = any_none (λ k. false) keys (λ k. refl)
cell_refers law l keys (Some row) = any_among law (cell_at row l.on) keys

-- Numbers are those of the live rows that refer to one of the keys.
abbrev pub AreReferring : Lookup → List Datum → List Slot → List ℕ → Type 0
AreReferring l keys slots ns = (n : ℕ) → is_numbered ns n ≡ refers_live l keys (live_at slots n)

pub are_referring :
    KeysAreOrdered → ImageAt → NumbersAscend → RowsAreAtNumbers → (v : View) (l : Lookup) (kept : RowsByKey)
    (slots : List Slot) (keys : List Key) (ns : List ℕ) → v.lookup ≡ Some l
    → KeepsReferrers kept (image (referring_row v) (numbered slots))
    → ((n : ℕ) → is_numbered ns n ≡ list_any (λ k. refers_to kept k n) keys)
    → AreReferring l (map datum_of_key keys) slots ns
are_referring law at ascend numbers v l kept slots keys ns look keeps are = λ n.
    are n
    ∙ any_same (λ k. refers_to kept k n) (λ k. holds k (option_and_then (referring_by (Some l)) (live_at slots n))) keys
    (λ k. keeps.rows_are k n
    ∙ ap (holds k) (at (referring_row v) (numbered slots) n (ascend slots)
    ∙ ap (λ o. option_and_then (referring_by o) (row_at n (numbered slots))) look
    ∙ ap (option_and_then (referring_by (Some l))) (numbers slots n)))
    ∙ cell_refers law l keys (live_at slots n)

-- The numbered rows can be retracted: they are live.

itself : (n : ℕ) → is_at (nat_cmp n) n ≡ true
itself n = ap is_eq (tied_itself nat_cmp_total n)

or_true : (a b : Bool) → b ≡ true → (a || b) ≡ true
or_true true b h = refl
or_true false b h = h

all_listed : (ms ns : List ℕ) → ((m : ℕ) → is_numbered ms m ≡ true → is_numbered ns m ≡ true)
    → All (λ m. is_numbered ns m ≡ true) ms
all_listed [] ns f = All-nil (λ m. is_numbered ns m ≡ true)
all_listed (m ∷ ms) ns f =
    All-cons (λ k. is_numbered ns k ≡ true) m ms (f m (ap (λ b. b || is_numbered ms m) (itself m)))
    (all_listed ms ns (λ k h. f k (or_true (is_at (nat_cmp k) m) (is_numbered ms k) h)))

pub lives : (l : Lookup) (keys : List Datum) (slots : List Slot) (n : ℕ)
    → refers_live l keys (live_at slots n) ≡ true → live_at slots n ≡ Some (row_of slots n)
lives l keys slots n h = by (get_or slots n no_slot).live h
  where
    by : (b : Bool) → refers_live l keys (if b then Some (row_of slots n) else None) ≡ true
        → (if b then Some (row_of slots n) else None) ≡ Some (row_of slots n)
    by true k = refl
    by false k = absurd (true≢false (sym k))

referring_live : (l : Lookup) (keys : List Datum) (slots : List Slot) (ns : List ℕ) → AreReferring l keys slots ns
    → All (λ n. live_at slots n ≡ Some (row_of slots n)) ns
referring_live l keys slots ns are = λ k d below.
    let n : ℕ = slice_index_or ns k d in
    lives l keys slots n (sym (are n) ∙ all_listed ns ns (λ m h. h) k d below)

below_live : (slots : List Slot) (n : ℕ) (r : List Datum) → live_at slots n ≡ Some r → n < length slots
below_live [] n r h = absurd (none-some r h)
below_live (s ∷ ss) zero r h = omega arith
below_live (s ∷ ss) (suc n) r h = let below = below_live ss n r h in omega (arith, below)

pub referring_below : (l : Lookup) (keys : List Datum) (slots : List Slot) (ns : List ℕ) → AreReferring l keys slots ns
    → All (λ n. n < length slots) ns
referring_below l keys slots ns are = λ k d below.
    let n : ℕ = slice_index_or ns k d in
    below_live slots n (row_of slots n) (referring_live l keys slots ns are k d below)

pub can_retract : LiveCanGo → (l : Lookup) (keys : List Datum) (slots : List Slot) (ns : List ℕ)
    → AreReferring l keys slots ns → IsStrictlySortedBy nat_cmp ns → CanRetract ns slots
can_retract law l keys slots ns are ascending = law ns slots ascending (referring_live l keys slots ns are)

-- They are no more than the rows that refer to one of the keys.

count_marked : (p : List Datum → Bool) (slots : List Slot) (n : ℕ) → IsThere slots n true
    → p (row_of slots n) ≡ true → count_by p (live slots) ≡ suc (count_by p (live (marked false slots n)))
unfolding live
count_marked p [] n there is = absurd (none-some (slot there.0 true) there.1)
count_marked p (s ∷ ss) zero there is =
    let P : Slot → Type 0 = λ x. p x.row ≡ true
    → count_by p (if x.live then x.row ∷ live ss else live ss) ≡ suc (count_by p (live ss)) in
    subst P (sym (some_is s (slot there.0 true) there.1))
    (λ (h : p there.0 ≡ true). sum_by-cons (λ r. cond (p r) 1 0) there.0 (live ss)
    ∙ ap (λ b. cond b 1 0 + count_by p (live ss)) h ∙ omega arith) is
count_marked p (s ∷ ss) (suc n) there is = by s.live (count_marked p ss n there is)
  where
    by : (b : Bool) → count_by p (live ss) ≡ suc (count_by p (live (marked false ss n)))
        → count_by p (if b then s.row ∷ live ss else live ss)
        ≡ suc (count_by p (if b then s.row ∷ live (marked false ss n) else live (marked false ss n)))
    by true rest =
        let one = sum_by-cons (λ r. cond (p r) 1 0) s.row (live ss) in
        let two = sum_by-cons (λ r. cond (p r) 1 0) s.row (live (marked false ss n)) in
        omega (arith, one, two, rest)
    by false rest = rest

rows_after : (p : List Datum → Bool) (slots : List Slot) (n : ℕ) (ms : List ℕ)
    → All (λ m. p (row_of slots m) ≡ true) ms → All (λ m. p (row_of (marked false slots n) m) ≡ true) ms
rows_after p slots n ms h = λ k d below. ap p (row_marked false slots n (slice_index_or ms k d)) ∙ h k d below

pub retracted_counted : (p : List Datum → Bool) (ns : List ℕ) (slots : List Slot) → CanRetract ns slots
    → All (λ n. p (row_of slots n) ≡ true) ns → length ns ≤ count_by p (live slots)
unfolding CanRetract
retracted_counted p [] slots can h = omega arith
retracted_counted p (n ∷ ns) slots can h =
    let rest = retracted_counted p ns (marked false slots n) can.1
    (rows_after p slots n ns (All-tail (λ m. p (row_of slots m) ≡ true) n ns h)) in
    let one = count_marked p slots n can.0 (All-head (λ m. p (row_of slots m) ≡ true) n ns h) in
    omega (arith, rest, one)

refers_true : (o : Option Lookup) (l : Lookup) (table : ℕ) (keys row : List Datum) → o ≡ Some l
    → looks_up o table ≡ true → is_among (cell_at row l.on) keys ≡ true → refers_by o table keys row ≡ true
refers_true o l table keys row is look among =
    let P : Option Lookup → Type 0 = λ x. looks_up x table ≡ true → refers_by x table keys row ≡ true in
    subst P (sym is) (λ (h : nat_eq (suc l.side) table ≡ true).
    ap (λ b. b && is_among (cell_at row l.on) keys) h ∙ among) look

pub referring_rows : (o : Option Lookup) (l : Lookup) (table : ℕ) (keys : List Datum) (slots : List Slot) (ns : List ℕ)
    → o ≡ Some l → looks_up o table ≡ true → AreReferring l keys slots ns
    → All (λ n. refers_by o table keys (row_of slots n) ≡ true) ns
referring_rows o l table keys slots ns is look are = λ k d below.
    let n : ℕ = slice_index_or ns k d in
    refers_true o l table keys (row_of slots n) is look
    (sym (ap (refers_live l keys) (referring_live l keys slots ns are k d below))
    ∙ sym (are n) ∙ all_listed ns ns (λ m h. h) k d below)

pub referring_counted : LiveCanGo → (o : Option Lookup) (l : Lookup) (table : ℕ) (keys : List Datum)
    (slots : List Slot) (ns : List ℕ) → o ≡ Some l → looks_up o table ≡ true → AreReferring l keys slots ns
    → IsStrictlySortedBy nat_cmp ns → length ns ≤ count_by (refers_by o table keys) (live slots)
referring_counted law o l table keys slots ns is look are ascending =
    retracted_counted (refers_by o table keys) ns slots (can_retract law l keys slots ns are ascending)
    (referring_rows o l table keys slots ns is look are)

-- A view makes the same of a row whose cell isn't among the keys.

looked_alike : (o : Option Lookup) (l : Lookup) (a b : Side) (row : List Datum) → o ≡ Some l
    → a (cell_at row l.on) ≡ b (cell_at row l.on) → looked_up o a row ≡ looked_up o b row
looked_alike o l a b row is same =
    subst (λ (x : Option Lookup). looked_up x a row ≡ looked_up x b row) (sym is) same

pub made_alike : (v : View) (a b : Side) (row : List Datum) → looked_up v.lookup a row ≡ looked_up v.lookup b row
    → projected_row v a row ≡ projected_row v b row
unfolding joined_row
made_alike v a b row same =
    ap (λ (found : Option (List Datum)). projected_by v.outputs
    (option_and_then (λ (r : List Datum). cond (passes v.filter r) (Some r) None) (joined_by v.lookup row found))) same

pub left_alike : (v : View) (l : Lookup) (a b : Side) (keys : List Datum) (slots : List Slot) (ns : List ℕ)
    → v.lookup ≡ Some l → ((d : Datum) → is_among d keys ≡ false → a d ≡ b d) → AreReferring l keys slots ns
    → (m : ℕ) (r : List Datum) → live_at slots m ≡ Some r → is_numbered ns m ≡ false → projected_row v a r ≡ projected_row v b r
left_alike v l a b keys slots ns is same are m r live apart =
    made_alike v a b r
    (looked_alike v.lookup l a b r is
    (same (cell_at r l.on) (sym (ap (refers_live l keys) live) ∙ sym (are m) ∙ apart)))
