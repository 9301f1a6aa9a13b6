-- The index of rows by key, as rows are added, removed, and retracted.
use Rattle.std.proofs.Common.{
  ◌≡◌,
  ℕ,
  zero,
  suc,
  ◌<◌,
  ◌≤◌,
  Bool,
  true,
  false,
  List,
  [],
  ◌∷◌,
  ◌++◌,
  None,
  Some,
  length,
  take,
  set,
  get_or,
  refl,
  ap,
  sym,
  subst,
  ◌∙◌,
  arith,
  true≢false,
}
use Rattle.std.specs.Prelude.{Option, slice_get, MatchOption, if◌then◌else◌}
use Rattle.std.proofs.Math.ListN.{get_or-append}
use Rattle.std.proofs.lemmas.List.{get_or-take}
use Rattle.std.proofs.lemmas.Option.{get_or_from_slice_get, none-some, slice_get-get_or}
use Rattle.values.specs.declared.key.Key.{Key}
use Rattle.values.specs.declared.key.Key.TheVariants as key
use Rattle.row_keys.specs.KeyTable.{AreApart, IsNew}
use Rattle.row_keys.specs.declared.numbers.Entry.{Entry}
use Rattle.row_keys.specs.Index.{HoldsPlace, IsFree, IsIndex, flagged, seen, seen_all}
use Rattle.row_keys.specs.Numbers.{AreDistinct, IsAt, IsUnused, Numbered, live_count, numbered, turned}
use Rattle.row_keys.proofs.Places.{some_same}

-- the position of a row's key is that of its entry
pub seen_at : (keys : List Key) (es : List Entry) (n : ℕ) (e : Entry) → slice_get es n ≡ Some e
    → slice_get (seen_all keys es) n ≡ Some (seen keys e)
seen_at keys [] n e h = absurd (none-some e h)
seen_at keys (x ∷ es) zero e h = ap (λ y. Some (seen keys y)) (some_same x e h)
seen_at keys (x ∷ es) (suc n) e h = seen_at keys es n e h

pub entry_at :
    (keys : List Key) (es : List Entry) (n : ℕ) (x : Numbered) → slice_get (seen_all keys es) n ≡ Some x
    → (e : Entry) × (slice_get es n ≡ Some e) × (x ≡ seen keys e)
entry_at keys [] n x h = absurd (none-some x h)
entry_at keys (y ∷ es) zero x h = (y, refl, sym (some_same (seen keys y) x h))
entry_at keys (y ∷ es) (suc n) x h = entry_at keys es n x h

-- a live row with a key is the holder at its position
held_by :
    (keys : List Key) (hs : List ℕ) (es : List Entry) (live p n : ℕ) (k : Key) → IsIndex keys hs es live → AreApart keys
    → slice_get keys p ≡ Some k → IsAt (seen_all keys es) n k true → HoldsPlace es p n × (slice_get hs p ≡ Some n)
held_by keys hs es live p n k is apart there at =
    let found = entry_at keys es n (numbered k true) at in
    let e : Entry = found.0 in
    let known : k ≡ get_or keys e.key key.Null = ap (λ x. x.key) found.2 in
    let lives : true ≡ e.is_live = ap (λ x. x.live) found.2 in
    let within : e.key < length keys = is.keyed n e found.1 in
    let here : slice_get keys e.key ≡ Some k =
    slice_get-get_or keys e.key key.Null within ∙ ap (λ x. Some x) (sym known) in
    let same : e.key ≡ p = apart e.key p k here there in
    let P : ℕ → Type 0 = λ q. slice_get hs q ≡ Some n in
    ((e, found.1, same, sym lives), subst P same (is.held n e found.1 (sym lives)))

pub found_row :
    (keys : List Key) (hs : List ℕ) (es : List Entry) (live p : ℕ) (k : Key) (r : Option ℕ) → IsIndex keys hs es live
    → AreApart keys
    → slice_get keys p ≡ Some k → MatchOption r (IsFree hs es p) (HoldsPlace es p)
    → MatchOption r (IsUnused (seen_all keys es) k) (λ n. IsAt (seen_all keys es) n k true)
found_row keys hs es live p k None is apart there free = λ n at.
    let holds = held_by keys hs es live p n k is apart there at in free n holds.1 holds.0
found_row keys hs es live p k (Some n) is apart there h =
    let known : get_or keys h.0.key key.Null ≡ k =
    ap (λ q. get_or keys q key.Null) h.2 ∙ get_or_from_slice_get keys p k key.Null there in
    seen_at keys es n h.0 h.1 ∙ ap (λ x. Some (numbered x h.0.is_live)) known ∙ ap (λ b. Some (numbered k b)) h.3

pub no_row : (keys : List Key) (hs : List ℕ) (es : List Entry) (live : ℕ) (k : Key) → IsIndex keys hs es live
    → IsNew keys k → IsUnused (seen_all keys es) k
no_row keys hs es live k is new n at =
    let found = entry_at keys es n (numbered k true) at in
    let known : k ≡ get_or keys found.0.key key.Null = ap (λ x. x.key) found.2 in
    new found.0.key (slice_get-get_or keys found.0.key key.Null (is.keyed n found.0 found.1)
    ∙ ap (λ x. Some x) (sym known))

pub rows_distinct : (keys : List Key) (hs : List ℕ) (es : List Entry) (live : ℕ) → IsIndex keys hs es live
    → AreApart keys → AreDistinct (seen_all keys es)
rows_distinct keys hs es live is apart m n k here there =
    let found = entry_at keys es m (numbered k true) here in
    let known : k ≡ get_or keys found.0.key key.Null = ap (λ x. x.key) found.2 in
    let at : slice_get keys found.0.key ≡ Some k =
    slice_get-get_or keys found.0.key key.Null (is.keyed m found.0 found.1) ∙ ap (λ x. Some x) (sym known) in
    let one = held_by keys hs es live found.0.key m k is apart at here in
    let other = held_by keys hs es live found.0.key n k is apart at there in
    some_same m n (sym one.1 ∙ other.1)

-- Entries that are read with more keys, or with fewer.
pub seen_more : (keys more : List Key) (es : List Entry)
    → ((n : ℕ) (e : Entry) → slice_get es n ≡ Some e → e.key < length keys)
    → seen_all (keys ++ more) es ≡ seen_all keys es
seen_more keys more [] keyed = refl
seen_more keys more (e ∷ es) keyed =
    ap (λ k. numbered k e.is_live ∷ seen_all (keys ++ more) es)
    (get_or-append keys more key.Null e.key (keyed 0 e refl))
    ∙ ap (λ xs. seen keys e ∷ xs) (seen_more keys more es (λ n f at. keyed (suc n) f at))

pub seen_fewer : (keys : List Key) (k : ℕ) (es : List Entry)
    → ((n : ℕ) (e : Entry) → slice_get es n ≡ Some e → e.key < k) → seen_all (take k keys) es ≡ seen_all keys es
seen_fewer keys k [] keyed = refl
seen_fewer keys k (e ∷ es) keyed =
    ap (λ x. numbered x e.is_live ∷ seen_all (take k keys) es) (get_or-take k keys e.key key.Null (keyed 0 e refl))
    ∙ ap (λ xs. seen keys e ∷ xs) (seen_fewer keys k es (λ n f at. keyed (suc n) f at))

pub count_pushed : (xs : List Numbered) (k : Key) → live_count (xs ++ numbered k true ∷ []) ≡ suc (live_count xs)
count_pushed [] k = refl
count_pushed (x ∷ xs) k = by x.live (count_pushed xs k)
  where
    by : (b : Bool) → live_count (xs ++ numbered k true ∷ []) ≡ suc (live_count xs)
        → (if b then suc (live_count (xs ++ numbered k true ∷ [])) else live_count (xs ++ numbered k true ∷ [])) ≡ suc
        (if b then suc (live_count xs) else live_count xs)
    by true h = ap suc h
    by false h = h

pub count_within : (xs : List Numbered) → live_count xs ≤ length xs
count_within [] = omega arith
count_within (x ∷ xs) = by x.live (count_within xs)
  where
    by : (b : Bool) → live_count xs ≤ length xs → (if b then suc (live_count xs) else live_count xs) ≤ suc (length xs)
    by true h = omega (arith, h)
    by false h = omega (arith, h)

pub count_retracted : (xs : List Numbered) (n : ℕ) (k : Key) → IsAt xs n k true
    → live_count xs ≡ suc (live_count (turned false xs n))
count_retracted [] n k at = absurd (none-some (numbered k true) at)
count_retracted (x ∷ xs) zero k at = by x.live (ap (λ y. y.live) (some_same x (numbered k true) at))
  where
    by : (b : Bool) → b ≡ true → (if b then suc (live_count xs) else live_count xs) ≡ suc (live_count xs)
    by true h = refl
    by false h = absurd (true≢false (sym h))
count_retracted (x ∷ xs) (suc n) k at = by x.live (count_retracted xs n k at)
  where
    by : (b : Bool) → live_count xs ≡ suc (live_count (turned false xs n))
        → (if b then suc (live_count xs) else live_count xs) ≡ suc (if b then suc (live_count (turned false xs n))
        else live_count (turned false xs n))
    by true h = ap suc h
    by false h = h

pub count_revived : (xs : List Numbered) (n : ℕ) (k : Key) → IsAt xs n k false
    → live_count (turned true xs n) ≡ suc (live_count xs)
count_revived [] n k at = absurd (none-some (numbered k false) at)
count_revived (x ∷ xs) zero k at = by x.live (ap (λ y. y.live) (some_same x (numbered k false) at))
  where
    by : (b : Bool) → b ≡ false → suc (live_count xs) ≡ suc (if b then suc (live_count xs) else live_count xs)
    by false h = refl
    by true h = absurd (true≢false h)
count_revived (x ∷ xs) (suc n) k at = by x.live (count_revived xs n k at)
  where
    by : (b : Bool) → live_count (turned true xs n) ≡ suc (live_count xs)
        → (if b then suc (live_count (turned true xs n)) else live_count (turned true xs n)) ≡ suc (if b
        then suc (live_count xs) else live_count xs)
    by true h = ap suc h
    by false h = h

free_by : (hs : List ℕ) (es : List Entry) (p n : ℕ) → slice_get hs p ≡ Some n → (HoldsPlace es p n → ⊥) → IsFree hs es p
free_by hs es p n there none m here holds = let P : ℕ
    → Type 0 = λ k. HoldsPlace es p k in none (subst P (some_same m n (sym here ∙ there)) holds)

pub free_past : (hs : List ℕ) (es : List Entry) (p : ℕ) → slice_get hs p ≡ None → IsFree hs es p
free_past hs es p past n here holds = none-some n (sym past ∙ here)

pub free_gone : (hs : List ℕ) (es : List Entry) (p n : ℕ) → slice_get hs p ≡ Some n → slice_get es n ≡ None
    → IsFree hs es p
free_gone hs es p n there past = free_by hs es p n there (λ holds. none-some holds.0 (sym past ∙ holds.1))

pub ruleset holding = (free_past, free_gone)

pub set-flagged :
    (es : List Entry) (n : ℕ) (b : Bool) (d : Entry)
    → set es n (record { key = (get_or es n d).key; is_live = b; is_new = (get_or es n d).is_new }) ≡ flagged b es n
set-flagged [] n b d = refl
set-flagged (e ∷ es) zero b d = refl
set-flagged (e ∷ es) (suc n) b d = ap (λ xs. e ∷ xs) (set-flagged es n b d)

pub ruleset flagging = (set-flagged)
