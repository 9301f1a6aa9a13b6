-- The entries of rows by number.
use Rattle.std.proofs.Common.{◌≡◌, ◌⊎◌, inl, inr, ℕ, zero, suc, ◌+◌, ◌-◌, ◌<◌, ◌≤◌, Bool, true, false, None, Some, List, [], ◌∷◌, ◌++◌, ◌||◌, cond, filter, get_or, length, refl, ap, sym, subst, ◌∙◌, arith, true≢false}
use Rattle.std.specs.Prelude.{if◌then◌else◌, nat_eq, nat_lt, replicate, slice_get, slice_set}
use Rattle.std.specs.List.Sorted.{IsPartitionPoint, IsPartitionedBy}
use Rattle.std.proofs.lemmas.Bool.{lt-ltb, ltb-false, ltb-true, ne_eqb}
use Rattle.std.proofs.lemmas.Bool.Decides.{eqb_tells, leb_tells}
use Rattle.std.proofs.lemmas.Option.{get_or_from_slice_get, none-some, slice_get-get_or, slice_get_within}
use Rattle.row_keys.specs.Entries.{AreInOrder, Changes, EndsAt, all_entries, entry_in, gone_entry, is_kept}
use Rattle.values.specs.declared.key.Key.{Key}
use Rattle.row_keys.specs.Index.{HoldsPlace, IsFree, IsIndex, IsRetainedIndex, flagged}
use Rattle.row_keys.specs.Listed.{listed}
use Rattle.row_keys.specs.declared.numbers.Entry.{Entry}
use Rattle.row_keys.specs.declared.numbers.RetainedEntry.{RetainedEntry}
use Rattle.row_keys.proofs.ListedItems.{
  listed_add,
  listed_all,
  listed_at,
  listed_long,
  listed_past,
  listed_same,
  listed_set,
}
use Rattle.row_keys.proofs.Places.{some_same}

same_eq : (n m : ℕ) → n ≡ m → nat_eq n m ≡ true
same_eq n m is = elim (eqb_tells n m) [ inl t ↦ t.0 | inr t ↦ absurd (t.1 is) ]

lt_or_le : (i j : ℕ) → (i < j) ⊎ (j ≤ i)
lt_or_le i j = elim (leb_tells (suc i) j) [ inl t ↦ inl (omega (arith, t.1)) | inr t ↦ inr (omega (arith, t.1)) ]

entry_here : (k : RetainedEntry) (ks : List RetainedEntry) (n : ℕ) → k.number ≡ n → entry_in (k ∷ ks) n ≡ k.entry
entry_here k ks n is = ap (λ b. if b then k.entry else entry_in ks n) (same_eq k.number n is)

entry_other : (k : RetainedEntry) (ks : List RetainedEntry) (n : ℕ) → (k.number ≡ n → ⊥) → entry_in (k ∷ ks) n ≡ entry_in ks n
entry_other k ks n other = ap (λ b. if b then k.entry else entry_in ks n) (ne_eqb k.number n other)

entry_rest : (k : RetainedEntry) (ks js : List RetainedEntry) (n : ℕ) → entry_in ks n ≡ entry_in js n
    → entry_in (k ∷ ks) n ≡ entry_in (k ∷ js) n
entry_rest k ks js n same = ap (λ e. if nat_eq k.number n then k.entry else e) same

pub order_within : (from len : ℕ) (ks : List RetainedEntry) → AreInOrder from ks len → from ≤ len
order_within from len [] are = are
order_within from len (k ∷ ks) are =
    let rest = order_within (suc k.number) len ks are.1 in
    let low = are.0 in
    omega (arith, rest, low)

pub none_before : (from len n : ℕ) (ks : List RetainedEntry) → AreInOrder from ks len → n < from → entry_in ks n ≡ gone_entry
none_before from len n [] are before = refl
none_before from len n (k ∷ ks) are before =
    let low = are.0 in
    entry_other k ks n (λ e. omega (arith, before, low, e))
    ∙ none_before (suc k.number) len n ks are.1 (omega (arith, before, low))

pub none_past : (from len n : ℕ) (ks : List RetainedEntry) → AreInOrder from ks len → len ≤ n → entry_in ks n ≡ gone_entry
none_past from len n [] are past = refl
none_past from len n (k ∷ ks) are past =
    let rest = order_within (suc k.number) len ks are.1 in
    entry_other k ks n (λ e. omega (arith, rest, past, e)) ∙ none_past (suc k.number) len n ks are.1 past

number_from : (from len p : ℕ) (ks : List RetainedEntry) (k : RetainedEntry) → AreInOrder from ks len → slice_get ks p ≡ Some k
    → from ≤ k.number
number_from from len p [] k are there = absurd (none-some k there)
number_from from len zero (j ∷ js) k are there = subst (λ (x : RetainedEntry). from ≤ x.number) (some_same j k there) are.0
number_from from len (suc p) (j ∷ js) k are there =
    let rest = number_from (suc j.number) len p js k are.1 there in
    let low = are.0 in
    omega (arith, rest, low)

-- the entry at a position is that of its number
pub entry_there : (from len p : ℕ) (ks : List RetainedEntry) (k : RetainedEntry) → AreInOrder from ks len → slice_get ks p ≡ Some k
    → entry_in ks k.number ≡ k.entry
entry_there from len p [] k are there = absurd (none-some k there)
entry_there from len zero (j ∷ js) k are there =
    let P : RetainedEntry → Type 0 = λ x. entry_in (x ∷ js) k.number ≡ k.entry in
    subst P (sym (some_same j k there)) (entry_here k js k.number refl)
entry_there from len (suc p) (j ∷ js) k are there =
    let above = number_from (suc j.number) len p js k are.1 there in
    entry_other j js k.number (λ e. omega (arith, above, e)) ∙ entry_there (suc j.number) len p js k are.1 there

-- a number that none has
entry_none : (ks : List RetainedEntry) (n : ℕ) → ((i : ℕ) (k : RetainedEntry) → slice_get ks i ≡ Some k → k.number ≡ n → ⊥)
    → entry_in ks n ≡ gone_entry
entry_none [] n none = refl
entry_none (k ∷ ks) n none =
    entry_other k ks n (none 0 k refl) ∙ entry_none ks n (λ i j there. none (suc i) j there)

numbers_rise : (from len i j : ℕ) (ks : List RetainedEntry) (a b : RetainedEntry) → AreInOrder from ks len → i ≤ j
    → slice_get ks i ≡ Some a → slice_get ks j ≡ Some b → a.number ≤ b.number
numbers_rise from len i j [] a b are le first second = absurd (none-some a first)
numbers_rise from len zero zero (k ∷ ks) a b are le first second =
    let same = ap (λ (x : RetainedEntry). x.number) (sym (some_same k a first) ∙ some_same k b second) in omega (arith, same)
numbers_rise from len zero (suc j) (k ∷ ks) a b are le first second =
    let above = number_from (suc k.number) len j ks b are.1 second in
    let same = ap (λ (x : RetainedEntry). x.number) (some_same k a first) in
    omega (arith, above, same)
numbers_rise from len (suc i) zero (k ∷ ks) a b are le first second = absurd (omega (arith, le))
numbers_rise from len (suc i) (suc j) (k ∷ ks) a b are le first second =
    numbers_rise (suc k.number) len i j ks a b are.1 (omega (arith, le)) first second

-- Looking a number up

pub kept_parted : (ks : List RetainedEntry) (len n : ℕ) → AreInOrder 0 ks len → IsPartitionedBy (λ k. nat_lt k.number n) ks
kept_parted ks len n are i j d le below passes =
    let after : slice_get ks j ≡ Some (get_or ks j d) = slice_get-get_or ks j d below in
    let before : slice_get ks i ≡ Some (get_or ks i d) = slice_get-get_or ks i d (omega (arith, le, below)) in
    let rise = numbers_rise 0 len i j ks (get_or ks i d) (get_or ks j d) are le before after in
    let less = ltb-true (get_or ks j d).number n passes in
    lt-ltb (get_or ks i d).number n (omega (arith, rise, less))

pub not_there :
    (ks : List RetainedEntry) (len n p : ℕ) → AreInOrder 0 ks len
    → IsPartitionPoint (λ k. nat_lt k.number n ≡ true) (λ k. nat_lt k.number n ≡ false) ks p
    → ((k : RetainedEntry) → slice_get ks p ≡ Some k → k.number ≡ n → ⊥) → entry_in ks n ≡ gone_entry
not_there ks len n p are point none = entry_none ks n (λ i k there is.
    let within = slice_get_within ks i k there in
    let here : get_or ks i k ≡ k = get_or_from_slice_get ks i k k there in
    elim (lt_or_le i p) [
      | inl before ↦
          let P : RetainedEntry → Type 0 = λ x. nat_lt x.number n ≡ true in
          let less = ltb-true k.number n (subst P here (point.0 i k (omega arith) before)) in
          omega (arith, less, is)
      | inr after ↦
          let first : slice_get ks p ≡ Some (get_or ks p k) =
          slice_get-get_or ks p k (omega (arith, after, within)) in
          let P : RetainedEntry → Type 0 = λ x. nat_lt x.number n ≡ false in
          let least : n ≤ (get_or ks p k).number =
          ltb-false (get_or ks p k).number n (point.1 p k (omega arith) (omega (arith, after, within))) in
          let rise = numbers_rise 0 len p i ks (get_or ks p k) k are after first there in
          none (get_or ks p k) first (omega (arith, least, rise, is))
    ])

-- numbers between the retained ones
pub gone_between :
    (ks : List RetainedEntry) (len n p m : ℕ) → AreInOrder 0 ks len
    → IsPartitionPoint (λ k. nat_lt k.number n ≡ true) (λ k. nat_lt k.number n ≡ false) ks p
    → ((k : RetainedEntry) → slice_get ks p ≡ Some k → m ≤ k.number) → (i : ℕ) → n ≤ i → i < m
    → entry_in ks i ≡ gone_entry
gone_between ks len n p m are point next i above below = entry_none ks i (λ j k there is.
    let within = slice_get_within ks j k there in
    let here : get_or ks j k ≡ k = get_or_from_slice_get ks j k k there in
    elim (lt_or_le j p) [
      | inl before ↦
          let P : RetainedEntry → Type 0 = λ x. nat_lt x.number n ≡ true in
          let less = ltb-true k.number n (subst P here (point.0 j k (omega arith) before)) in
          omega (arith, less, is, above)
      | inr after ↦
          let first : slice_get ks p ≡ Some (get_or ks p k) =
          slice_get-get_or ks p k (omega (arith, after, within)) in
          let least = next (get_or ks p k) first in
          let rise = numbers_rise 0 len p j ks (get_or ks p k) k are after first there in
          omega (arith, least, rise, is, below)
    ])

-- the first of them from a number on
pub next_from :
    (ks : List RetainedEntry) (n p : ℕ) (k : RetainedEntry)
    → IsPartitionPoint (λ x. nat_lt x.number n ≡ true) (λ x. nat_lt x.number n ≡ false) ks p
    → slice_get ks p ≡ Some k → n ≤ k.number
next_from ks n p k point there =
    let P : RetainedEntry → Type 0 = λ x. nat_lt x.number n ≡ false in
    let here : get_or ks p k ≡ k = get_or_from_slice_get ks p k k there in
    ltb-false k.number n (subst P here (point.1 p k (omega arith) (slice_get_within ks p k there)))

pub number_within : (from len p : ℕ) (ks : List RetainedEntry) (k : RetainedEntry) → AreInOrder from ks len
    → slice_get ks p ≡ Some k → k.number < len
number_within from len p [] k are there = absurd (none-some k there)
number_within from len zero (j ∷ js) k are there =
    let least = order_within (suc j.number) len js are.1 in
    let same = ap (λ (x : RetainedEntry). x.number) (some_same j k there) in
    omega (arith, least, same)
number_within from len (suc p) (j ∷ js) k are there = number_within (suc j.number) len p js k are.1 there

-- An entry is replaced.

abbrev kept : ℕ → Entry → RetainedEntry
kept n e = record { number = n; entry = e }

order_set : (from len p : ℕ) (ks : List RetainedEntry) (k : RetainedEntry) (e : Entry) → AreInOrder from ks len
    → slice_get ks p ≡ Some k → AreInOrder from (slice_set ks p (kept k.number e)) len
order_set from len p [] k e are there = are
order_set from len zero (j ∷ js) k e are there =
    let same = ap (λ (x : RetainedEntry). x.number) (some_same j k there) in
    let low = are.0 in
    (omega (arith, low, same), subst (λ m. AreInOrder (suc m) js len) same are.1)
order_set from len (suc p) (j ∷ js) k e are there = (are.0, order_set (suc j.number) len p js k e are.1 there)

set_other : (p : ℕ) (ks : List RetainedEntry) (k : RetainedEntry) (e : Entry) (n : ℕ) → slice_get ks p ≡ Some k
    → (n ≡ k.number → ⊥) → entry_in (slice_set ks p (kept k.number e)) n ≡ entry_in ks n
set_other p [] k e n there other = refl
set_other zero (j ∷ js) k e n there other =
    let same = ap (λ (x : RetainedEntry). x.number) (some_same j k there) in
    entry_other (kept k.number e) js n (λ q. other (sym q)) ∙ sym (entry_other j js n (λ q. other (sym q ∙ same)))
set_other (suc p) (j ∷ js) k e n there other =
    entry_rest j (slice_set js p (kept k.number e)) js n (set_other p js k e n there other)

set_there : (p : ℕ) (ks : List RetainedEntry) (k : RetainedEntry) (e : Entry) → slice_get ks p ≡ Some k
    → slice_get (slice_set ks p (kept k.number e)) p ≡ Some (kept k.number e)
set_there p [] k e there = absurd (none-some k there)
set_there zero (j ∷ js) k e there = refl
set_there (suc p) (j ∷ js) k e there = set_there p js k e there

pub changed : (ks : List RetainedEntry) (n p : ℕ) (k : RetainedEntry) (e : Entry) → slice_get ks p ≡ Some k → k.number ≡ n
    → Changes ks n e (slice_set ks p (record { number = k.number; entry = e }))
changed ks n p k e there is = record {
  order = λ len are. order_set 0 len p ks k e are there;
  here = λ len are.
      ap (entry_in (slice_set ks p (kept k.number e))) (sym is)
      ∙ entry_there 0 len p (slice_set ks p (kept k.number e)) (kept k.number e)
      (order_set 0 len p ks k e are there) (set_there p ks k e there);
  others = λ len i are other. set_other p ks k e i there (λ q. other (q ∙ is));
}

pub entries_set : (old new : List RetainedEntry) (len n : ℕ) (e : Entry) → AreInOrder 0 old len → Changes old n e new
    → all_entries new len ≡ slice_set (all_entries old len) n e
entries_set old new len n e are is =
    let number : 0 + n ≡ n = omega arith in
    listed_set (entry_in old) (entry_in new) 0 len n e (λ i other. is.others len i are (λ q. other (omega (arith, q))))
    (ap (entry_in new) number ∙ is.here len are)

-- the entry of a number
pub entries_at : (ks : List RetainedEntry) (len n : ℕ) (d : Entry) → n < len → get_or (all_entries ks len) n d ≡ entry_in ks n
entries_at ks len n d below =
    let e : 0 + n ≡ n = omega arith in listed_at (entry_in ks) 0 len n d below ∙ ap (entry_in ks) e

pub entries_long : (ks : List RetainedEntry) (len : ℕ) → length (all_entries ks len) ≡ len
entries_long ks len = listed_long (entry_in ks) 0 len

pub entries_get : (ks : List RetainedEntry) (len n : ℕ) → n < len → slice_get (all_entries ks len) n ≡ Some (entry_in ks n)
entries_get ks len n below =
    let long = entries_long ks len in
    slice_get-get_or (all_entries ks len) n (entry_in ks n) (omega (arith, below, long))
    ∙ ap Some (entries_at ks len n (entry_in ks n) below)

-- One more is added, or removed.

pub entries_more : (ks js : List RetainedEntry) (len : ℕ) (e : Entry) → ((i : ℕ) → i < len → entry_in js i ≡ entry_in ks i)
    → entry_in js len ≡ e → all_entries js (len + 1) ≡ all_entries ks len ++ e ∷ []
entries_more ks js len e same here =
    let number : 0 + len ≡ len = omega arith in
    listed_add (entry_in js) 0 len 1 (len + 1) refl
    ∙ ap (λ es. es ++ listed (entry_in js) (0 + len) 1)
    (listed_same (entry_in js) (entry_in ks) 0 len (λ i low high. same i (omega (arith, high))))
    ∙ ap (λ x. all_entries ks len ++ x ∷ []) (ap (entry_in js) number ∙ here)

last_other : (ks : List RetainedEntry) (k : RetainedEntry) (n : ℕ) → (k.number ≡ n → ⊥) → entry_in (ks ++ k ∷ []) n ≡ entry_in ks n
last_other [] k n other = entry_other k [] n other
last_other (j ∷ js) k n other = entry_rest j (js ++ k ∷ []) js n (last_other js k n other)

last_here : (from len : ℕ) (ks : List RetainedEntry) (k : RetainedEntry) → AreInOrder from ks len → len ≤ k.number
    → entry_in (ks ++ k ∷ []) k.number ≡ k.entry
last_here from len [] k are past = entry_here k [] k.number refl
last_here from len (j ∷ js) k are past =
    let rest = order_within (suc j.number) len js are.1 in
    entry_other j (js ++ k ∷ []) k.number (λ e. omega (arith, rest, past, e))
    ∙ last_here (suc j.number) len js k are.1 past

pub order_more : (from len end : ℕ) (ks : List RetainedEntry) (k : RetainedEntry) → AreInOrder from ks len → len ≤ k.number
    → k.number < end → AreInOrder from (ks ++ k ∷ []) end
order_more from len end [] k are past below = (omega (arith, are, past), omega (arith, below))
order_more from len end (j ∷ js) k are past below =
    (are.0, order_more (suc j.number) len end js k are.1 past below)

pub order_less : (from len : ℕ) (ks : List RetainedEntry) (k : RetainedEntry) → AreInOrder from (ks ++ k ∷ []) len
    → AreInOrder from ks k.number × (k.number < len)
order_less from len [] k are = let low = are.1 in (are.0, omega (arith, low))
order_less from len (j ∷ js) k are =
    let rest = order_less (suc j.number) len js k are.1 in ((are.0, rest.0), rest.1)

pub order_upto : (from len end : ℕ) (ks : List RetainedEntry) → AreInOrder from ks len → len ≤ end → AreInOrder from ks end
order_upto from len end [] are le = omega (arith, are, le)
order_upto from len end (k ∷ ks) are le = (are.0, order_upto (suc k.number) len end ks are.1 le)

-- a row is added with an entry
pub entries_pushed : (ks : List RetainedEntry) (len : ℕ) (e : Entry) → AreInOrder 0 ks len
    → all_entries (ks ++ record { number = len; entry = e } ∷ []) (len + 1) ≡ all_entries ks len ++ e ∷ []
entries_pushed ks len e are =
    entries_more ks (ks ++ kept len e ∷ []) len e (λ i below. last_other ks (kept len e) i (λ q. omega (arith, q, below)))
    (last_here 0 len ks (kept len e) are (omega arith))

-- a number is added without an entry
pub entries_skipped : (ks : List RetainedEntry) (len : ℕ) → AreInOrder 0 ks len
    → all_entries ks (len + 1) ≡ all_entries ks len ++ gone_entry ∷ []
entries_skipped ks len are =
    entries_more ks ks len gone_entry (λ i below. refl) (none_past 0 len len ks are (omega arith))

-- or many
pub entries_passed : (ks : List RetainedEntry) (len end : ℕ) → AreInOrder 0 ks len → len ≤ end
    → all_entries ks end ≡ all_entries ks len ++ replicate (end - len) gone_entry
entries_passed ks len end are le =
    let split : end ≡ len + (end - len) = omega (arith, le) in
    listed_add (entry_in ks) 0 len (end - len) end split
    ∙ ap (λ es. all_entries ks len ++ es)
    (listed_all (entry_in ks) gone_entry (0 + len) (end - len)
    (λ i from. none_past 0 len i ks are (omega (arith, from))))

-- The entries of released rows are removed.

gone_is : (k : RetainedEntry) → is_kept k ≡ false → k.entry ≡ gone_entry
gone_is k is =
    let first = or_parts (nat_lt 0 k.entry.key || k.entry.is_live) k.entry.is_new is in
    let second = or_parts (nat_lt 0 k.entry.key) k.entry.is_live first.0 in
    let low = ltb-false 0 k.entry.key second.0 in
    let zeroth : k.entry.key ≡ 0 = omega (arith, low) in
    ap (λ n. entry n k.entry.is_live k.entry.is_new) zeroth ∙ ap (λ b. entry 0 b k.entry.is_new) second.1
    ∙ ap (λ b. entry 0 false b) first.1
  where
    entry : ℕ → Bool → Bool → Entry
    entry n b c = record { key = n; is_live = b; is_new = c }

    or_parts : (a b : Bool) → (a || b) ≡ false → (a ≡ false) × (b ≡ false)
    or_parts true b h = absurd (true≢false h)
    or_parts false b h = (refl, h)

order_from : (from low len : ℕ) (ks : List RetainedEntry) → AreInOrder from ks len → low ≤ from → AreInOrder low ks len
order_from from low len [] are le = omega (arith, are, le)
order_from from low len (k ∷ ks) are le = let above = are.0 in (omega (arith, above, le), are.1)

pub kept_swept : (from len n : ℕ) (ks : List RetainedEntry) → AreInOrder from ks len
    → AreInOrder from (filter is_kept ks) len × (entry_in (filter is_kept ks) n ≡ entry_in ks n)
kept_swept from len n [] are = (are, refl)
kept_swept from len n (k ∷ ks) are = by (is_kept k) refl (kept_swept (suc k.number) len n ks are.1)
  where
    by : (b : Bool) → is_kept k ≡ b
        → AreInOrder (suc k.number) (filter is_kept ks) len × (entry_in (filter is_kept ks) n ≡ entry_in ks n)
        → AreInOrder from (cond b (k ∷ filter is_kept ks) (filter is_kept ks)) len
        × (entry_in (cond b (k ∷ filter is_kept ks) (filter is_kept ks)) n ≡ entry_in (k ∷ ks) n)
    by true is rest = ((are.0, rest.0), entry_rest k (filter is_kept ks) ks n rest.1)
    by false is rest =
        let above = are.0 in (
          order_from (suc k.number) from len (filter is_kept ks) rest.0 (omega (arith, above)),
          elim (eqb_tells k.number n) [
            | inl t ↦
                let same = t.1 in
                none_before (suc k.number) len n (filter is_kept ks) rest.0 (omega (arith, same))
                ∙ sym (entry_here k ks n t.1 ∙ gone_is k is)
            | inr t ↦ rest.1 ∙ sym (entry_other k ks n t.1)
          ],
        )

pub entries_swept : (ks : List RetainedEntry) (len : ℕ) → AreInOrder 0 ks len
    → AreInOrder 0 (filter is_kept ks) len × (all_entries (filter is_kept ks) len ≡ all_entries ks len)
entries_swept ks len are = (
  (kept_swept 0 len 0 ks are).0,
  listed_same (entry_in (filter is_kept ks)) (entry_in ks) 0 len (λ i low high. (kept_swept 0 len i ks are).1),
)

-- The last entry is removed.

-- it is retained
pub last_popped :
    (ks front : List RetainedEntry) (last : ℕ) (k : RetainedEntry) → AreInOrder 0 ks (last + 1) → ks ≡ front ++ k ∷ [] → k.number ≡ last
    → AreInOrder 0 front last × (all_entries ks (last + 1) ≡ all_entries front last ++ k.entry ∷ [])
last_popped ks front last k are split is =
    let P : List RetainedEntry → Type 0 = λ xs. AreInOrder 0 xs (last + 1) in
    let less = order_less 0 (last + 1) front k (subst P split are) in
    let order : AreInOrder 0 front last = subst (λ n. AreInOrder 0 front n) is less.0 in
    let same : k ≡ kept last k.entry = ap (λ n. kept n k.entry) is in (
      order,
      ap (λ xs. all_entries xs (last + 1)) split
          ∙ ap (λ (x : RetainedEntry). all_entries (front ++ x ∷ []) (last + 1)) same
          ∙ entries_pushed front last k.entry order,
    )

-- or it isn't
less_than : (a b : ℕ) → a < b + 1 → (a ≡ b → ⊥) → a < b
less_than a b le differ = elim (lt_or_le a b) [
  | inl lt ↦ lt
  | inr ge ↦ absurd (differ (omega (arith, le, ge)))
]

none_last : (ks : List RetainedEntry) (last : ℕ) → AreInOrder 0 ks (last + 1) → EndsAt ks last false → AreInOrder 0 ks last
none_last ks last are ends = elim ends [
  | inl none ↦ let P : List RetainedEntry → Type 0 = λ xs. AreInOrder 0 xs last in subst P (sym none) (omega arith)
  | inr it ↦
      let P : List RetainedEntry → Type 0 = λ xs. AreInOrder 0 xs (last + 1) in
      let Q : List RetainedEntry → Type 0 = λ xs. AreInOrder 0 xs last in
      let less = order_less 0 (last + 1) it.0 it.1 (subst P it.2 are) in
      subst Q (sym it.2)
      (order_more 0 it.1.number last it.0 it.1 less.0 (omega arith) (less_than it.1.number last less.1 it.3))
]

pub none_popped : (ks : List RetainedEntry) (last : ℕ) → AreInOrder 0 ks (last + 1) → EndsAt ks last false
    → AreInOrder 0 ks last × (all_entries ks (last + 1) ≡ all_entries ks last ++ gone_entry ∷ [])
none_popped ks last are ends = let order = none_last ks last are ends in (order, entries_skipped ks last order)

-- what is popped
pub popped : (ks new front : List RetainedEntry) (k one : RetainedEntry) → ks ≡ front ++ k ∷ [] → ks ≡ new ++ one ∷ []
    → (new ≡ front) × (one ≡ k)
popped ks new front k one split parts = last_same new front one k (sym parts ∙ split)
  where
    empty_not : (ys : List RetainedEntry) (y : RetainedEntry) → [] ≡ ys ++ y ∷ [] → ⊥
    empty_not [] y h = cc h
    empty_not (b ∷ ys) y h = cc h

    last_same : (xs ys : List RetainedEntry) (x y : RetainedEntry) → xs ++ x ∷ [] ≡ ys ++ y ∷ [] → (xs ≡ ys) × (x ≡ y)
    last_same [] [] x y h = (refl, cc h)
    last_same [] (b ∷ ys) x y h = absurd (empty_not ys y (cc h))
    last_same (a ∷ xs) [] x y h = absurd (empty_not xs x (sym (cc h)))
    last_same (a ∷ xs) (b ∷ ys) x y h =
        let rest = last_same xs ys x y (cc h) in
        (ap (λ z. z ∷ xs) (cc h) ∙ ap (λ zs. b ∷ zs) rest.0, rest.1)

pub one_popped :
    (ks new front : List RetainedEntry) (last : ℕ) (k one : RetainedEntry) → AreInOrder 0 ks (last + 1)
    → ks ≡ front ++ k ∷ [] → k.number ≡ last → ks ≡ new ++ one ∷ []
    → AreInOrder 0 new last × (all_entries ks (last + 1) ≡ all_entries new last ++ one.entry ∷ [])
one_popped ks new front last k one are split is parts =
    let same = popped ks new front k one split parts in
    last_popped ks new last one are parts (ap (λ (x : RetainedEntry). x.number) same.1 ∙ is)

-- The holder of a key

pub held_here : (ks : List RetainedEntry) (len n place : ℕ) (e : Entry) → AreInOrder 0 ks len → e ≡ entry_in ks n
    → e.key ≡ place → e.is_live ≡ true → HoldsPlace (all_entries ks len) place n
held_here ks len n place e are is key lives = elim (lt_or_le n len) [
  | inl below ↦ (e, entries_get ks len n below ∙ ap Some (sym is), key, lives)
  | inr past ↦
      absurd (true≢false (sym lives ∙ ap (λ (x : Entry). x.is_live) (is ∙ none_past 0 len n ks are past)))
]

pub held_not : (hs : List ℕ) (ks : List RetainedEntry) (len n place : ℕ) (e : Entry) → AreInOrder 0 ks len
    → slice_get hs place ≡ Some n → e ≡ entry_in ks n → (e.key ≡ place → e.is_live ≡ true → ⊥)
    → IsFree hs (all_entries ks len) place
held_not hs ks len n place e are there is none m here holds =
    let same : m ≡ n = number_same m n (sym here ∙ there) in
    let within = slice_get_within (all_entries ks len) m holds.0 holds.1 in
    let long = entries_long ks len in
    let entry : holds.0 ≡ e =
    some_same holds.0 e (sym holds.1 ∙ entries_get ks len m (omega (arith, within, long)) ∙ ap (λ i. Some (entry_in ks i)) same
    ∙ ap Some (sym is)) in
    none (sym (ap (λ (x : Entry). x.key) entry) ∙ holds.2) (sym (ap (λ (x : Entry). x.is_live) entry) ∙ holds.3)
  where
    number_same : (a b : ℕ) → Some a ≡ Some b → a ≡ b
    number_same a b h = cc h

pub held_none : (hs : List ℕ) (ks : List RetainedEntry) (len place : ℕ) → slice_get hs place ≡ None
    → IsFree hs (all_entries ks len) place
held_none hs ks len place none n here holds = none-some n (sym none ∙ here)

-- Flags of entries

pub flagged_set : (es : List Entry) (n : ℕ) (b : Bool) (e : Entry) → n < length es → get_or es n e ≡ e
    → slice_set es n (record { key = e.key; is_live = b; is_new = e.is_new }) ≡ flagged b es n
flagged_set [] n b e below is = absurd (omega (arith, below))
flagged_set (x ∷ xs) zero b e below is =
    ap (λ (y : Entry). record { key = y.key; is_live = b; is_new = y.is_new } ∷ xs) (sym is)
flagged_set (x ∷ xs) (suc n) b e below is = ap (λ es. x ∷ es) (flagged_set xs n b e (omega (arith, below)) is)

pub flagged_past : (es : List Entry) (n : ℕ) (b : Bool) → length es ≤ n → flagged b es n ≡ es
flagged_past [] n b past = refl
flagged_past (x ∷ xs) zero b past = absurd (omega (arith, past))
flagged_past (x ∷ xs) (suc n) b past = ap (λ es. x ∷ es) (flagged_past xs n b (omega (arith, past)))

set_past : (es : List Entry) (n : ℕ) (e : Entry) → length es ≤ n → slice_set es n e ≡ es
set_past [] n e past = refl
set_past (x ∷ xs) zero e past = absurd (omega (arith, past))
set_past (x ∷ xs) (suc n) e past = ap (λ es. x ∷ es) (set_past xs n e (omega (arith, past)))

pub entries_flagged :
    (old new : List RetainedEntry) (len n : ℕ) (b : Bool) (e : Entry) → AreInOrder 0 old len → e ≡ entry_in old n
    → Changes old n (record { key = e.key; is_live = b; is_new = e.is_new }) new
    → all_entries new len ≡ flagged b (all_entries old len) n
entries_flagged old new len n b e are is changes =
    let long = entries_long old len in
    entries_set old new len n (record { key = e.key; is_live = b; is_new = e.is_new }) are changes
    ∙ elim (lt_or_le n len) [
      | inl below ↦
          flagged_set (all_entries old len) n b e (omega (arith, below, long)) (entries_at old len n e below ∙ sym is)
      | inr past ↦
          set_past (all_entries old len) n (record { key = e.key; is_live = b; is_new = e.is_new })
          (omega (arith, past, long))
          ∙ sym (flagged_past (all_entries old len) n b (omega (arith, past, long)))
    ]

flag_gone : (es : List Entry) (n : ℕ) → get_or es n gone_entry ≡ gone_entry → flagged false es n ≡ es
flag_gone [] n gone = refl
flag_gone (x ∷ xs) zero gone =
    ap (λ (y : Entry). record { key = y.key; is_live = false; is_new = y.is_new } ∷ xs) gone
    ∙ ap (λ y. y ∷ xs) (sym gone)
flag_gone (x ∷ xs) (suc n) gone = ap (λ es. x ∷ es) (flag_gone xs n gone)

set_gone : (es : List Entry) (n : ℕ) → get_or es n gone_entry ≡ gone_entry → es ≡ slice_set es n gone_entry
set_gone [] n gone = refl
set_gone (x ∷ xs) zero gone = ap (λ y. y ∷ xs) gone
set_gone (x ∷ xs) (suc n) gone = ap (λ es. x ∷ es) (set_gone xs n gone)

gone_at : (ks : List RetainedEntry) (len n : ℕ) → entry_in ks n ≡ gone_entry
    → get_or (all_entries ks len) n gone_entry ≡ gone_entry
gone_at ks len n gone = elim (lt_or_le n len) [
  | inl below ↦ entries_at ks len n gone_entry below ∙ gone
  | inr past ↦ listed_past (entry_in ks) 0 len n gone_entry past
]

pub none_flagged : (ks : List RetainedEntry) (len n : ℕ) (b : Bool) → entry_in ks n ≡ gone_entry → b ≡ false
    → all_entries ks len ≡ flagged b (all_entries ks len) n
none_flagged ks len n b gone off =
    sym (flag_gone (all_entries ks len) n (gone_at ks len n gone)) ∙ ap (λ c. flagged c (all_entries ks len) n) (sym off)

pub none_forgotten : (ks : List RetainedEntry) (len n : ℕ) → entry_in ks n ≡ gone_entry
    → all_entries ks len ≡ slice_set (all_entries ks len) n gone_entry
none_forgotten ks len n gone = set_gone (all_entries ks len) n (gone_at ks len n gone)

-- What holds of the index where the entries change

pub index_swept :
    (keys : List Key) (hs : List ℕ) (ks : List RetainedEntry) (len live : ℕ) → IsRetainedIndex keys hs ks len live
    → IsRetainedIndex keys hs (filter is_kept ks) len live
index_swept keys hs ks len live is =
    let swept = entries_swept ks len is.order in
    let P : List Entry → Type 0 = λ es. IsIndex keys hs es live in
    record {
      index = subst P (sym swept.1) is.index;
      order = swept.0;
      bound = is.bound;
    }
