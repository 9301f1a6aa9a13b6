-- What holds of the index of rows by number, where entries are stored for rows.
use Rattle.std.proofs.Common.{◌≡◌, ℕ, ◌<◌, ◌+◌, ◌++◌, Bool, true, false, List, [], ◌∷◌, Some, get_or, length, ap, sym, subst, ◌∙◌, arith, true≢false}
use Rattle.std.specs.Prelude.{◌-◌, ◌^◌, ◌≤◌, slice_get, slice_set}
use Rattle.std.proofs.lemmas.List.{length-map}
use Rattle.std.proofs.lemmas.Option.{get_or_from_slice_get, slice_get_within}
use Rattle.values.specs.Datum.{is_null}
use Rattle.values.specs.Keys.{datum_of_key}
use Rattle.values.specs.declared.key.Key.{Key}
use Rattle.values.specs.declared.key.Key.TheVariants as key
use Rattle.row_keys.specs.Entries.{AreInOrder, IsRetainedAt, all_entries, entry_in, gone_entry}
use Rattle.row_keys.specs.Index.{IsIndex, IsRetainedIndex, flagged, seen, seen_all}
use Rattle.row_keys.specs.Numbers.{IsAt, IsUnused, Numbered, no_row, numbered, turned}
use Rattle.row_keys.specs.declared.numbers.Entry.{Entry}
use Rattle.row_keys.specs.declared.numbers.RetainedEntry.{RetainedEntry}
use Rattle.row_keys.proofs.GoneRows.{index_gone, null_there, seen_gone}
use Rattle.row_keys.proofs.Indexes.{seen_at}
use Rattle.row_keys.proofs.IndexChanges.{
  flagged_front,
  index_replaced,
  index_retracted,
  index_revived,
  live_some,
  live_within,
  new_entry,
  rows_flagged,
}
use Rattle.row_keys.proofs.RetainedEntries.{entries_at, entries_get, entries_long, entries_pushed, entry_there, order_more}
use Rattle.row_keys.proofs.Places.{some_same}

-- a number of a row is below how many there are
pub kept_below :
    (keys : List Key) (ks : List RetainedEntry) (len n : ℕ) (xs : List Numbered) → seen_all keys (all_entries ks len) ≡ xs
    → n < length xs → n < len
kept_below keys ks len n xs view below =
    let many = length-map (all_entries ks len) (seen keys) in
    let long = entries_long ks len in
    let P : List Numbered → Type 0 = λ ys. n < length ys in
    let there = subst P (sym view) below in
    omega (arith, many, long, there)

-- what is seen of a number
pub kept_seen :
    (keys : List Key) (ks js : List RetainedEntry) (len n : ℕ) (e : Entry) (xs : List Numbered)
    → seen_all keys (all_entries ks len) ≡ xs → n < length xs → e ≡ entry_in js n → js ≡ ks
    → seen keys e ≡ get_or xs n no_row
kept_seen keys ks js len n e xs view below is same =
    let there : slice_get (seen_all keys (all_entries ks len)) n ≡ Some (seen keys (entry_in ks n)) =
    seen_at keys (all_entries ks len) n (entry_in ks n) (entries_get ks len n (kept_below keys ks len n xs view below)) in
    let got : get_or (seen_all keys (all_entries ks len)) n no_row ≡ seen keys (entry_in ks n) =
    get_or_from_slice_get (seen_all keys (all_entries ks len)) n (seen keys (entry_in ks n)) no_row there in
    ap (seen keys) (is ∙ ap (λ zs. entry_in zs n) same) ∙ sym got ∙ ap (λ ys. get_or ys n no_row) view

-- its key has a position
pub kept_keyed :
    (keys : List Key) (hs : List ℕ) (ks js : List RetainedEntry) (len live n : ℕ) (e : Entry) (xs : List Numbered)
    → IsRetainedIndex keys hs ks len live → seen_all keys (all_entries ks len) ≡ xs → n < length xs
    → e ≡ entry_in js n → js ≡ ks → e.key < length keys
kept_keyed keys hs ks js len live n e xs is view below at same =
    let keyed =
    is.index.keyed n (entry_in ks n) (entries_get ks len n (kept_below keys ks len n xs view below)) in
    let key : e.key ≡ (entry_in ks n).key = ap (λ (x : Entry). x.key) (at ∙ ap (λ zs. entry_in zs n) same) in
    omega (arith, keyed, key)

pub at_below : (xs : List Numbered) (n : ℕ) (k : Key) (b : Bool) → IsAt xs n k b → n < length xs
at_below xs n k b at = slice_get_within xs n (numbered k b) at

-- a row that was retracted and isn't released has an entry
pub gone_not :
    (keys : List Key) (hs : List ℕ) (ks : List RetainedEntry) (len live n : ℕ) (k : Key) (xs : List Numbered)
    → IsRetainedIndex keys hs ks len live → seen_all keys (all_entries ks len) ≡ xs → IsAt xs n k false
    → is_null (datum_of_key k) ≡ false → entry_in ks n ≡ gone_entry → ⊥
gone_not keys hs ks len live n k xs is view at not gone =
    let below = kept_below keys ks len n xs view (at_below xs n k false at) in
    let there : slice_get (all_entries ks len) n ≡ Some (entry_in ks n) = entries_get ks len n below in
    let long = entries_long ks len in
    let null = null_there keys hs (all_entries ks len) live n is.index (omega (arith, below, long)) in
    let P : List Numbered → Type 0 = λ ys. slice_get ys n ≡ Some (numbered k false) in
    let seen_here : seen keys (entry_in ks n) ≡ numbered k false =
    some_same (seen keys (entry_in ks n)) (numbered k false)
    (sym (seen_at keys (all_entries ks len) n (entry_in ks n) there) ∙ subst P (sym view) at) in
    let first : get_or keys 0 key.Null ≡ key.Null = get_or_from_slice_get keys 0 key.Null key.Null null.1 in
    let known : k ≡ key.Null =
    sym (ap (λ (x : Numbered). x.key) seen_here) ∙ ap (λ (e : Entry). get_or keys e.key key.Null) gone ∙ first in
    let off : true ≡ false = sym (ap (λ q. is_null (datum_of_key q)) known) ∙ not in
    true≢false off

-- the entry at the position of a number
pub entry_got :
    (ks js : List RetainedEntry) (len n p : ℕ) (k : RetainedEntry) → AreInOrder 0 ks len → js ≡ ks → IsRetainedAt js n p
    → k ≡ get_or ks p k → k.entry ≡ entry_in ks n
entry_got ks js len n p k are same at got =
    let P : List RetainedEntry → Type 0 = λ zs. slice_get zs p ≡ Some at.one in
    let there : slice_get ks p ≡ Some at.one = subst P same at.there in
    let here : k ≡ at.one = got ∙ get_or_from_slice_get ks p at.one k there in
    ap (λ (x : RetainedEntry). x.entry) here ∙ sym (entry_there 0 len p ks at.one are there) ∙ ap (entry_in ks) at.number

pub kept_in : (ks js : List RetainedEntry) (n p : ℕ) → js ≡ ks → IsRetainedAt js n p → IsRetainedAt ks n p
kept_in ks js n p same at = subst (λ zs. IsRetainedAt zs n p) same at

-- A row is released.

pub index_forgotten :
    (keys : List Key) (hs : List ℕ) (ks new : List RetainedEntry) (len live n : ℕ) (xs : List Numbered)
    → IsRetainedIndex keys hs ks len live → seen_all keys (all_entries ks len) ≡ xs → n < length xs
    → (get_or xs n no_row).live ≡ false
    → AreInOrder 0 new len → all_entries new len ≡ slice_set (all_entries ks len) n gone_entry
    → IsRetainedIndex keys hs new len live
index_forgotten keys hs ks new len live n xs is view below off order gone =
    let within = kept_below keys ks len n xs view below in
    let long = entries_long ks len in
    let P : List Numbered → Type 0 = λ ys. (get_or ys n no_row).live ≡ false in
    let Q : List Entry → Type 0 = λ es. IsIndex keys hs es live in
    record {
      index = subst Q (sym gone)
          (index_gone keys hs (all_entries ks len) live n is.index (omega (arith, within, long)) (subst P (sym view) off));
      order = order;
      bound = is.bound;
    }

pub seen_forgotten :
    (keys : List Key) (hs : List ℕ) (ks new : List RetainedEntry) (len live n : ℕ) (xs : List Numbered)
    → IsRetainedIndex keys hs ks len live → seen_all keys (all_entries ks len) ≡ xs → n < length xs
    → all_entries new len ≡ slice_set (all_entries ks len) n gone_entry
    → seen_all keys (all_entries new len) ≡ slice_set xs n no_row
seen_forgotten keys hs ks new len live n xs is view below gone =
    let within = kept_below keys ks len n xs view below in
    let long = entries_long ks len in
    ap (λ es. seen_all keys es) gone
    ∙ seen_gone keys (all_entries ks len) n
    (null_there keys hs (all_entries ks len) live n is.index (omega (arith, within, long))).1
    ∙ ap (λ ys. slice_set ys n no_row) view

-- A row is retracted, or made live.

pub seen_turned :
    (keys : List Key) (ks new : List RetainedEntry) (len n : ℕ) (b : Bool) (xs : List Numbered)
    → seen_all keys (all_entries ks len) ≡ xs → all_entries new len ≡ flagged b (all_entries ks len) n
    → seen_all keys (all_entries new len) ≡ turned b xs n
seen_turned keys ks new len n b xs view flag =
    ap (λ es. seen_all keys es) flag ∙ rows_flagged keys (all_entries ks len) b n ∙ ap (λ ys. turned b ys n) view

pub index_off :
    (keys : List Key) (hs : List ℕ) (ks new : List RetainedEntry) (len live n : ℕ) (k : Key) (xs : List Numbered)
    → IsRetainedIndex keys hs ks len live → seen_all keys (all_entries ks len) ≡ xs → IsAt xs n k true
    → AreInOrder 0 new len → all_entries new len ≡ flagged false (all_entries ks len) n
    → IsRetainedIndex keys hs new len (live - 1)
index_off keys hs ks new len live n k xs is view at order flag =
    let P : List Numbered → Type 0 = λ ys. IsAt ys n k true in
    let Q : List Entry → Type 0 = λ es. IsIndex keys hs es (live - 1) in
    record {
      index = subst Q (sym flag) (index_retracted keys hs (all_entries ks len) live n k is.index (subst P (sym view) at));
      order = order;
      bound = is.bound;
    }

pub live_there :
    (keys : List Key) (hs : List ℕ) (ks : List RetainedEntry) (len live n : ℕ) (k : Key) (xs : List Numbered)
    → IsRetainedIndex keys hs ks len live → seen_all keys (all_entries ks len) ≡ xs → IsAt xs n k true → 1 ≤ live
live_there keys hs ks len live n k xs is view at =
    let P : List Numbered → Type 0 = λ ys. IsAt ys n k true in
    live_some keys hs (all_entries ks len) live n k is.index (subst P (sym view) at)

pub index_on :
    (keys : List Key) (hs : List ℕ) (ks js new : List RetainedEntry) (len live n : ℕ) (k : Key) (e : Entry) (xs : List Numbered)
    → IsRetainedIndex keys hs ks len live → seen_all keys (all_entries ks len) ≡ xs → e ≡ entry_in js n → js ≡ ks
    → IsAt xs n k false → IsUnused xs k
    → AreInOrder 0 new len → all_entries new len ≡ flagged true (all_entries ks len) n
    → IsRetainedIndex keys (slice_set hs e.key n) new len (live + 1)
index_on keys hs ks js new len live n k e xs is view read same at unused order flag =
    let below = kept_below keys ks len n xs view (at_below xs n k false at) in
    let P : List Numbered → Type 0 = λ ys. IsAt ys n k false in
    let R : List Numbered → Type 0 = λ ys. IsUnused ys k in
    let Q : List Entry → Type 0 = λ es. IsIndex keys (slice_set hs e.key n) es (live + 1) in
    let got : e ≡ get_or (all_entries ks len) n e =
    read ∙ ap (λ zs. entry_in zs n) same ∙ sym (entries_at ks len n e below) in
    record {
      index = subst Q (sym flag)
          (index_revived keys hs (all_entries ks len) live n k e is.index got (subst P (sym view) at)
          (subst R (sym view) unused));
      order = order;
      bound = is.bound;
    }

pub order_pushed :
    (ks mid : List RetainedEntry) (len more : ℕ) (e : Entry) → AreInOrder 0 ks len
    → mid ≡ ks ++ record { number = len; entry = e } ∷ [] → more ≡ len + 1 → AreInOrder 0 mid more
order_pushed ks mid len more e order is next =
    let P : List RetainedEntry → Type 0 = λ zs. AreInOrder 0 zs more in
    subst P (sym is)
    (order_more 0 len more ks (record { number = len; entry = e }) order (omega arith) (omega (arith, next)))

pub all_pushed :
    (ks mid : List RetainedEntry) (len more : ℕ) (e : Entry) → AreInOrder 0 ks len
    → mid ≡ ks ++ record { number = len; entry = e } ∷ [] → more ≡ len + 1
    → all_entries mid more ≡ all_entries ks len ++ e ∷ []
all_pushed ks mid len more e order is next =
    ap (λ zs. all_entries zs more) is
    ∙ ap (λ n. all_entries (ks ++ record { number = len; entry = e } ∷ []) n) next ∙ entries_pushed ks len e order

pub kept_replaced :
    (keys : List Key) (hs : List ℕ) (ks mid new : List RetainedEntry) (len more live n : ℕ) (k : Key) (e : Entry)
    (xs : List Numbered) → IsRetainedIndex keys hs ks len live → seen_all keys (all_entries ks len) ≡ xs
    → e ≡ entry_in ks n → IsAt xs n k true
    → all_entries mid more ≡ all_entries ks len ++ new_entry e.key false ∷ []
    → all_entries new more ≡ flagged false (all_entries mid more) n → AreInOrder 0 new more → more < 2 ^ 63
    → IsRetainedIndex keys (slice_set hs e.key len) new more live
    × (seen_all keys (all_entries new more) ≡ turned false xs n ++ numbered k true ∷ [])
kept_replaced keys hs ks mid new len more live n k e xs is view read at pushed flag order bound =
    let es : List Entry = all_entries ks len in
    let below = kept_below keys ks len n xs view (at_below xs n k true at) in
    let long = entries_long ks len in
    let P : List Numbered → Type 0 = λ ys. IsAt ys n k true in
    let made =
    index_replaced keys hs es live n k e is.index (read ∙ sym (entries_at ks len n e below)) (subst P (sym view) at) in
    let whole : all_entries new more ≡ flagged false es n ++ new_entry e.key false ∷ [] =
    flag ∙ ap (λ fs. flagged false fs n) pushed
    ∙ flagged_front false es (new_entry e.key false ∷ []) n (omega (arith, below, long)) in
    let Q : List Entry → Type 0 = λ fs. IsIndex keys (slice_set hs e.key len) fs live in
    let R : ℕ → Type 0 = λ m. IsIndex keys (slice_set hs e.key m) (flagged false es n ++ new_entry e.key false ∷ []) live
    in (
      record {
        index = subst Q (sym whole) (subst R long made.index);
        order = order;
        bound = bound;
      },
      ap (λ fs. seen_all keys fs) whole ∙ made.rows ∙ ap (λ ys. turned false ys n ++ numbered k true ∷ []) view,
    )

-- there are no more live rows than numbers
pub live_fits :
    (keys : List Key) (hs : List ℕ) (ks : List RetainedEntry) (len live : ℕ) → IsRetainedIndex keys hs ks len live
    → live + 1 < 2 ^ 64
live_fits keys hs ks len live is =
    let few = live_within keys hs (all_entries ks len) live is.index in
    let long = entries_long ks len in
    let most = is.bound in
    omega (arith, few, long, most)

-- What is read from the table of keys
pub key_is : (keys : List Key) (p : ℕ) (k : Key) → slice_get keys p ≡ Some k → k ≡ get_or keys p key.Null
key_is keys p k there = sym (get_or_from_slice_get keys p k key.Null there)
