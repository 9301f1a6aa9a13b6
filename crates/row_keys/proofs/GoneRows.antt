-- The index of rows by key, where position 0 is that of the null key and a row is released.
use Rattle.std.proofs.Common.{◌≡◌, ◌⊎◌, inl, inr, ℕ, zero, suc, ◌<◌, ◌≤◌, false, List, [], ◌∷◌, ◌++◌, Some, length, get_or, refl, ap, sym, subst, ◌∙◌, arith, true≢false}
use Rattle.std.specs.Prelude.{if◌then◌else◌, replicate, slice_get, slice_set}
use Rattle.std.proofs.lemmas.Option.{get_or_from_slice_get, none-some, slice_get_within}
use Rattle.values.specs.declared.key.Key.{Key}
use Rattle.values.specs.declared.key.Key.TheVariants as key
use Rattle.row_keys.specs.KeyTable.{Inserts}
use Rattle.row_keys.specs.declared.numbers.Entry.{Entry}
use Rattle.row_keys.specs.Entries.{gone_entry}
use Rattle.row_keys.specs.Index.{HoldsPlace, IsIndex, StartsWithNull, seen, seen_all}
use Rattle.row_keys.specs.Numbers.{Numbered, live_count, no_row, numbered}
use Rattle.row_keys.proofs.Places.{some_same}
use Rattle.row_keys.proofs.Indexes.{seen_more}
use Rattle.row_keys.proofs.StoreStates.{count_gone}

-- Once the null key has its position, nothing else has changed.
pub record Started (keys new : List Key) (hs hs_new : List ℕ) (es : List Entry) (live : ℕ) : Type 0 where
  pub index : IsIndex new hs_new es live
  pub same : seen_all new es ≡ seen_all keys es
  pub some : 0 < length new

none_keyed : (keys : List Key) (hs : List ℕ) (es : List Entry) (live : ℕ) → IsIndex keys hs es live → keys ≡ []
    → (n : ℕ) (e : Entry) → slice_get es n ≡ Some e → ⊥
none_keyed keys hs es live is none n e at =
    let below = is.keyed n e at in
    let few = ap length none in
    omega (arith, below, few)

pub started :
    (keys new : List Key) (hs hs_new : List ℕ) (es : List Entry) (live : ℕ) → IsIndex keys hs es live
    → StartsWithNull keys hs new hs_new → Started keys new hs hs_new es live
started keys new hs hs_new es live is starts = elim starts [
  | inl had ↦
      let P : List Key → Type 0 = λ ks. Started keys ks hs hs_new es live in
      let Q : List ℕ → Type 0 = λ ns. Started keys keys hs ns es live in
      subst P (sym had.1) (subst Q (sym had.2) (record { index = is; same = refl; some = had.0 }))
  | inr got ↦
      let P : List Key → Type 0 = λ ks. Started keys ks hs hs_new es live in
      let Q : List ℕ → Type 0 = λ ns. Started keys (key.Null ∷ []) hs ns es live in
      let none = none_keyed keys hs es live is got.0 in
      let same : seen_all (key.Null ∷ []) es ≡ seen_all keys es =
      ap (λ ks. seen_all (ks ++ key.Null ∷ []) es) (sym got.0) ∙ seen_more keys (key.Null ∷ []) es is.keyed in
      subst P (sym got.2) (subst Q (sym got.3) (record {
        index = record {
          as_many = refl;
          keyed = λ n e at. absurd (none n e at);
          held = λ n e at lives. absurd (none n e at);
          stacked = λ m n e f before first second new_one. absurd (none m e first);
          counted = is.counted ∙ ap live_count (sym same);
          null_first = λ any. refl;
          after_null = λ n e at new_one. absurd (none n e at);
        };
        same = same;
        some = omega arith;
      }))
]

-- A row is released that isn't live.

-- an entry after one is released
was_or : (es : List Entry) (n m : ℕ) (e : Entry) → slice_get (slice_set es n gone_entry) m ≡ Some e
    → (e ≡ gone_entry) ⊎ (slice_get es m ≡ Some e)
was_or [] n m e at = absurd (none-some e at)
was_or (x ∷ es) zero zero e at = inl (sym (some_same gone_entry e at))
was_or (x ∷ es) zero (suc m) e at = inr at
was_or (x ∷ es) (suc n) zero e at = inr at
was_or (x ∷ es) (suc n) (suc m) e at = was_or es n m e at

null_known : (keys : List Key) → slice_get keys 0 ≡ Some key.Null → seen keys gone_entry ≡ no_row
null_known keys first = ap (λ k. numbered k false) (get_or_from_slice_get keys 0 key.Null key.Null first)

-- the entry of a released row is seen as one, also where there are no keys yet
pub unkeyed : (keys : List Key) → (0 < length keys → slice_get keys 0 ≡ Some key.Null) → seen keys gone_entry ≡ no_row
unkeyed [] first = refl
unkeyed (k ∷ ks) first = null_known (k ∷ ks) (first (omega arith))

pub seen_gone : (keys : List Key) (es : List Entry) (n : ℕ) → slice_get keys 0 ≡ Some key.Null
    → seen_all keys (slice_set es n gone_entry) ≡ slice_set (seen_all keys es) n no_row
seen_gone keys [] n first = refl
seen_gone keys (e ∷ es) zero first = ap (λ x. x ∷ seen_all keys es) (null_known keys first)
seen_gone keys (e ∷ es) (suc n) first = ap (λ xs. seen keys e ∷ xs) (seen_gone keys es n first)

entry_there : (es : List Entry) (n : ℕ) → n < length es → (e : Entry) × (slice_get es n ≡ Some e)
entry_there [] n below = absurd (omega (arith, below))
entry_there (e ∷ es) zero below = (e, refl)
entry_there (e ∷ es) (suc n) below = entry_there es n (omega (arith, below))

pub null_there : (keys : List Key) (hs : List ℕ) (es : List Entry) (live n : ℕ) → IsIndex keys hs es live
    → n < length es → (0 < length keys) × (slice_get keys 0 ≡ Some key.Null)
null_there keys hs es live n is below =
    let there = entry_there es n below in
    let keyed = is.keyed n there.0 there.1 in
    let some : 0 < length keys = omega (arith, keyed) in
    (some, is.null_first some)

pub index_gone :
    (keys : List Key) (hs : List ℕ) (es : List Entry) (live n : ℕ) → IsIndex keys hs es live → n < length es
    → (get_or (seen_all keys es) n no_row).live ≡ false → IsIndex keys hs (slice_set es n gone_entry) live
index_gone keys hs es live n is below off =
    let null = null_there keys hs es live n is below in
    let some = null.0 in
    record {
      as_many = is.as_many;
      keyed = λ m e at. elim (was_or es n m e at) [
        | inl gone ↦ let zeroth = ap (λ (x : Entry). x.key) gone in omega (arith, zeroth, some)
        | inr was ↦ is.keyed m e was
      ];
      held = λ m e at lives. elim (was_or es n m e at) [
        | inl gone ↦ absurd (true≢false (sym lives ∙ ap (λ (x : Entry). x.is_live) gone))
        | inr was ↦ is.held m e was lives
      ];
      stacked = λ l m e f before first second new_one. elim (was_or es n m f second) [
        | inl gone ↦ absurd (true≢false (sym new_one ∙ ap (λ (x : Entry). x.is_new) gone))
        | inr two ↦ elim (was_or es n l e first) [
          | inl gone ↦
              let zeroth = ap (λ (x : Entry). x.key) gone in
              let above = is.after_null m f two new_one in
              omega (arith, zeroth, above)
          | inr one ↦ is.stacked l m e f before one two new_one
        ]
      ];
      counted =
          is.counted ∙ sym (count_gone (seen_all keys es) n off) ∙ ap live_count (sym (seen_gone keys es n null.1));
      null_first = is.null_first;
      after_null = λ m e at new_one. elim (was_or es n m e at) [
        | inl gone ↦ absurd (true≢false (sym new_one ∙ ap (λ (x : Entry). x.is_new) gone))
        | inr was ↦ is.after_null m e was new_one
      ];
    }

-- Where a row with the key is found, the key was there.
pub key_there :
    (keys new : List Key) (hs : List ℕ) (es : List Entry) (live p n : ℕ) (k : Key) → IsIndex keys hs es live
    → Inserts keys k p new → HoldsPlace es p n → (new ≡ keys) × (slice_get keys p ≡ Some k)
key_there keys new hs es live p n k is ins holds = elim ins [
  | inl had ↦ (had.1, had.0)
  | inr got ↦
      let keyed = is.keyed n holds.0 holds.1 in
      let same = holds.2 in
      let last = got.0 in
      absurd (omega (arith, keyed, same, last))
]

pub place_within : (keys new : List Key) (hs : List ℕ) (es : List Entry) (live p : ℕ) (k : Key)
    → IsIndex keys hs es live → Inserts keys k p new → p ≤ length hs
place_within keys new hs es live p k is ins = elim ins [
  | inl had ↦ let within = slice_get_within keys p k had.0 in omega (arith, within, is.as_many)
  | inr got ↦ let last = got.0 in omega (arith, last, is.as_many)
]

-- Numbers are skipped: the rows that had them are released.

gone_or : (es : List Entry) (m n : ℕ) (e : Entry) → slice_get (es ++ replicate m gone_entry) n ≡ Some e
    → (e ≡ gone_entry) ⊎ (slice_get es n ≡ Some e)
gone_or [] zero n e at = absurd (none-some e at)
gone_or [] (suc m) zero e at = inl (sym (some_same gone_entry e at))
gone_or [] (suc m) (suc n) e at = gone_or [] m n e at
gone_or (x ∷ es) m zero e at = inr at
gone_or (x ∷ es) m (suc n) e at = gone_or es m n e at

count_skipped : (xs : List Numbered) (m : ℕ) → live_count (xs ++ replicate m no_row) ≡ live_count xs
count_skipped [] zero = refl
count_skipped [] (suc m) = count_skipped [] m
count_skipped (x ∷ xs) m = ap (λ n. if x.live then suc n else n) (count_skipped xs m)

pub seen_skipped : (keys : List Key) (es : List Entry) (m : ℕ) → slice_get keys 0 ≡ Some key.Null
    → seen_all keys (es ++ replicate m gone_entry) ≡ seen_all keys es ++ replicate m no_row
seen_skipped keys [] zero first = refl
seen_skipped keys [] (suc m) first =
    ap (λ x. x ∷ seen_all keys (replicate m gone_entry)) (null_known keys first)
    ∙ ap (λ xs. no_row ∷ xs) (seen_skipped keys [] m first)
seen_skipped keys (e ∷ es) m first = ap (λ xs. seen keys e ∷ xs) (seen_skipped keys es m first)

pub index_skipped :
    (keys : List Key) (hs : List ℕ) (es : List Entry) (live m : ℕ) → IsIndex keys hs es live → 0 < length keys
    → IsIndex keys hs (es ++ replicate m gone_entry) live
index_skipped keys hs es live m is some = record {
  as_many = is.as_many;
  keyed = λ n e at. elim (gone_or es m n e at) [
    | inl gone ↦ let zeroth = ap (λ (x : Entry). x.key) gone in omega (arith, zeroth, some)
    | inr was ↦ is.keyed n e was
  ];
  held = λ n e at lives. elim (gone_or es m n e at) [
    | inl gone ↦ absurd (true≢false (sym lives ∙ ap (λ (x : Entry). x.is_live) gone))
    | inr was ↦ is.held n e was lives
  ];
  stacked = λ l n e f before first second new_one. elim (gone_or es m n f second) [
    | inl gone ↦ absurd (true≢false (sym new_one ∙ ap (λ (x : Entry). x.is_new) gone))
    | inr two ↦ elim (gone_or es m l e first) [
      | inl gone ↦
          let zeroth = ap (λ (x : Entry). x.key) gone in
          let above = is.after_null n f two new_one in
          omega (arith, zeroth, above)
      | inr one ↦ is.stacked l n e f before one two new_one
    ]
  ];
  counted = is.counted
      ∙ sym (ap live_count (seen_skipped keys es m (is.null_first some)) ∙ count_skipped (seen_all keys es) m);
  null_first = is.null_first;
  after_null = λ n e at new_one. elim (gone_or es m n e at) [
    | inl gone ↦ absurd (true≢false (sym new_one ∙ ap (λ (x : Entry). x.is_new) gone))
    | inr was ↦ is.after_null n e was new_one
  ];
}
