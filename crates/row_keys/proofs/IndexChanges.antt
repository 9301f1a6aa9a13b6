-- What holds of the index where a row is added, removed, retracted, or made live again.
use Rattle.std.proofs.Common.{
  ◌≡◌,
  inl,
  inr,
  ◌⊎◌,
  ℕ,
  zero,
  suc,
  ◌+◌,
  ◌-◌,
  ◌<◌,
  ◌≤◌,
  Bool,
  true,
  false,
  List,
  [],
  ◌∷◌,
  ◌++◌,
  None,
  Some,
  length,
  take,
  set,
  get_or,
  refl,
  ap,
  sym,
  subst,
  ◌∙◌,
  arith,
  length-append,
  min,
  true≢false,
}
use Rattle.std.specs.Prelude.{slice_get, if◌then◌else◌}
use Rattle.std.proofs.lemmas.List.{length-map, length-set, length-take, map-append}
use Rattle.std.proofs.lemmas.Option.{get_or_from_slice_get, none-some, slice_get-get_or, slice_get_within}
use Rattle.values.specs.declared.key.Key.{Key}
use Rattle.values.specs.declared.key.Key.TheVariants as key
use Rattle.row_keys.specs.KeyTable.{AreApart, Inserts}
use Rattle.row_keys.specs.declared.numbers.Entry.{Entry}
use Rattle.row_keys.specs.Index.{IsFree, IsIndex, Puts, flagged, seen, seen_all}
use Rattle.row_keys.specs.Numbers.{IsAt, IsUnused, Numbered, live_count, numbered, turned}
use Rattle.row_keys.proofs.Places.{at_end, at_kept, at_more, at_new, at_other, at_pushed, some_same, take_init}
use Rattle.row_keys.proofs.Indexes.{
  count_pushed,
  count_retracted,
  count_revived,
  count_within,
  entry_at,
  found_row,
  no_row,
  seen_at,
  seen_fewer,
  seen_more,
}

abbrev pub new_entry : ℕ → Bool → Entry
new_entry p fresh = record { key = p; is_live = true; is_new = fresh }

-- A row was added whose key is at position p, and which holds it.
record Came (keys new : List Key) (hs hs_new : List ℕ) (es : List Entry) (p : ℕ) (k : Key) : Type 0 where
  more : length keys ≤ length new
  many : length hs_new ≡ length new
  there : slice_get new p ≡ Some k
  here : slice_get hs_new p ≡ Some (length es)
  others : (q n : ℕ) → slice_get hs q ≡ Some n → (q ≡ p → ⊥) → slice_get hs_new q ≡ Some n
  same : seen_all new es ≡ seen_all keys es

came :
    (keys new : List Key) (hs hs_new : List ℕ) (es : List Entry) (live p : ℕ) (k : Key) → IsIndex keys hs es live
    → Inserts keys k p new
    → Puts hs p (length es) hs_new → Came keys new hs hs_new es p k
came keys new hs hs_new es live p k is ins puts = elim ins [
  | inl i ↦ elim puts [
    | inl h ↦ absurd (omega (arith, h.0, slice_get_within keys p k i.0, is.as_many))
    | inr h ↦
        let A : List Key → Type 0 = λ ks. Came keys ks hs hs_new es p k in
        let B : List ℕ → Type 0 = λ ms. Came keys keys hs ms es p k in
        subst A (sym i.1) (subst B (sym h.1) (record {
          more = omega arith;
          many = length-set hs p (length es) ∙ is.as_many;
          there = i.0;
          here = at_new hs p (length es) h.0;
          others = λ q n at other. at_other hs p (length es) q n other at;
          same = refl;
        }))
  ]
  | inr i ↦ elim puts [
    | inl h ↦
        let A : List Key → Type 0 = λ ks. Came keys ks hs hs_new es p k in
        let B : List ℕ → Type 0 = λ ms. Came keys (keys ++ k ∷ []) hs ms es p k in
        let C : ℕ → Type 0 = λ q. slice_get (keys ++ k ∷ []) q ≡ Some k in
        let D : ℕ → Type 0 = λ q. slice_get (hs ++ length es ∷ []) q ≡ Some (length es) in
        let one : length (keys ++ k ∷ []) ≡ length keys + 1 = length-append keys (k ∷ []) in
        let too : length (hs ++ length es ∷ []) ≡ length hs + 1 = length-append hs (length es ∷ []) in
        subst A (sym i.2) (subst B (sym h.1) (record {
          more = omega (arith, one);
          many = omega (arith, one, too, is.as_many);
          there = subst C (sym i.0) (at_end keys k);
          here = subst D (sym h.0) (at_end hs (length es));
          others = λ q n at other. at_more hs (length es ∷ []) q n at;
          same = seen_more keys (k ∷ []) es is.keyed;
        }))
    | inr h ↦ absurd (omega (arith, h.0, i.0, is.as_many))
  ]
]

seen_pushed :
    (keys new : List Key) (hs hs_new : List ℕ) (es : List Entry) (p : ℕ) (k : Key) (fresh : Bool)
    → Came keys new hs hs_new es p k
    → seen_all new (es ++ new_entry p fresh ∷ []) ≡ seen_all keys es ++ numbered k true ∷ []
seen_pushed keys new hs hs_new es p k fresh c =
    map-append (seen new) es (new_entry p fresh ∷ []) ∙ ap (λ xs. xs ++ seen new (new_entry p fresh) ∷ []) c.same
    ∙ ap (λ x. seen_all keys es ++ numbered x true ∷ []) (get_or_from_slice_get new p k key.Null c.there)

pub rows_pushed :
    (keys new : List Key) (hs hs_new : List ℕ) (es : List Entry) (live p : ℕ) (k : Key) (fresh : Bool)
    → IsIndex keys hs es live
    → Inserts keys k p new → Puts hs p (length es) hs_new
    → seen_all new (es ++ new_entry p fresh ∷ []) ≡ seen_all keys es ++ numbered k true ∷ []
rows_pushed keys new hs hs_new es live p k fresh is ins puts =
    seen_pushed keys new hs hs_new es p k fresh (came keys new hs hs_new es live p k is ins puts)

pub index_pushed :
    (keys new : List Key) (hs hs_new : List ℕ) (es : List Entry) (live p : ℕ) (k : Key) (fresh : Bool)
    → IsIndex keys hs es live → 0 < length keys
    → Inserts keys k p new → IsFree hs es p → Puts hs p (length es) hs_new → (fresh ≡ true → p ≡ length hs)
    → IsIndex new hs_new (es ++ new_entry p fresh ∷ []) (live + 1)
index_pushed keys new hs hs_new es live p k fresh is some ins free puts last =
    let c : Came keys new hs hs_new es p k = came keys new hs hs_new es live p k is ins puts in
    let e0 : Entry = new_entry p fresh in
    record {
      as_many = c.many;
      keyed = λ n e at. elim (at_pushed es e0 n e at) [
        | inl old ↦ let below = is.keyed n e old in omega (arith, below, c.more)
        | inr it ↦
            let P : Entry → Type 0 = λ f. f.key < length new in subst P it.1 (slice_get_within new p k c.there)
      ];
      held = λ n e at lives. elim (at_pushed es e0 n e at) [
        | inl old ↦
            let here = is.held n e old lives in
            let P : ℕ → Type 0 = λ q. slice_get hs q ≡ Some n in
            c.others e.key n here (λ same. free n (subst P same here) (e, old, same, lives))
        | inr it ↦
            let P : Entry → Type 0 = λ f. slice_get hs_new f.key ≡ Some n in
            subst P it.1 (c.here ∙ ap (λ m. Some m) (sym it.0))
      ];
      stacked = λ m n e f before first second new_one. elim (at_pushed es e0 n f second) [
        | inl old ↦ elim (at_pushed es e0 m e first) [
          | inl too ↦ is.stacked m n e f before too old new_one
          | inr it ↦ absurd (omega (arith, before, it.0, slice_get_within es n f old))
        ]
        | inr it ↦ elim (at_pushed es e0 m e first) [
          | inl too ↦
              let P : Entry → Type 0 = λ g. g.is_new ≡ true → e.key < g.key in
              let below = is.keyed m e too in
              subst P it.1 (λ h. let at = last h in omega (arith, below, at, is.as_many)) new_one
          | inr too ↦ absurd (omega (arith, before, it.0, too.0))
        ]
      ];
      counted =
          let all : live_count (seen_all new (es ++ e0 ∷ [])) ≡ suc (live_count (seen_all keys es)) =
          ap live_count (seen_pushed keys new hs hs_new es p k fresh c) ∙ count_pushed (seen_all keys es) k in
          omega (arith, all, is.counted);
      null_first = λ any. elim ins [
        | inl i ↦
            let P : List Key → Type 0 = λ ks. slice_get ks 0 ≡ Some key.Null in
            subst P (sym i.1) (is.null_first some)
        | inr i ↦
            let P : List Key → Type 0 = λ ks. slice_get ks 0 ≡ Some key.Null in
            subst P (sym i.2) (at_more keys (k ∷ []) 0 key.Null (is.null_first some))
      ];
      after_null = λ n f at new_one. elim (at_pushed es e0 n f at) [
        | inl old ↦ is.after_null n f old new_one
        | inr it ↦
            let P : Entry → Type 0 = λ g. g.is_new ≡ true → 0 < g.key in
            subst P it.1 (λ h. let first = last h in omega (arith, first, some, is.as_many)) new_one
      ];
    }

count_with : (xs : List Numbered) (x : Numbered) → live_count (xs ++ x ∷ []) ≡ live_count xs + (if x.live then 1 else 0)
count_with [] x = by x.live
  where
    by : (b : Bool) → (if b then suc 0 else 0) ≡ 0 + (if b then 1 else 0)
    by true = refl
    by false = refl
count_with (y ∷ xs) x = by y.live (if x.live then 1 else 0) (count_with xs x)
  where
    by : (b : Bool) (n : ℕ) → live_count (xs ++ x ∷ []) ≡ live_count xs + n
        → (if b then suc (live_count (xs ++ x ∷ [])) else live_count (xs ++ x ∷ [])) ≡ (if b then suc (live_count xs)
        else live_count xs) + n
    by true n h = omega (arith, h)
    by false n h = h

-- The last row is removed, and of the keys only the remaining ones stay.
pub index_popped :
    (keys : List Key) (hs : List ℕ) (es : List Entry) (e : Entry) (live kept : ℕ) → IsIndex keys hs (es ++ e ∷ []) live
    → kept ≤ length keys
    → ((n : ℕ) (f : Entry) → slice_get es n ≡ Some f → f.key < kept)
    → IsIndex (take kept keys) (take kept hs) es (live - (if e.is_live then 1 else 0))
index_popped keys hs es e live kept is within below = record {
  as_many =
      let a : length (take kept hs) ≡ min kept (length hs) = length-take kept hs in
      let b : length (take kept keys) ≡ min kept (length keys) = length-take kept keys in
      omega (arith, a, b, is.as_many);
  keyed = λ n f at.
      let b : length (take kept keys) ≡ min kept (length keys) = length-take kept keys in
      let c = below n f at in
      omega (arith, b, c, within);
  held = λ n f at lives. at_kept hs kept f.key n (below n f at) (is.held n f (at_more es (e ∷ []) n f at) lives);
  stacked =
      λ m n f g before first second new_one.
      is.stacked m n f g before (at_more es (e ∷ []) m f first) (at_more es (e ∷ []) n g second) new_one;
  counted =
      let all :
      live_count (seen_all keys (es ++ e ∷ [])) ≡ live_count (seen_all keys es) + (if e.is_live then 1 else 0) =
      ap live_count (map-append (seen keys) es (e ∷ [])) ∙ count_with (seen_all keys es) (seen keys e) in
      let same : live_count (seen_all (take kept keys) es) ≡ live_count (seen_all keys es) =
      ap live_count (seen_fewer keys kept es below) in
      omega (arith, all, same, is.counted);
  null_first = λ any.
      let b : length (take kept keys) ≡ min kept (length keys) = length-take kept keys in
      at_kept keys kept 0 key.Null (omega (arith, any, b)) (is.null_first (omega (arith, any, b)));
  after_null = λ n f at new_one. is.after_null n f (at_more es (e ∷ []) n f at) new_one;
}

-- the position up to which keys stay
pub kept_new :
    (keys : List Key) (hs : List ℕ) (es : List Entry) (e : Entry) (live : ℕ) → IsIndex keys hs (es ++ e ∷ []) live
    → e.is_new ≡ true
    → (n : ℕ) (f : Entry) → slice_get es n ≡ Some f → f.key < e.key
kept_new keys hs es e live is new_one n f at =
    is.stacked n (length es) f e (slice_get_within es n f at) (at_more es (e ∷ []) n f at) (at_end es e) new_one

pub kept_old :
    (keys : List Key) (hs : List ℕ) (es : List Entry) (e : Entry) (live : ℕ) → IsIndex keys hs (es ++ e ∷ []) live
    → (n : ℕ) (f : Entry) → slice_get es n ≡ Some f → f.key < length hs
kept_old keys hs es e live is n f at = let b = is.keyed n f (at_more es (e ∷ []) n f at) in omega (arith, b, is.as_many)

pub rows_popped :
    (keys : List Key) (es : List Entry) (e : Entry) (kept : ℕ)
    → ((n : ℕ) (f : Entry) → slice_get es n ≡ Some f → f.key < kept)
    → seen_all (take kept keys) es ≡ take (length (seen_all keys (es ++ e ∷ [])) - 1) (seen_all keys (es ++ e ∷ []))
rows_popped keys es e kept below =
    let all : seen_all keys (es ++ e ∷ []) ≡ seen_all keys es ++ seen keys e ∷ [] =
    map-append (seen keys) es (e ∷ []) in
    let P : List Numbered → Type 0 = λ xs. seen_all keys es ≡ take (length xs - 1) xs in
    seen_fewer keys kept es below ∙ subst P (sym all) (take_init (seen_all keys es) (seen keys e))

pub live_within : (keys : List Key) (hs : List ℕ) (es : List Entry) (live : ℕ) → IsIndex keys hs es live
    → live ≤ length es
live_within keys hs es live is =
    let many : length (seen_all keys es) ≡ length es = length-map es (seen keys) in
    let few : live_count (seen_all keys es) ≤ length (seen_all keys es) = count_within (seen_all keys es) in
    omega (arith, many, few, is.counted)

pub live_some :
    (keys : List Key) (hs : List ℕ) (es : List Entry) (live n : ℕ) (k : Key) → IsIndex keys hs es live
    → IsAt (seen_all keys es) n k true → 1 ≤ live
live_some keys hs es live n k is at = let c = count_retracted (seen_all keys es) n k at in omega (arith, c, is.counted)

pub rows_flagged : (keys : List Key) (es : List Entry) (b : Bool) (n : ℕ)
    → seen_all keys (flagged b es n) ≡ turned b (seen_all keys es) n
rows_flagged keys [] b n = refl
rows_flagged keys (e ∷ es) b zero = refl
rows_flagged keys (e ∷ es) b (suc n) = ap (λ xs. seen keys e ∷ xs) (rows_flagged keys es b n)

-- an entry after one was flagged, and what it was before
record Was (b : Bool) (es : List Entry) (n m : ℕ) (f : Entry) : Type 0 where
  entry : Entry
  there : slice_get es m ≡ Some entry
  key : f.key ≡ entry.key
  new_one : f.is_new ≡ entry.is_new
  lives : ((m ≡ n) × (f.is_live ≡ b)) ⊎ ((m ≡ n → ⊥) × (f.is_live ≡ entry.is_live))

was : (b : Bool) (es : List Entry) (n m : ℕ) (f : Entry) → slice_get (flagged b es n) m ≡ Some f → Was b es n m f
was b [] n m f h = absurd (none-some f h)
was b (e ∷ es) zero zero f h =
    let same : record { key = e.key; is_live = b; is_new = e.is_new } ≡ f = some_same _ f h in
    record {
      entry = e;
      there = refl;
      key = sym (ap (λ x. x.key) same);
      new_one = sym (ap (λ x. x.is_new) same);
      lives = inl (refl, sym (ap (λ x. x.is_live) same));
    }
was b (e ∷ es) zero (suc m) f h =
    record { entry = f; there = h; key = refl; new_one = refl; lives = inr (λ q. omega (arith, q), refl) }
was b (e ∷ es) (suc n) zero f h =
    record { entry = f; there = h; key = refl; new_one = refl; lives = inr (λ q. omega (arith, q), refl) }
was b (e ∷ es) (suc n) (suc m) f h =
    let w = was b es n m f h in
    record {
      entry = w.entry;
      there = w.there;
      key = w.key;
      new_one = w.new_one;
      lives = elim w.lives [
        | inl p ↦ inl (ap suc p.0, p.1)
        | inr p ↦ inr (λ q. p.0 (omega (arith, q)), p.1)
      ];
    }

stacked_flagged :
    (keys : List Key) (hs : List ℕ) (es : List Entry) (live : ℕ) (b : Bool) (n l m : ℕ) (e f : Entry)
    → IsIndex keys hs es live → l < m
    → slice_get (flagged b es n) l ≡ Some e → slice_get (flagged b es n) m ≡ Some f → f.is_new ≡ true → e.key < f.key
stacked_flagged keys hs es live b n l m e f is before first second new_one =
    let one : Was b es n l e = was b es n l e first in
    let two : Was b es n m f = was b es n m f second in
    let below : one.entry.key < two.entry.key =
    is.stacked l m one.entry two.entry before one.there two.there (sym two.new_one ∙ new_one) in
    omega (arith, below, one.key, two.key)

pub index_retracted :
    (keys : List Key) (hs : List ℕ) (es : List Entry) (live n : ℕ) (k : Key) → IsIndex keys hs es live
    → IsAt (seen_all keys es) n k true
    → IsIndex keys hs (flagged false es n) (live - 1)
index_retracted keys hs es live n k is at = record {
  as_many = is.as_many;
  keyed = λ m f there. let w = was false es n m f there in let b = is.keyed m w.entry w.there in
      omega (arith, b, w.key);
  held = λ m f there lives.
      let w = was false es n m f there in
      elim w.lives [
        | inl p ↦ absurd (true≢false (sym lives ∙ p.1))
        | inr p ↦
            let P : ℕ → Type 0 = λ q. slice_get hs q ≡ Some m in
            subst P (sym w.key) (is.held m w.entry w.there (sym p.1 ∙ lives))
      ];
  stacked =
      λ l m e f before first second new_one.
      stacked_flagged keys hs es live false n l m e f is before first second new_one;
  counted =
      let c = count_retracted (seen_all keys es) n k at in
      let s : live_count (seen_all keys (flagged false es n)) ≡ live_count (turned false (seen_all keys es) n) =
      ap live_count (rows_flagged keys es false n) in
      omega (arith, c, s, is.counted);
  null_first = is.null_first;
  after_null = λ m f there new_one.
      let w = was false es n m f there in
      let above = is.after_null m w.entry w.there (sym w.new_one ∙ new_one) in
      omega (arith, above, w.key);
}

pub index_revived :
    (keys : List Key) (hs : List ℕ) (es : List Entry) (live n : ℕ) (k : Key) (e : Entry) → IsIndex keys hs es live
    → e ≡ get_or es n e
    → IsAt (seen_all keys es) n k false → IsUnused (seen_all keys es) k
    → IsIndex keys (set hs e.key n) (flagged true es n) (live + 1)
index_revived keys hs es live n k e is read at unused =
    let found = entry_at keys es n (numbered k false) at in
    let same : found.0 ≡ e = sym (read ∙ get_or_from_slice_get es n found.0 e found.1) in
    let there : slice_get es n ≡ Some e = found.1 ∙ ap (λ x. Some x) same in
    let known : get_or keys e.key key.Null ≡ k =
    ap (λ x. get_or keys x.key key.Null) (sym same) ∙ sym (ap (λ x. x.key) found.2) in
    let within : e.key < length hs = let b = is.keyed n e there in omega (arith, b, is.as_many) in
    record {
      as_many = length-set hs e.key n ∙ is.as_many;
      keyed = λ m f here. let w = was true es n m f here in let b = is.keyed m w.entry w.there in
          omega (arith, b, w.key);
      held = λ m f here lives.
          let w = was true es n m f here in
          let P : ℕ → Type 0 = λ q. slice_get (set hs e.key n) q ≡ Some m in
          elim w.lives [
            | inl p ↦
                let Q : ℕ → Type 0 = λ j. slice_get es j ≡ Some w.entry in
                let one : w.entry ≡ e = some_same w.entry e (sym (subst Q p.0 w.there) ∙ there) in
                subst P (sym (w.key ∙ ap (λ x. x.key) one)) (at_new hs e.key n within ∙ ap (λ j. Some j) (sym p.0))
            | inr p ↦
                let lived : w.entry.is_live ≡ true = sym p.1 ∙ lives in
                let other : w.entry.key ≡ e.key → ⊥ = λ q.
                unused m (seen_at keys es m w.entry w.there
                ∙ ap (λ x. Some (numbered x w.entry.is_live)) (ap (λ j. get_or keys j key.Null) q ∙ known)
                ∙ ap (λ b. Some (numbered k b)) lived) in
                subst P (sym w.key) (at_other hs e.key n w.entry.key m other (is.held m w.entry w.there lived))
          ];
      stacked =
          λ l m f g before first second new_one.
          stacked_flagged keys hs es live true n l m f g is before first second new_one;
      counted =
          let c = count_revived (seen_all keys es) n k at in
          let s : live_count (seen_all keys (flagged true es n)) ≡ live_count (turned true (seen_all keys es) n) =
          ap live_count (rows_flagged keys es true n) in
          omega (arith, c, s, is.counted);
      null_first = is.null_first;
      after_null = λ m f here new_one.
          let w = was true es n m f here in
          let above = is.after_null m w.entry w.there (sym w.new_one ∙ new_one) in
          omega (arith, above, w.key);
    }

-- what the last row counted was counted
-- A row is retracted, and another is added that holds its key.

flagged_long : (b : Bool) (es : List Entry) (n : ℕ) → length (flagged b es n) ≡ length es
flagged_long b [] n = refl
flagged_long b (e ∷ es) zero = refl
flagged_long b (e ∷ es) (suc n) = ap suc (flagged_long b es n)

pub flagged_front : (b : Bool) (es fs : List Entry) (n : ℕ) → n < length es
    → flagged b (es ++ fs) n ≡ flagged b es n ++ fs
flagged_front b [] fs n below = absurd (omega (arith, below))
flagged_front b (e ∷ es) fs zero below = refl
flagged_front b (e ∷ es) fs (suc n) below = ap (λ xs. e ∷ xs) (flagged_front b es fs n (omega (arith, below)))

-- the key of a live row has no holder once the row is retracted
free_retracted :
    (keys : List Key) (hs : List ℕ) (es : List Entry) (live n : ℕ) (k : Key) (e : Entry) → IsIndex keys hs es live
    → slice_get es n ≡ Some e → e.is_live ≡ true → IsAt (seen_all keys es) n k true
    → IsFree hs (flagged false es n) e.key
free_retracted keys hs es live n k e is there lives at = λ m holder holds.
    let w = was false es n m holds.0 holds.1 in
    let P : ℕ → Type 0 = λ p. slice_get hs p ≡ Some m in
    let mine : slice_get hs e.key ≡ Some m =
    subst P holds.2 ((index_retracted keys hs es live n k is at).held m holds.0 holds.1 holds.3) in
    let same : m ≡ n = some_same m n (sym mine ∙ is.held n e there lives) in
    elim w.lives [
      | inl p ↦ absurd (true≢false (sym holds.3 ∙ p.1))
      | inr p ↦ absurd (p.0 same)
    ]

pub record Replaced (keys : List Key) (hs : List ℕ) (es : List Entry) (live n : ℕ) (k : Key) (e : Entry) : Type 0 where
  pub index : IsIndex keys (set hs e.key (length es)) (flagged false es n ++ new_entry e.key false ∷ []) live
  pub rows : seen_all keys (flagged false es n ++ new_entry e.key false ∷ [])
      ≡ turned false (seen_all keys es) n ++ numbered k true ∷ []

pub index_replaced :
    (keys : List Key) (hs : List ℕ) (es : List Entry) (live n : ℕ) (k : Key) (e : Entry) → IsIndex keys hs es live
    → e ≡ get_or es n e → IsAt (seen_all keys es) n k true → Replaced keys hs es live n k e
index_replaced keys hs es live n k e is read at =
    let found = entry_at keys es n (numbered k true) at in
    let same : found.0 ≡ e = sym (read ∙ get_or_from_slice_get es n found.0 e found.1) in
    let there : slice_get es n ≡ Some e = found.1 ∙ ap (λ x. Some x) same in
    let lives : e.is_live ≡ true =
    ap (λ (x : Entry). x.is_live) (sym same) ∙ sym (ap (λ (x : Numbered). x.live) found.2) in
    let known : get_or keys e.key key.Null ≡ k =
    ap (λ x. get_or keys x.key key.Null) (sym same) ∙ sym (ap (λ (x : Numbered). x.key) found.2) in
    let keyed = is.keyed n e there in
    let inside : slice_get keys e.key ≡ Some k =
    slice_get-get_or keys e.key key.Null keyed ∙ ap (λ x. Some x) known in
    let off : List Entry = flagged false es n in
    let rest : IsIndex keys hs off (live - 1) = index_retracted keys hs es live n k is at in
    let long : length off ≡ length es = flagged_long false es n in
    let puts : Puts hs e.key (length off) (set hs e.key (length es)) =
    inr (omega (arith, keyed, is.as_many), ap (λ m. set hs e.key m) (sym long)) in
    let ins : Inserts keys k e.key keys = inl (inside, refl) in
    let some = live_some keys hs es live n k is at in
    let P : ℕ → Type 0 = λ m. IsIndex keys (set hs e.key (length es)) (off ++ new_entry e.key false ∷ []) m in
    let count : (live - 1) + 1 ≡ live = omega (arith, some) in
    record {
      index = subst P count
          (index_pushed keys keys hs (set hs e.key (length es)) off (live - 1) e.key k false rest (omega (arith, keyed)) ins
          (free_retracted keys hs es live n k e is there lives at) puts (λ x. absurd (true≢false (sym x))));
      rows = rows_pushed keys keys hs (set hs e.key (length es)) off (live - 1) e.key k false rest ins puts
          ∙ ap (λ xs. xs ++ numbered k true ∷ []) (rows_flagged keys es false n);
    }

pub live_covers :
    (keys : List Key) (hs : List ℕ) (es : List Entry) (e : Entry) (live : ℕ) → IsIndex keys hs (es ++ e ∷ []) live
    → (if e.is_live then 1 else 0) ≤ live
live_covers keys hs es e live is =
    let all : live_count (seen_all keys (es ++ e ∷ [])) ≡ live_count (seen_all keys es) + (if e.is_live then 1 else 0) =
    ap live_count (map-append (seen keys) es (e ∷ [])) ∙ count_with (seen_all keys es) (seen keys e) in
    omega (arith, all, is.counted)

-- the remaining keys
pub kept_below :
    (keys : List Key) (hs : List ℕ) (es : List Entry) (e : Entry) (live kept : ℕ) → IsIndex keys hs (es ++ e ∷ []) live
    → kept ≡ (if e.is_new then e.key else length hs) → (n : ℕ) (f : Entry) → slice_get es n ≡ Some f → f.key < kept
kept_below keys hs es e live kept is which n f at = by e.is_new refl which
  where
    by : (b : Bool) → e.is_new ≡ b → kept ≡ (if b then e.key else length hs) → f.key < kept
    by true new_one h = let c = kept_new keys hs es e live is new_one n f at in omega (arith, c, h)
    by false new_one h = let c = kept_old keys hs es e live is n f at in omega (arith, c, h)

pub kept_within :
    (keys : List Key) (hs : List ℕ) (es : List Entry) (e : Entry) (live kept : ℕ) → IsIndex keys hs (es ++ e ∷ []) live
    → kept ≡ (if e.is_new then e.key else length hs) → kept ≤ length keys
kept_within keys hs es e live kept is which = by e.is_new which
  where
    by : (b : Bool) → kept ≡ (if b then e.key else length hs) → kept ≤ length keys
    by true h = let c = is.keyed (length es) e (at_end es e) in omega (arith, c, h)
    by false h = omega (arith, h, is.as_many)

-- where no live row holds the key of a row that is added, no live row has it
pub unused_before :
    (keys new : List Key) (hs : List ℕ) (es : List Entry) (live p : ℕ) (k : Key) → IsIndex keys hs es live
    → AreApart keys
    → Inserts keys k p new → IsFree hs es p → IsUnused (seen_all keys es) k
unused_before keys new hs es live p k is apart ins free = elim ins [
  | inl i ↦ found_row keys hs es live p k None is apart i.0 free
  | inr i ↦ no_row keys hs es live k is i.1
]
