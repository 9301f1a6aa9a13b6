-- Stores taken apart and made again: rows are numbered as retracted ones first, and then those are restored that are
-- live.
use Rattle.std.proofs.Common.{◌≡◌, inl, inr, ℕ, zero, suc, ◌+◌, ◌-◌, ◌<◌, ◌≤◌, Bool, true, false, List, [], ◌∷◌, ◌++◌, Some, All, get_or, length, map, take, refl, ap, subst, sym, ◌∙◌, add-one, arith, true≢false}
use Rattle.std.specs.Prelude.{Option, None, if◌then◌else◌, nat_eq, replicate, slice_get}
use Rattle.std.proofs.Math.Seq.{take-suc}
use Rattle.std.proofs.lemmas.Bool.{ne_eqb}
use Rattle.std.proofs.lemmas.Bool.Decides.{eqb_tells}
use Rattle.std.proofs.lemmas.List.{map-append}
use Rattle.std.proofs.lemmas.List.Elements.{All-cons, All-nil}
use Rattle.std.proofs.lemmas.Option.{none-some, slice_get-get_or, slice_get_read, slice_get_within}
use Rattle.values.specs.declared.key.Key.{Key}
use Rattle.row_keys.specs.declared.numbers.Entry.{Entry}
use Rattle.row_keys.specs.declared.numbers.RetainedEntry.{RetainedEntry}
use Rattle.row_keys.specs.declared.parts.RowParts.{RowParts}
use Rattle.row_keys.specs.Entries.{AreInOrder, all_entries, entry_in, gone_entry}
use Rattle.row_keys.specs.Index.{IsRetainedIndex, seen, seen_all}
use Rattle.row_keys.specs.Listed.{listed}
use Rattle.row_keys.specs.Numbers.{AreDistinct, CanTurnOn, IsAt, IsUnused, Numbered, Pushes, no_row, numbered, turned}
use Rattle.row_keys.specs.Parts.{AreNumbered, numbered_at, numbers_in, part_of, retracted_in, retracted_part}
use Rattle.row_keys.specs.Stored.{AreGiven}
use Rattle.row_keys.proofs.GoneRows.{unkeyed}
use Rattle.row_keys.proofs.RetainedEntries.{entries_get, entry_there, number_within}
use Rattle.row_keys.proofs.ListedItems.{listed_add, listed_all, listed_at, listed_long, listed_same, map_listed}
use Rattle.row_keys.proofs.Places.{some_same}

-- Taking rows apart

-- what is known of a number by the parts is what is seen of it
part_seen : (keys : List Key) (ks : List RetainedEntry) (n : ℕ) → seen keys gone_entry ≡ no_row
    → numbered_at (map (part_of keys) ks) n ≡ seen keys (entry_in ks n)
part_seen keys [] n null = sym null
part_seen keys (k ∷ ks) n null =
    by (nat_eq k.number n) (numbered_at (map (part_of keys) ks) n) (entry_in ks n) (part_seen keys ks n null)
  where
    by : (b : Bool) (x : Numbered) (e : Entry) → x ≡ seen keys e
        → (if b then seen keys k.entry else x) ≡ seen keys (if b then k.entry else e)
    by true x e is = refl
    by false x e is = is

parts_order : (keys : List Key) (from len : ℕ) (ks : List RetainedEntry) → AreInOrder from ks len
    → AreNumbered from (map (part_of keys) ks) len
parts_order keys from len [] are = are
parts_order keys from len (k ∷ ks) are = (are.0, parts_order keys (suc k.number) len ks are.1)

-- the keys of all entries have positions
pub all_keyed : (keys : List Key) (hs : List ℕ) (ks : List RetainedEntry) (len live : ℕ) → IsRetainedIndex keys hs ks len live
    → All (λ k. k.entry.key < length keys) ks
all_keyed keys hs ks len live is = go ks (λ p k there.
    let below = number_within 0 len p ks k is.order there in
    let here : entry_in ks k.number ≡ k.entry = entry_there 0 len p ks k is.order there in
    is.index.keyed k.number k.entry (entries_get ks len k.number below ∙ ap Some here))
  where
    Keyed : RetainedEntry → Type 0
    Keyed k = k.entry.key < length keys

    go : (js : List RetainedEntry) → ((p : ℕ) (k : RetainedEntry) → slice_get js p ≡ Some k → k.entry.key < length keys)
        → All (λ k. k.entry.key < length keys) js
    go [] each = All-nil Keyed
    go (j ∷ js) each = All-cons Keyed j js (each 0 j refl) (go js (λ p k there. each (suc p) k there))

pub taken_order :
    (keys : List Key) (hs : List ℕ) (ks : List RetainedEntry) (rows : List RowParts) (len live many : ℕ)
    → IsRetainedIndex keys hs ks len live → rows ≡ map (part_of keys) ks → many ≡ len → AreNumbered 0 rows many
taken_order keys hs ks rows len live many is all long =
    let P : List RowParts → Type 0 = λ rs. AreNumbered 0 rs many in
    let Q : ℕ → Type 0 = λ m. AreNumbered 0 (map (part_of keys) ks) m in
    subst P (sym all) (subst Q (sym long) (parts_order keys 0 len ks is.order))

pub taken_rows :
    (keys : List Key) (hs : List ℕ) (ks : List RetainedEntry) (rows : List RowParts) (len live many : ℕ) (xs : List Numbered)
    → IsRetainedIndex keys hs ks len live → seen_all keys (all_entries ks len) ≡ xs
    → rows ≡ map (part_of keys) ks → many ≡ len → numbers_in rows many ≡ xs
taken_rows keys hs ks rows len live many xs is view all long =
    ap (λ rs. numbers_in rs many) all ∙ ap (numbers_in (map (part_of keys) ks)) long
    ∙ listed_same (numbered_at (map (part_of keys) ks)) (λ i. seen keys (entry_in ks i)) 0 len
    (λ i from below. part_seen keys ks i (unkeyed keys is.index.null_first))
    ∙ sym (map_listed (seen keys) (entry_in ks) 0 len) ∙ view

-- Looking a number up

part_here : (r : RowParts) (rs : List RowParts) (n : ℕ) → r.number ≡ n
    → numbered_at (r ∷ rs) n ≡ numbered r.key r.is_live
part_here r rs n is = ap (λ b. if b then numbered r.key r.is_live else numbered_at rs n) (elim (eqb_tells r.number n) [
  | inl t ↦ t.0
  | inr t ↦ absurd (t.1 is)
])

part_other : (r : RowParts) (rs : List RowParts) (n : ℕ) → (r.number ≡ n → ⊥) → numbered_at (r ∷ rs) n ≡ numbered_at rs n
part_other r rs n other = ap (λ b. if b then numbered r.key r.is_live else numbered_at rs n) (ne_eqb r.number n other)

part_rest : (r : RowParts) (rs qs : List RowParts) (n : ℕ) → numbered_at rs n ≡ numbered_at qs n
    → numbered_at (r ∷ rs) n ≡ numbered_at (r ∷ qs) n
part_rest r rs qs n same = ap (λ x. if nat_eq r.number n then numbered r.key r.is_live else x) same

within : (from len : ℕ) (rs : List RowParts) → AreNumbered from rs len → from ≤ len
within from len [] are = are
within from len (r ∷ rs) are =
    let rest = within (suc r.number) len rs are.1 in
    let low = are.0 in
    omega (arith, rest, low)

part_from : (from len i : ℕ) (rs : List RowParts) (r : RowParts) → AreNumbered from rs len → slice_get rs i ≡ Some r
    → from ≤ r.number
part_from from len i [] r are there = absurd (none-some r there)
part_from from len zero (x ∷ xs) r are there =
    subst (λ (y : RowParts). from ≤ y.number) (some_same x r there) are.0
part_from from len (suc i) (x ∷ xs) r are there =
    let rest = part_from (suc x.number) len i xs r are.1 there in
    let low = are.0 in
    omega (arith, rest, low)

pub part_below : (from len i : ℕ) (rs : List RowParts) (r : RowParts) → AreNumbered from rs len
    → slice_get rs i ≡ Some r → r.number < len
part_below from len i [] r are there = absurd (none-some r there)
part_below from len zero (x ∷ xs) r are there =
    let rest = within (suc x.number) len xs are.1 in
    let same = ap (λ (y : RowParts). y.number) (some_same x r there) in
    omega (arith, rest, same)
part_below from len (suc i) (x ∷ xs) r are there = part_below (suc x.number) len i xs r are.1 there

part_there : (from len i : ℕ) (rs : List RowParts) (r : RowParts) → AreNumbered from rs len → slice_get rs i ≡ Some r
    → numbered_at rs r.number ≡ numbered r.key r.is_live
part_there from len i [] r are there = absurd (none-some r there)
part_there from len zero (x ∷ xs) r are there =
    let P : RowParts → Type 0 = λ y. numbered_at (y ∷ xs) r.number ≡ numbered r.key r.is_live in
    subst P (sym (some_same x r there)) (part_here r xs r.number refl)
part_there from len (suc i) (x ∷ xs) r are there =
    let above = part_from (suc x.number) len i xs r are.1 there in
    part_other x xs r.number (λ e. omega (arith, above, e)) ∙ part_there (suc x.number) len i xs r are.1 there

none_past : (from len n : ℕ) (rs : List RowParts) → AreNumbered from rs len → len ≤ n → numbered_at rs n ≡ no_row
none_past from len n [] are past = refl
none_past from len n (r ∷ rs) are past =
    let rest = within (suc r.number) len rs are.1 in
    part_other r rs n (λ e. omega (arith, rest, past, e)) ∙ none_past (suc r.number) len n rs are.1 past

at_listed : (f : ℕ → Numbered) (len n : ℕ) (k : Key) (b : Bool) → IsAt (listed f 0 len) n k b → f n ≡ numbered k b
at_listed f len n k b at =
    let long = listed_long f 0 len in
    let below = slice_get_within (listed f 0 len) n (numbered k b) at in
    let e : 0 + n ≡ n = omega arith in
    sym (ap f e) ∙ sym (listed_at f 0 len n (numbered k b) (omega (arith, below, long)))
    ∙ some_same (get_or (listed f 0 len) n (numbered k b)) (numbered k b)
    (sym (slice_get-get_or (listed f 0 len) n (numbered k b) below) ∙ at)

listed_is : (f : ℕ → Numbered) (len n : ℕ) (k : Key) (b : Bool) → n < len → f n ≡ numbered k b → IsAt (listed f 0 len) n k b
listed_is f len n k b below is =
    let long = listed_long f 0 len in
    let e : 0 + n ≡ n = omega arith in
    slice_get-get_or (listed f 0 len) n (numbered k b) (omega (arith, below, long))
    ∙ ap Some (listed_at f 0 len n (numbered k b) below ∙ ap f e ∙ is)

-- Numbering rows as retracted ones

-- above the last of these numbers
abbrev pub end_of : ℕ → List RowParts → ℕ
end_of from [] = from
end_of from (r ∷ rs) = end_of (suc r.number) rs

end_before : (from len i : ℕ) (rs : List RowParts) (r : RowParts) → AreNumbered from rs len → slice_get rs i ≡ Some r
    → end_of from (take i rs) ≤ r.number
end_before from len i [] r are there = absurd (none-some r there)
end_before from len zero (x ∷ xs) r are there = part_from from len zero (x ∷ xs) r are there
end_before from len (suc i) (x ∷ xs) r are there = end_before (suc x.number) len i xs r are.1 there

end_next : (from i : ℕ) (rs : List RowParts) (r : RowParts) → slice_get rs i ≡ Some r
    → end_of from (take (suc i) rs) ≡ suc r.number
end_next from i [] r there = absurd (none-some r there)
end_next from zero (x ∷ xs) r there = ap (λ (y : RowParts). suc y.number) (some_same x r there)
end_next from (suc i) (x ∷ xs) r there = end_next (suc x.number) i xs r there

end_within : (from len : ℕ) (rs : List RowParts) → AreNumbered from rs len → end_of from rs ≤ len
end_within from len [] are = are
end_within from len (r ∷ rs) are = end_within (suc r.number) len rs are.1

-- the first of them are in order, below their end
order_taken : (from len i : ℕ) (rs : List RowParts) → AreNumbered from rs len
    → AreNumbered from (map retracted_part (take i rs)) (end_of from (take i rs))
order_taken from len zero rs are = by rs
  where
    by : (qs : List RowParts) → AreNumbered from (map retracted_part (take zero qs)) (end_of from (take zero qs))
    by [] = omega arith
    by (q ∷ qs) = omega arith
order_taken from len (suc i) [] are = omega arith
order_taken from len (suc i) (r ∷ rs) are = (are.0, order_taken (suc r.number) len i rs are.1)

order_upto : (from len end : ℕ) (rs : List RowParts) → AreNumbered from rs len → len ≤ end → AreNumbered from rs end
order_upto from len end [] are le = omega (arith, are, le)
order_upto from len end (r ∷ rs) are le = (are.0, order_upto (suc r.number) len end rs are.1 le)

-- numbers after them are those of released rows
pub skipped : (rs : List RowParts) (len end : ℕ) (old new : List Numbered) → AreNumbered 0 rs len → len ≤ end
    → old ≡ numbers_in rs len → new ≡ old ++ replicate (end - length old) no_row → new ≡ numbers_in rs end
skipped rs len end old new are le is more =
    let long : length old ≡ len = ap length is ∙ listed_long (numbered_at rs) 0 len in
    let split : end ≡ len + (end - len) = omega (arith, le) in
    more ∙ ap (λ n. old ++ replicate (end - n) no_row) long ∙ ap (λ xs. xs ++ replicate (end - len) no_row) is
    ∙ sym (listed_add (numbered_at rs) 0 len (end - len) end split
    ∙ ap (λ xs. numbers_in rs len ++ xs)
    (listed_all (numbered_at rs) no_row (0 + len) (end - len)
    (λ i from. none_past 0 len i rs are (omega (arith, from)))))

-- one more is added
last_other : (rs : List RowParts) (r : RowParts) (n : ℕ) → (r.number ≡ n → ⊥)
    → numbered_at (rs ++ r ∷ []) n ≡ numbered_at rs n
last_other [] r n other = part_other r [] n other
last_other (x ∷ xs) r n other = part_rest x (xs ++ r ∷ []) xs n (last_other xs r n other)

last_here : (from len : ℕ) (rs : List RowParts) (r : RowParts) → AreNumbered from rs len → len ≤ r.number
    → numbered_at (rs ++ r ∷ []) r.number ≡ numbered r.key r.is_live
last_here from len [] r are past = part_here r [] r.number refl
last_here from len (x ∷ xs) r are past =
    let rest = within (suc x.number) len xs are.1 in
    part_other x (xs ++ r ∷ []) r.number (λ e. omega (arith, rest, past, e))
    ∙ last_here (suc x.number) len xs r are.1 past

one_more : (rs : List RowParts) (r : RowParts) → AreNumbered 0 rs r.number
    → numbers_in (rs ++ r ∷ []) (suc r.number) ≡ numbers_in rs r.number ++ numbered r.key r.is_live ∷ []
one_more rs r are =
    let f : ℕ → Numbered = numbered_at (rs ++ r ∷ []) in
    let e : 0 + r.number ≡ r.number = omega arith in
    listed_add f 0 r.number 1 (suc r.number) (sym (add-one r.number))
    ∙ ap (λ xs. xs ++ listed f (0 + r.number) 1)
    (listed_same f (numbered_at rs) 0 r.number
    (λ i from below. last_other rs r i (λ is. omega (arith, is, below))))
    ∙ ap (λ x. numbers_in rs r.number ++ x ∷ []) (ap f e ∙ last_here 0 r.number rs r are (omega arith))

at_end : (xs : List Numbered) (x : Numbered) → slice_get (xs ++ x ∷ []) (length xs) ≡ Some x
at_end [] x = refl
at_end (y ∷ ys) x = at_end ys x

off_at_end : (xs : List Numbered) (k : Key) → turned false (xs ++ numbered k true ∷ []) (length xs) ≡ xs ++ numbered k false ∷ []
off_at_end [] k = refl
off_at_end (y ∷ ys) k = ap (λ zs. y ∷ zs) (off_at_end ys k)

part_dead : (rs : List RowParts) (n : ℕ) (k : Key) → numbered_at (map retracted_part rs) n ≡ numbered k true → ⊥
part_dead [] n k is = true≢false (sym (ap (λ (x : Numbered). x.live) is))
part_dead (r ∷ rs) n k is = by (nat_eq r.number n) (part_dead rs n k) is
  where
    by : (b : Bool) → (numbered_at (map retracted_part rs) n ≡ numbered k true → ⊥)
        → (if b then numbered r.key false else numbered_at (map retracted_part rs) n) ≡ numbered k true → ⊥
    by true rest h = true≢false (sym (ap (λ (x : Numbered). x.live) h))
    by false rest h = rest h

none_live : (rows : List RowParts) (len n : ℕ) (k : Key) → IsAt (retracted_in rows len) n k true → ⊥
none_live rows len n k there = part_dead rows n k (at_listed (numbered_at (map retracted_part rows)) len n k true there)

-- As no row is live, a row that is pushed is added.
added_last : (rows : List RowParts) (len : ℕ) (old new : List Numbered) (k : Key) (added : Option ℕ)
    → old ≡ retracted_in rows len → Pushes old k added new → new ≡ old ++ numbered k true ∷ []
added_last rows len old new k None is pushes = pushes.1
added_last rows len old new k (Some n) is pushes =
    absurd (none_live rows len n k (subst (λ xs. IsAt xs n k true) is pushes.0))

-- what was added before row i, and the numbers up to it
pub numbered_before :
    (rows : List RowParts) (len i : ℕ) (r : RowParts) (old : List Numbered) → AreNumbered 0 rows len
    → old ≡ retracted_in (take i rows) (end_of 0 (take i rows)) → i < length rows → r ≡ get_or rows i r
    → (length old ≤ r.number) × (r.number < len)
numbered_before rows len i r old are so_far below is =
    let at = slice_get_read rows (length rows) i r refl below is in
    let long : length old ≡ end_of 0 (take i rows) =
    ap length so_far ∙ listed_long (numbered_at (map retracted_part (take i rows))) 0 (end_of 0 (take i rows)) in
    let before = end_before 0 len i rows r are at in
    (omega (arith, long, before), part_below 0 len i rows r are at)

skipped_before :
    (rows : List RowParts) (len i : ℕ) (r : RowParts) (old skip : List Numbered) → AreNumbered 0 rows len
    → old ≡ retracted_in (take i rows) (end_of 0 (take i rows)) → i < length rows → r ≡ get_or rows i r
    → skip ≡ old ++ replicate (r.number - length old) no_row → skip ≡ retracted_in (take i rows) r.number
skipped_before rows len i r old skip are so_far below is more =
    let at = slice_get_read rows (length rows) i r refl below is in
    skipped (map retracted_part (take i rows)) (end_of 0 (take i rows)) r.number old skip
    (order_taken 0 len i rows are) (end_before 0 len i rows r are at) so_far more

pub pushed_there :
    (rows : List RowParts) (len i : ℕ) (r : RowParts) (old skip new : List Numbered) (k : Key) (added : Option ℕ)
    → AreNumbered 0 rows len → old ≡ retracted_in (take i rows) (end_of 0 (take i rows)) → i < length rows
    → r ≡ get_or rows i r → skip ≡ old ++ replicate (r.number - length old) no_row → Pushes skip k added new
    → (key : Key) × IsAt new r.number key true
pushed_there rows len i r old skip new k added are so_far below is more pushes =
    let there = skipped_before rows len i r old skip are so_far below is more in
    let long : length skip ≡ r.number =
    ap length there ∙ listed_long (numbered_at (map retracted_part (take i rows))) 0 r.number in
    let P : ℕ → Type 0 = λ m. IsAt new m k true in
    let at : IsAt new (length skip) k true =
    ap (λ zs. slice_get zs (length skip)) (added_last (take i rows) r.number skip new k added there pushes)
    ∙ at_end skip (numbered k true) in
    (k, subst P long at)

pub numbered_more :
    (rows : List RowParts) (len i : ℕ) (r : RowParts) (old skip pushed new : List Numbered) (k : Key) (added : Option ℕ)
    → AreNumbered 0 rows len → old ≡ retracted_in (take i rows) (end_of 0 (take i rows)) → i < length rows
    → r ≡ get_or rows i r → skip ≡ old ++ replicate (r.number - length old) no_row → k ≡ r.key → Pushes skip k added pushed
    → new ≡ turned false pushed r.number → new ≡ retracted_in (take (i + 1) rows) (end_of 0 (take (i + 1) rows))
numbered_more rows len i r old skip pushed new k added are so_far below is more same pushes off =
    let at = slice_get_read rows (length rows) i r refl below is in
    let there = skipped_before rows len i r old skip are so_far below is more in
    let long : length skip ≡ r.number =
    ap length there ∙ listed_long (numbered_at (map retracted_part (take i rows))) 0 r.number in
    let firsts : take (i + 1) rows ≡ take i rows ++ r ∷ [] =
    ap (λ n. take n rows) (add-one i) ∙ take-suc rows i r below ∙ ap (λ x. take i rows ++ x ∷ []) (sym is) in
    let ends : end_of 0 (take (i + 1) rows) ≡ suc r.number =
    ap (λ n. end_of 0 (take n rows)) (add-one i) ∙ end_next 0 i rows r at in
    let order : AreNumbered 0 (map retracted_part (take i rows)) r.number =
    order_upto 0 (end_of 0 (take i rows)) r.number (map retracted_part (take i rows))
    (order_taken 0 len i rows are) (end_before 0 len i rows r are at) in
    off ∙ ap (turned false pushed) (sym long)
    ∙ ap (λ xs. turned false xs (length skip)) (added_last (take i rows) r.number skip pushed k added there pushes)
    ∙ off_at_end skip k ∙ ap (λ xs. xs ++ numbered k false ∷ []) there
    ∙ ap (λ x. retracted_in (take i rows) r.number ++ numbered x false ∷ []) same
    ∙ sym (one_more (map retracted_part (take i rows)) (retracted_part r) order)
    ∙ ap (λ rs. numbers_in rs (suc r.number)) (sym (map-append retracted_part (take i rows) (r ∷ [])))
    ∙ ap (λ rs. retracted_in rs (suc r.number)) (sym firsts)
    ∙ ap (retracted_in (take (i + 1) rows)) (sym ends)

whole : (rows : List RowParts) (i : ℕ) → length rows ≤ i → take i rows ≡ rows
whole [] zero le = refl
whole [] (suc i) le = refl
whole (r ∷ rs) zero le = absurd (omega (arith, le))
whole (r ∷ rs) (suc i) le = ap (λ xs. r ∷ xs) (whole rs i (omega (arith, le)))

pub numbered_end :
    (rows : List RowParts) (len i : ℕ) (old : List Numbered) → AreNumbered 0 rows len
    → old ≡ retracted_in (take i rows) (end_of 0 (take i rows)) → length old ≤ len
numbered_end rows len i old are so_far =
    let long : length old ≡ end_of 0 (take i rows) =
    ap length so_far ∙ listed_long (numbered_at (map retracted_part (take i rows))) 0 (end_of 0 (take i rows)) in
    let ends = taken_within 0 len i rows are in
    omega (arith, long, ends)
  where
    taken_within : (from end j : ℕ) (rs : List RowParts) → AreNumbered from rs end → end_of from (take j rs) ≤ end
    taken_within from end zero [] h = h
    taken_within from end (suc j) [] h = h
    taken_within from end zero (r ∷ rs) h = within from end (r ∷ rs) h
    taken_within from end (suc j) (r ∷ rs) h = taken_within (suc r.number) end j rs h.1

pub numbered_all :
    (rows : List RowParts) (len i : ℕ) (old new : List Numbered) → AreNumbered 0 rows len
    → old ≡ retracted_in (take i rows) (end_of 0 (take i rows)) → length rows ≤ i
    → new ≡ old ++ replicate (len - length old) no_row → new ≡ retracted_in rows len
numbered_all rows len i old new are so_far le more =
    let all = whole rows i le in
    let P : List RowParts → Type 0 = λ rs. AreNumbered 0 (map retracted_part rs) (end_of 0 rs) in
    skipped (map retracted_part rows) (end_of 0 rows) len old new
    (subst P all (order_taken 0 len i rows are)) (end_within 0 len rows are)
    (so_far ∙ ap (λ rs. retracted_in rs (end_of 0 rs)) all) more

-- The live rows are made live.

-- the first i rows as they are in the parts, and the others retracted
abbrev mixed : ℕ → List RowParts → List RowParts
mixed zero rows = map retracted_part rows
mixed (suc i) [] = []
mixed (suc i) (r ∷ rs) = r ∷ mixed i rs

abbrev pub revived_to : ℕ → List RowParts → ℕ → List Numbered
revived_to i rows len = numbers_in (mixed i rows) len

all_mixed : (rows : List RowParts) (i : ℕ) → length rows ≤ i → mixed i rows ≡ rows
all_mixed [] zero le = refl
all_mixed [] (suc i) le = refl
all_mixed (r ∷ rs) zero le = absurd (omega (arith, le))
all_mixed (r ∷ rs) (suc i) le = ap (λ xs. r ∷ xs) (all_mixed rs i (omega (arith, le)))

pub revived_all : (rows : List RowParts) (i len : ℕ) → length rows ≤ i → revived_to i rows len ≡ numbers_in rows len
revived_all rows i len le = ap (λ rs. numbers_in rs len) (all_mixed rows i le)

off_order : (from len : ℕ) (rs : List RowParts) → AreNumbered from rs len → AreNumbered from (map retracted_part rs) len
off_order from len [] are = are
off_order from len (r ∷ rs) are = (are.0, off_order (suc r.number) len rs are.1)

mixed_order : (from len i : ℕ) (rs : List RowParts) → AreNumbered from rs len → AreNumbered from (mixed i rs) len
mixed_order from len zero rs are = off_order from len rs are
mixed_order from len (suc i) [] are = are
mixed_order from len (suc i) (r ∷ rs) are = (are.0, mixed_order (suc r.number) len i rs are.1)

off_there : (rs : List RowParts) (i : ℕ) (r : RowParts) → slice_get rs i ≡ Some r
    → slice_get (map retracted_part rs) i ≡ Some (retracted_part r)
off_there [] i r there = absurd (none-some r there)
off_there (x ∷ xs) zero r there = ap (λ y. Some (retracted_part y)) (some_same x r there)
off_there (x ∷ xs) (suc i) r there = off_there xs i r there

still_off : (rs : List RowParts) (i : ℕ) (r : RowParts) → slice_get rs i ≡ Some r
    → slice_get (mixed i rs) i ≡ Some (retracted_part r)
still_off [] i r there = absurd (none-some r there)
still_off (x ∷ xs) zero r there = off_there (x ∷ xs) zero r there
still_off (x ∷ xs) (suc i) r there = still_off xs i r there

now_on : (rs : List RowParts) (i : ℕ) (r : RowParts) → slice_get rs i ≡ Some r → slice_get (mixed (suc i) rs) i ≡ Some r
now_on [] i r there = absurd (none-some r there)
now_on (x ∷ xs) zero r there = there
now_on (x ∷ xs) (suc i) r there = now_on xs i r there

others_same : (rs : List RowParts) (i n : ℕ) (r : RowParts) → slice_get rs i ≡ Some r → (n ≡ r.number → ⊥)
    → numbered_at (mixed (suc i) rs) n ≡ numbered_at (mixed i rs) n
others_same [] i n r there other = absurd (none-some r there)
others_same (x ∷ xs) zero n r there other =
    let same = ap (λ (y : RowParts). y.number) (some_same x r there) in
    part_other x (mixed zero xs) n (λ e. other (sym e ∙ same))
    ∙ sym (part_other (retracted_part x) (mixed zero xs) n (λ e. other (sym e ∙ same)))
others_same (x ∷ xs) (suc i) n r there other =
    part_rest x (mixed (suc i) xs) (mixed i xs) n (others_same xs i n r there other)

dead_one : (rs : List RowParts) (i : ℕ) (r : RowParts) → slice_get rs i ≡ Some r → r.is_live ≡ false
    → mixed (suc i) rs ≡ mixed i rs
dead_one [] i r at off = absurd (none-some r at)
dead_one (x ∷ xs) zero r at off =
    ap (λ b. record { number = x.number; key = x.key; is_live = b } ∷ map retracted_part xs)
    (ap (λ (y : RowParts). y.is_live) (some_same x r at) ∙ off)
dead_one (x ∷ xs) (suc i) r at off = ap (λ ys. x ∷ ys) (dead_one xs i r at off)

-- what was made live is live in the parts
live_in_parts : (rs : List RowParts) (i n : ℕ) (k : Key) → numbered_at (mixed i rs) n ≡ numbered k true
    → numbered_at rs n ≡ numbered k true
live_in_parts rs zero n k is = absurd (part_dead rs n k is)
live_in_parts [] (suc i) n k is = is
live_in_parts (x ∷ xs) (suc i) n k is = by (nat_eq x.number n) (live_in_parts xs i n k) is
  where
    by : (b : Bool) → (numbered_at (mixed i xs) n ≡ numbered k true → numbered_at xs n ≡ numbered k true)
        → (if b then numbered x.key x.is_live else numbered_at (mixed i xs) n) ≡ numbered k true
        → (if b then numbered x.key x.is_live else numbered_at xs n) ≡ numbered k true
    by true rest h = h
    by false rest h = rest h

listed_turned :
    (f g : ℕ → Numbered) (n m d : ℕ) (b : Bool) → ((i : ℕ) → (i ≡ n + d → ⊥) → g i ≡ f i)
    → g (n + d) ≡ numbered (f (n + d)).key b → listed g n m ≡ turned b (listed f n m) d
listed_turned f g n zero d b same here = refl
listed_turned f g n (suc m) zero b same here =
    let e : n + 0 ≡ n = omega arith in
    ap (λ x. x ∷ listed g (suc n) m) (sym (ap g e) ∙ here ∙ ap (λ i. numbered (f i).key b) e)
    ∙ ap (λ rs. numbered (f n).key b ∷ rs)
    (listed_same g f (suc n) m (λ i from below. same i (λ is. omega (arith, from, is))))
listed_turned f g n (suc m) (suc d) b same here =
    let e : suc n + d ≡ n + suc d = omega arith in
    ap (λ x. x ∷ listed g (suc n) m) (same n (λ is. omega (arith, is)))
    ∙ ap (λ rs. f n ∷ rs)
    (listed_turned f g (suc n) m d b (λ i other. same i (λ is. other (omega (arith, is))))
    (ap g e ∙ here ∙ ap (λ i. numbered (f i).key b) (sym e)))

pub can_revive :
    (rows : List RowParts) (i len : ℕ) (r : RowParts) (numbers : List Numbered) → AreNumbered 0 rows len
    → AreDistinct (numbers_in rows len) → AreGiven (numbers_in rows len) → numbers ≡ revived_to i rows len
    → i < length rows → r ≡ get_or rows i r → r.is_live ≡ true → CanTurnOn numbers r.number
can_revive rows i len r numbers are distinct given so_far below is on =
    let at = slice_get_read rows (length rows) i r refl below is in
    let low = part_below 0 len i rows r are at in
    let P : List Numbered → Type 0 = λ xs. CanTurnOn xs r.number in
    let off : numbered_at (mixed i rows) r.number ≡ numbered r.key false =
    part_there 0 len i (mixed i rows) (retracted_part r) (mixed_order 0 len i rows are) (still_off rows i r at) in
    let live : IsAt (numbers_in rows len) r.number r.key true =
    listed_is (numbered_at rows) len r.number r.key true low
    (part_there 0 len i rows r are at ∙ ap (numbered r.key) on) in
    let unused : IsUnused (revived_to i rows len) r.key =
    λ n there.
    let back = at_listed (numbered_at (mixed i rows)) len n r.key true there in
    let long = listed_long (numbered_at (mixed i rows)) 0 len in
    let near = slice_get_within (revived_to i rows len) n (numbered r.key true) there in
    let other : IsAt (numbers_in rows len) n r.key true =
    listed_is (numbered_at rows) len n r.key true (omega (arith, near, long)) (live_in_parts rows i n r.key back) in
    let same = distinct n r.number r.key other live in
    true≢false (sym (ap (λ (x : Numbered). x.live)
    (sym off ∙ ap (numbered_at (mixed i rows)) (sym same) ∙ back))) in
    subst P (sym so_far)
    (r.key, listed_is (numbered_at (mixed i rows)) len r.number r.key false low off, unused, given r.number r.key live)

pub revived_more :
    (rows : List RowParts) (i len : ℕ) (r : RowParts) (old new : List Numbered) → AreNumbered 0 rows len
    → old ≡ revived_to i rows len → i < length rows → r ≡ get_or rows i r → r.is_live ≡ true
    → new ≡ turned true old r.number → new ≡ revived_to (i + 1) rows len
revived_more rows i len r old new are so_far below is on revived =
    let at = slice_get_read rows (length rows) i r refl below is in
    let f : ℕ → Numbered = numbered_at (mixed i rows) in
    let g : ℕ → Numbered = numbered_at (mixed (suc i) rows) in
    let off : f r.number ≡ numbered r.key false =
    part_there 0 len i (mixed i rows) (retracted_part r) (mixed_order 0 len i rows are) (still_off rows i r at) in
    let back : g r.number ≡ numbered r.key r.is_live =
    part_there 0 len i (mixed (suc i) rows) r (mixed_order 0 len (suc i) rows are) (now_on rows i r at) in
    let e : 0 + r.number ≡ r.number = omega arith in
    revived ∙ ap (λ xs. turned true xs r.number) so_far
    ∙ sym (listed_turned f g 0 len r.number true
    (λ n other. others_same rows i n r at (λ same. other (same ∙ sym e)))
    (ap g e ∙ back ∙ ap (numbered r.key) on ∙ ap (λ (x : Numbered). numbered x.key true) (sym (ap f e ∙ off))))
    ∙ ap (λ n. revived_to n rows len) (sym (add-one i))

pub revived_same :
    (rows : List RowParts) (i len : ℕ) (r : RowParts) (old : List Numbered) → old ≡ revived_to i rows len
    → i < length rows → r ≡ get_or rows i r → r.is_live ≡ false → old ≡ revived_to (i + 1) rows len
revived_same rows i len r old so_far below is off =
    so_far
    ∙ ap (λ rs. numbers_in rs len) (sym (dead_one rows i r (slice_get_read rows (length rows) i r refl below is) off))
    ∙ ap (λ n. revived_to n rows len) (sym (add-one i))
