-- Rows joined with their numbers.
use Rattle.std.proofs.Common.{
  ◌≡◌,
  ℕ,
  zero,
  suc,
  ◌+◌,
  ◌-◌,
  ◌||◌,
  Bool,
  true,
  false,
  List,
  [],
  ◌∷◌,
  ◌++◌,
  Some,
  length,
  take,
  map,
  refl,
  ap,
  sym,
  subst,
  ◌∙◌,
  arith,
  true≢false,
  length-append,
}
use Rattle.std.specs.Prelude.{if◌then◌else◌}
use Rattle.std.proofs.lemmas.List.{length-map}
use Rattle.std.proofs.lemmas.Option.{none-some}
use Rattle.values.specs.Datum.{Datum}
use Rattle.values.specs.Keys.{datum_of_key}
use Rattle.values.specs.declared.key.Key.{Key}
use Rattle.view_lang.specs.Causes.{has_repeated}
use Rattle.view_lang.specs.Config.{Table}
use Rattle.view_lang.specs.Contents.{applied, is_among, key_in, keys_in, same_key}
use Rattle.view_lang.specs.Edits.{append}
use Rattle.row_keys.specs.Numbers.{AreDistinct, IsAt, IsUnused, Numbered, live_count, numbered, turned}
use Rattle.row_keys.specs.Slots.{
  CanRevert,
  IsThere,
  Slot,
  contents_of,
  live,
  marked,
  new_slot,
  reverted,
  row_of,
  slot,
}
use Rattle.row_keys.specs.Stored.{AreKeyed, joined, live_keys}
use Rattle.row_keys.proofs.KeyFacts.{or_none, or_right, same_exact, same_refl}
use Rattle.row_keys.proofs.Places.{some_same, take_front}

pub joined_at :
    (t : Table) (rows : List (List Datum)) (ns : List Numbered) (n : ℕ) (k : Key) (b : Bool) → AreKeyed t rows ns
    → IsAt ns n k b
    → IsThere (joined rows ns) n b × (key_in t (row_of (joined rows ns) n) ≡ datum_of_key k)
joined_at t [] [] n k b keyed at = absurd (none-some (numbered k b) at)
joined_at t [] (x ∷ ns) n k b keyed at = absurd keyed
joined_at t (r ∷ rs) [] n k b keyed at = absurd keyed
joined_at t (r ∷ rs) (x ∷ ns) zero k b keyed at =
    let same : x ≡ numbered k b = some_same x (numbered k b) at in
    ((r, ap (λ y. Some (slot r y.live)) same), keyed.0 ∙ ap (λ y. datum_of_key y.key) same)
joined_at t (r ∷ rs) (x ∷ ns) (suc n) k b keyed at = joined_at t rs ns n k b keyed.1 at

pub at_joined :
    (t : Table) (rows : List (List Datum)) (ns : List Numbered) (n : ℕ) (b : Bool) → AreKeyed t rows ns
    → IsThere (joined rows ns) n b
    → (k : Key) × IsAt ns n k b × (key_in t (row_of (joined rows ns) n) ≡ datum_of_key k)
at_joined t [] ns n b keyed there = absurd (none-some (slot there.0 b) there.1)
at_joined t (r ∷ rs) [] n b keyed there = absurd keyed
at_joined t (r ∷ rs) (x ∷ ns) zero b keyed there =
    let same : x.live ≡ b = ap (λ s. s.live) (some_same (slot r x.live) (slot there.0 b) there.1) in
    (x.key, ap (λ c. Some (numbered x.key c)) same, keyed.0)
at_joined t (r ∷ rs) (x ∷ ns) (suc n) b keyed there = at_joined t rs ns n b keyed.1 there

pub joined_turned : (rows : List (List Datum)) (ns : List Numbered) (b : Bool) (n : ℕ)
    → joined rows (turned b ns n) ≡ marked b (joined rows ns) n
joined_turned [] ns b n = refl
joined_turned (r ∷ rs) [] b n = refl
joined_turned (r ∷ rs) (x ∷ ns) b zero = refl
joined_turned (r ∷ rs) (x ∷ ns) b (suc n) = ap (λ ss. slot r x.live ∷ ss) (joined_turned rs ns b n)

pub keyed_turned : (t : Table) (rows : List (List Datum)) (ns : List Numbered) (b : Bool) (n : ℕ) → AreKeyed t rows ns
    → AreKeyed t rows (turned b ns n)
keyed_turned t [] [] b n keyed = tt
keyed_turned t [] (x ∷ ns) b n keyed = absurd keyed
keyed_turned t (r ∷ rs) [] b n keyed = absurd keyed
keyed_turned t (r ∷ rs) (x ∷ ns) b zero keyed = keyed
keyed_turned t (r ∷ rs) (x ∷ ns) b (suc n) keyed = (keyed.0, keyed_turned t rs ns b n keyed.1)

pub joined_taken : (k : ℕ) (rows : List (List Datum)) (ns : List Numbered)
    → joined (take k rows) (take k ns) ≡ take k (joined rows ns)
joined_taken zero [] ns = refl
joined_taken zero (r ∷ rs) [] = refl
joined_taken zero (r ∷ rs) (x ∷ ns) = refl
joined_taken (suc k) [] ns = refl
joined_taken (suc k) (r ∷ rs) [] = refl
joined_taken (suc k) (r ∷ rs) (x ∷ ns) = ap (λ ss. slot r x.live ∷ ss) (joined_taken k rs ns)

pub keyed_taken : (t : Table) (k : ℕ) (rows : List (List Datum)) (ns : List Numbered) → AreKeyed t rows ns
    → AreKeyed t (take k rows) (take k ns)
keyed_taken t zero [] [] keyed = tt
keyed_taken t zero [] (x ∷ ns) keyed = tt
keyed_taken t zero (r ∷ rs) [] keyed = tt
keyed_taken t zero (r ∷ rs) (x ∷ ns) keyed = tt
keyed_taken t (suc k) [] [] keyed = tt
keyed_taken t (suc k) [] (x ∷ ns) keyed = absurd keyed
keyed_taken t (suc k) (r ∷ rs) [] keyed = absurd keyed
keyed_taken t (suc k) (r ∷ rs) (x ∷ ns) keyed = (keyed.0, keyed_taken t k rs ns keyed.1)

pub keyed_length : (t : Table) (rows : List (List Datum)) (ns : List Numbered) → AreKeyed t rows ns
    → (length rows ≡ length ns) × (length (joined rows ns) ≡ length ns)
keyed_length t [] [] keyed = (refl, refl)
keyed_length t [] (x ∷ ns) keyed = absurd keyed
keyed_length t (r ∷ rs) [] keyed = absurd keyed
keyed_length t (r ∷ rs) (x ∷ ns) keyed = let e = keyed_length t rs ns keyed.1 in (ap suc e.0, ap suc e.1)

pub live_counted : (t : Table) (rows : List (List Datum)) (ns : List Numbered) → AreKeyed t rows ns
    → length (live (joined rows ns)) ≡ live_count ns
unfolding live
live_counted t [] [] keyed = refl
live_counted t [] (x ∷ ns) keyed = absurd keyed
live_counted t (r ∷ rs) [] keyed = absurd keyed
live_counted t (r ∷ rs) (x ∷ ns) keyed = by x.live (live_counted t rs ns keyed.1)
  where
    by : (b : Bool) → length (live (joined rs ns)) ≡ live_count ns
        → length (if b then r ∷ live (joined rs ns) else live (joined rs ns)) ≡ (if b then suc (live_count ns)
        else live_count ns)
    by true h = ap suc h
    by false h = h

pub keys_live : (t : Table) (rows : List (List Datum)) (ns : List Numbered) → AreKeyed t rows ns
    → keys_in t (live (joined rows ns)) ≡ live_keys ns
unfolding live
keys_live t [] [] keyed = refl
keys_live t [] (x ∷ ns) keyed = absurd keyed
keys_live t (r ∷ rs) [] keyed = absurd keyed
keys_live t (r ∷ rs) (x ∷ ns) keyed = by x.live (keys_live t rs ns keyed.1)
  where
    by : (b : Bool) → keys_in t (live (joined rs ns)) ≡ live_keys ns
        → keys_in t (if b then r ∷ live (joined rs ns) else live (joined rs ns)) ≡ (if b
        then datum_of_key x.key ∷ live_keys ns else live_keys ns)
    by true h = ap (λ k. k ∷ keys_in t (live (joined rs ns))) keyed.0 ∙ ap (λ ks. datum_of_key x.key ∷ ks) h
    by false h = h

-- rows that are added, all live

abbrev pub fresh : Key → Numbered
fresh k = numbered k true

joined_fresh : (t : Table) (rows : List (List Datum)) (ks : List Key) → AreKeyed t rows (map fresh ks)
    → joined rows (map fresh ks) ≡ map new_slot rows
joined_fresh t [] [] keyed = refl
joined_fresh t [] (k ∷ ks) keyed = absurd keyed
joined_fresh t (r ∷ rs) [] keyed = absurd keyed
joined_fresh t (r ∷ rs) (k ∷ ks) keyed = ap (λ ss. new_slot r ∷ ss) (joined_fresh t rs ks keyed.1)

pub joined_added :
    (t : Table) (rows more : List (List Datum)) (ns : List Numbered) (ks : List Key) → AreKeyed t rows ns
    → AreKeyed t more (map fresh ks)
    → joined (rows ++ more) (ns ++ map fresh ks) ≡ joined rows ns ++ map new_slot more
joined_added t [] more [] ks keyed new = joined_fresh t more ks new
joined_added t [] more (x ∷ ns) ks keyed new = absurd keyed
joined_added t (r ∷ rs) more [] ks keyed new = absurd keyed
joined_added t (r ∷ rs) more (x ∷ ns) ks keyed new =
    ap (λ ss. slot r x.live ∷ ss) (joined_added t rs more ns ks keyed.1 new)

pub keyed_added :
    (t : Table) (rows more : List (List Datum)) (ns ms : List Numbered) → AreKeyed t rows ns → AreKeyed t more ms
    → AreKeyed t (rows ++ more) (ns ++ ms)
keyed_added t [] more [] ms keyed new = new
keyed_added t [] more (x ∷ ns) ms keyed new = absurd keyed
keyed_added t (r ∷ rs) more [] ms keyed new = absurd keyed
keyed_added t (r ∷ rs) more (x ∷ ns) ms keyed new = (keyed.0, keyed_added t rs more ns ms keyed.1 new)

live_new : (rows : List (List Datum)) → live (map new_slot rows) ≡ rows
unfolding live
live_new [] = refl
live_new (r ∷ rs) = ap (λ xs. r ∷ xs) (live_new rs)

live_added : (slots : List Slot) (rows : List (List Datum)) → live (slots ++ map new_slot rows) ≡ live slots ++ rows
unfolding live
live_added [] rows = live_new rows
live_added (s ∷ ss) rows = by s.live (live_added ss rows)
  where
    by : (b : Bool) → live (ss ++ map new_slot rows) ≡ live ss ++ rows
        → (if b then s.row ∷ live (ss ++ map new_slot rows) else live (ss ++ map new_slot rows)) ≡ (if b
        then s.row ∷ live ss else live ss) ++ rows
    by true h = ap (λ xs. s.row ∷ xs) h
    by false h = h

added_length : (slots : List Slot) (rows : List (List Datum))
    → length (slots ++ map new_slot rows) ≡ length slots + length rows
added_length slots rows = length-append slots (map new_slot rows)
    ∙ ap (λ n. length slots + n) (length-map rows new_slot)

pub world_added : (t : Table) (slots : List Slot) (rows : List (List Datum))
    → contents_of (slots ++ map new_slot rows) ≡ applied t (append rows) (contents_of slots)
world_added t slots rows =
    ap (λ xs. record { live = xs; appended = length (slots ++ map new_slot rows) }) (live_added slots rows)
    ∙ ap (λ n. record { live = live slots ++ rows; appended = n }) (added_length slots rows)

pub taken_added : (slots : List Slot) (rows : List (List Datum))
    → reverted (length rows) (slots ++ map new_slot rows) ≡ slots
unfolding reverted
taken_added slots rows =
    let many = added_length slots rows in
    let less : length (slots ++ map new_slot rows) - length rows ≡ length slots = omega (arith, many) in
    ap (λ n. take n (slots ++ map new_slot rows)) less ∙ take_front slots (map new_slot rows)

pub can_take_added : (slots : List Slot) (rows : List (List Datum))
    → CanRevert (length rows) (slots ++ map new_slot rows)
unfolding CanRevert
can_take_added slots rows = let many = added_length slots rows in omega (arith, many)

-- keys of live rows

pub used_among : (ns : List Numbered) (n : ℕ) (k : Key) → IsAt ns n k true
    → is_among (datum_of_key k) (live_keys ns) ≡ true
unfolding is_among
used_among [] n k at = absurd (none-some (numbered k true) at)
used_among (x ∷ ns) zero k at =
    let same : x ≡ numbered k true = some_same x (numbered k true) at in
    let P : Numbered
    → Type 0 =
    λ y. is_among (datum_of_key k) (if y.live then datum_of_key y.key ∷ live_keys ns else live_keys ns) ≡ true in
    subst P (sym same) (ap (λ b. b || is_among (datum_of_key k) (live_keys ns)) (same_refl k))
used_among (x ∷ ns) (suc n) k at = by x.live (used_among ns n k at)
  where
    by : (b : Bool) → is_among (datum_of_key k) (live_keys ns) ≡ true
        → is_among (datum_of_key k) (if b then datum_of_key x.key ∷ live_keys ns else live_keys ns) ≡ true
    by true h = or_right (same_key (datum_of_key k) (datum_of_key x.key)) (is_among (datum_of_key k) (live_keys ns)) h
    by false h = h

pub among_unused : (ns : List Numbered) (k : Key) → is_among (datum_of_key k) (live_keys ns) ≡ false → IsUnused ns k
among_unused ns k h n at = true≢false (sym (used_among ns n k at) ∙ h)

differs : (k x : Key) → (k ≡ x → ⊥) → same_key (datum_of_key k) (datum_of_key x) ≡ false
differs k x other = by (same_key (datum_of_key k) (datum_of_key x)) (λ e. same_exact k x e)
  where
    by : (b : Bool) → (b ≡ true → k ≡ x) → b ≡ false
    by true h = absurd (other (h refl))
    by false h = refl

pub unused_among : (ns : List Numbered) (k : Key) → IsUnused ns k → is_among (datum_of_key k) (live_keys ns) ≡ false
unfolding is_among
unused_among [] k unused = refl
unused_among (x ∷ ns) k unused = by x.live refl (unused_among ns k (λ n at. unused (suc n) at))
  where
    by : (b : Bool) → x.live ≡ b → is_among (datum_of_key k) (live_keys ns) ≡ false
        → is_among (datum_of_key k) (if b then datum_of_key x.key ∷ live_keys ns else live_keys ns) ≡ false
    by true lives h =
        or_none (same_key (datum_of_key k) (datum_of_key x.key)) (is_among (datum_of_key k) (live_keys ns))
        (differs k x.key
        (λ e. unused 0 (ap (λ b. Some (numbered x.key b)) lives ∙ ap (λ y. Some (numbered y true)) (sym e)))) h
    by false lives h = h

pub distinct_repeated : (ns : List Numbered) → AreDistinct ns → has_repeated (live_keys ns) ≡ false
unfolding has_repeated
distinct_repeated [] distinct = refl
distinct_repeated (x ∷ ns) distinct =
    by x.live refl (distinct_repeated ns (λ m n k a b. let e = distinct (suc m) (suc n) k a b in omega (arith, e)))
  where
    by : (b : Bool) → x.live ≡ b → has_repeated (live_keys ns) ≡ false
        → has_repeated (if b then datum_of_key x.key ∷ live_keys ns else live_keys ns) ≡ false
    by true lives h =
        or_none (is_among (datum_of_key x.key) (live_keys ns)) (has_repeated (live_keys ns))
        (unused_among ns x.key (λ n at. let e = distinct 0 (suc n) x.key (ap (λ b. Some (numbered x.key b)) lives) at in
        omega (arith, e))) h
    by false lives h = h
