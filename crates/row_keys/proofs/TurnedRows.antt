-- Rows that are retracted together, or live again.
use Rattle.std.proofs.Common.{
  ◌≡◌,
  ◌⊎◌,
  inl,
  inr,
  ℕ,
  zero,
  suc,
  ◌+◌,
  ◌<◌,
  ◌≤◌,
  Bool,
  true,
  false,
  Some,
  List,
  [],
  ◌∷◌,
  length,
  drop,
  get_or,
  refl,
  ap,
  sym,
  subst,
  ◌∙◌,
  arith,
  true≢false,
}
use Rattle.std.proofs.lemmas.List.{drop_all, drop_more}
use Rattle.values.specs.Datum.{Datum, is_null}
use Rattle.values.specs.Keys.{datum_of_key}
use Rattle.values.specs.declared.key.Key.{Key}
use Rattle.view_lang.specs.Causes.{has_repeated}
use Rattle.view_lang.specs.Config.{Table}
use Rattle.view_lang.specs.Contents.{is_among, key_in, keys_in, same_key}
use Rattle.row_keys.specs.Numbers.{
  AreDistinct,
  AreLive,
  CanRevive,
  CanTurnOn,
  IsAt,
  Numbered,
  live_count,
  numbered,
  revived,
  turned,
  turned_off,
}
use Rattle.row_keys.specs.Slots.{AreRetracted, CanRetract, HasKey, IsThere, Slot, live, marked, put_back, retracted, row_of}
use Rattle.row_keys.specs.Stored.{AreGiven, AreKeyed, joined, live_keys}
use Rattle.row_keys.proofs.Indexes.{count_retracted}
use Rattle.row_keys.proofs.JoinedNumbers.{
  among_unused,
  at_joined,
  distinct_repeated,
  joined_at,
  joined_turned,
  keyed_turned,
  keys_live,
}
use Rattle.row_keys.proofs.KeyFacts.{same_refl}
use Rattle.row_keys.proofs.Places.{some_same}
use Rattle.row_keys.proofs.RetractedRows.{IsProper, row_marked}

pub off_more :
    (ns : List ℕ) (i n : ℕ) (rows new all : List Numbered) → n ≡ get_or ns i n → i < length ns
    → new ≡ turned false rows n
    → turned_off (drop i ns) rows ≡ all → turned_off (drop (i + 1) ns) new ≡ all
off_more ns i n rows new all is below step h =
    let P : ℕ → Type 0 = λ m. drop i ns ≡ m ∷ drop (i + 1) ns in
    let split : drop i ns ≡ n ∷ drop (i + 1) ns = subst P (sym is) (drop_more ns i n below) in
    ap (λ xs. turned_off (drop (i + 1) ns) xs) step ∙ sym (ap (λ ms. turned_off ms rows) split) ∙ h

pub off_end : (ns : List ℕ) (i : ℕ) (rows all : List Numbered) → length ns ≤ i → turned_off (drop i ns) rows ≡ all
    → rows ≡ all
off_end ns i rows all end h = sym (ap (λ ms. turned_off ms rows) (drop_all i ns end)) ∙ h

can_drop : (ns : List ℕ) (i : ℕ) (rows : List Numbered) → CanRevive ns rows → CanRevive (drop i ns) rows
can_drop [] zero rows h = h
can_drop [] (suc i) rows h = h
can_drop (n ∷ ns) zero rows h = h
can_drop (n ∷ ns) (suc i) rows h = can_drop ns i rows h.0

pub revive_next :
    (ns : List ℕ) (i n : ℕ) (rows first : List Numbered) → n ≡ get_or ns i n → i < length ns
    → rows ≡ revived (drop (i + 1) ns) first
    → CanRevive ns first → CanTurnOn rows n
revive_next ns i n rows first is below h can =
    let P : ℕ → Type 0 = λ m. drop i ns ≡ m ∷ drop (i + 1) ns in
    let split : drop i ns ≡ n ∷ drop (i + 1) ns = subst P (sym is) (drop_more ns i n below) in
    let Q : List ℕ → Type 0 = λ ms. CanRevive ms first in
    let R : List Numbered → Type 0 = λ xs. CanTurnOn xs n in
    let both : CanRevive (drop (i + 1) ns) first × CanTurnOn (revived (drop (i + 1) ns) first) n =
    subst Q split (can_drop ns i first can) in
    subst R (sym h) both.1

pub revive_none : (ns : List ℕ) (i : ℕ) (rows : List Numbered) → length ns ≤ i → rows ≡ revived (drop i ns) rows
revive_none ns i rows end = sym (ap (λ ms. revived ms rows) (drop_all i ns end))

pub ruleset turning = (off_more, off_end, revive_none)

-- the same of rows that are joined with their numbers

pub joined_off : (rows : List (List Datum)) (ns : List ℕ) (xs : List Numbered)
    → joined rows (turned_off ns xs) ≡ retracted ns (joined rows xs)
unfolding retracted
joined_off rows [] xs = refl
joined_off rows (n ∷ ns) xs = joined_off rows ns (turned false xs n)
    ∙ ap (λ ss. retracted ns ss) (joined_turned rows xs false n)

pub keyed_off : (t : Table) (rows : List (List Datum)) (ns : List ℕ) (xs : List Numbered) → AreKeyed t rows xs
    → AreKeyed t rows (turned_off ns xs)
keyed_off t rows [] xs keyed = keyed
keyed_off t rows (n ∷ ns) xs keyed = keyed_off t rows ns (turned false xs n) (keyed_turned t rows xs false n keyed)

pub are_live : (t : Table) (rows : List (List Datum)) (ns : List ℕ) (xs : List Numbered) → AreKeyed t rows xs
    → CanRetract ns (joined rows xs) → AreLive ns xs
unfolding CanRetract
are_live t rows [] xs keyed can = tt
are_live t rows (n ∷ ns) xs keyed can =
    let at = at_joined t rows xs n true keyed can.0 in
    let P : List Slot → Type 0 = λ ss. CanRetract ns ss in (
      (at.0, at.1),
      are_live t rows ns (turned false xs n) (keyed_turned t rows xs false n keyed)
          (subst P (sym (joined_turned rows xs false n)) can.1),
    )

pub fewer_off : (ns : List ℕ) (xs : List Numbered) → AreLive ns xs → live_count (turned_off ns xs) ≤ live_count xs
fewer_off [] xs h = omega arith
fewer_off (n ∷ ns) xs h =
    let one = count_retracted xs n h.0.0 h.0.1 in
    let rest = fewer_off ns (turned false xs n) h.1 in
    omega (arith, one, rest)

pub joined_revived : (rows : List (List Datum)) (ns : List ℕ) (xs : List Numbered)
    → joined rows (revived ns xs) ≡ put_back ns (joined rows xs)
unfolding put_back
joined_revived rows [] xs = refl
joined_revived rows (n ∷ ns) xs =
    joined_turned rows (revived ns xs) true n ∙ ap (λ ss. marked true ss n) (joined_revived rows ns xs)

pub keyed_revived : (t : Table) (rows : List (List Datum)) (ns : List ℕ) (xs : List Numbered) → AreKeyed t rows xs
    → AreKeyed t rows (revived ns xs)
keyed_revived t rows [] xs keyed = keyed
keyed_revived t rows (n ∷ ns) xs keyed = keyed_turned t rows (revived ns xs) true n (keyed_revived t rows ns xs keyed)

pub row_put_back : (ns : List ℕ) (slots : List Slot) (m : ℕ) → row_of (put_back ns slots) m ≡ row_of slots m
unfolding put_back
row_put_back [] slots m = refl
row_put_back (n ∷ ns) slots m = row_marked true (put_back ns slots) n m ∙ row_put_back ns slots m

pub can_revive : (t : Table) (rows : List (List Datum)) (ns : List ℕ) (xs : List Numbered) → AreKeyed t rows xs
    → AreRetracted t ns (joined rows xs) → CanRevive ns xs
unfolding AreRetracted
can_revive t rows [] xs keyed are = tt
can_revive t rows (n ∷ ns) xs keyed are =
    let same : joined rows (revived ns xs) ≡ put_back ns (joined rows xs) = joined_revived rows ns xs in
    let all : AreKeyed t rows (revived ns xs) = keyed_revived t rows ns xs keyed in
    let P : List Slot → Type 0 = λ ss. IsThere ss n false in
    let at = at_joined t rows (revived ns xs) n false all (subst P (sym same) are.1) in
    let row : row_of (joined rows (revived ns xs)) n ≡ row_of (joined rows xs) n =
    ap (λ ss. row_of ss n) same ∙ row_put_back ns (joined rows xs) n in
    let known : key_in t (row_of (joined rows xs) n) ≡ datum_of_key at.0 = ap (λ r. key_in t r) (sym row) ∙ at.2 in
    let keys : keys_in t (live (put_back ns (joined rows xs))) ≡ live_keys (revived ns xs) =
    ap (λ ss. keys_in t (live ss)) (sym same) ∙ keys_live t rows (revived ns xs) all in
    let free : is_among (datum_of_key at.0) (live_keys (revived ns xs)) ≡ false =
    ap (λ ks. is_among (datum_of_key at.0) ks) (sym keys)
    ∙ ap (λ d. is_among d (keys_in t (live (put_back ns (joined rows xs))))) (sym known) ∙ are.2 in (
      can_revive t rows ns xs keyed are.0,
      (at.0, at.1, among_unused (revived ns xs) at.0 free, ap is_null (sym known) ∙ are.3),
    )

pub distinct_joined : (t : Table) (rows : List (List Datum)) (xs : List Numbered) → AreKeyed t rows xs
    → AreDistinct xs → has_repeated (keys_in t (live (joined rows xs))) ≡ false
distinct_joined t rows xs keyed distinct =
    let P : List Datum → Type 0 = λ ks. has_repeated ks ≡ false in
    subst P (sym (keys_live t rows xs keyed)) (distinct_repeated xs distinct)

-- a live row has a key
pub given_joined :
    (t : Table) (rows : List (List Datum)) (xs : List Numbered) (n : ℕ) → AreKeyed t rows xs → AreGiven xs
    → IsThere (joined rows xs) n true → HasKey t (row_of (joined rows xs) n)
given_joined t rows xs n keyed given there =
    let at = at_joined t rows xs n true keyed there in
    ap is_null at.2 ∙ given n at.0 at.1

pub proper_joined : (t : Table) (rows : List (List Datum)) (xs : List Numbered) → AreKeyed t rows xs → AreDistinct xs
    → AreGiven xs → IsProper t (joined rows xs)
proper_joined t rows xs keyed distinct given = record {
  given = λ n there. given_joined t rows xs n keyed given there;
  distinct = distinct_joined t rows xs keyed distinct;
  reflects = λ n there.
      let at = at_joined t rows xs n true keyed there in
      let P : Datum → Type 0 = λ d. same_key d d ≡ true in
      subst P (sym at.2) (same_refl at.0);
}

-- The keys of live rows stay what they were.

pub off_before : (xs : List Numbered) (m n : ℕ) (k : Key) → IsAt (turned false xs m) n k true → IsAt xs n k true
off_before [] m n k at = at
off_before (x ∷ xs) zero zero k at =
    absurd (true≢false (sym (ap (λ y. y.live) (some_same (numbered x.key false) (numbered k true) at))))
off_before (x ∷ xs) zero (suc n) k at = at
off_before (x ∷ xs) (suc m) zero k at = at
off_before (x ∷ xs) (suc m) (suc n) k at = off_before xs m n k at

pub given_off : (ns : List ℕ) (xs : List Numbered) → AreGiven xs → AreGiven (turned_off ns xs)
given_off [] xs given = given
given_off (n ∷ ns) xs given = given_off ns (turned false xs n) (λ m k at. given m k (off_before xs n m k at))

on_before : (xs : List Numbered) (m n : ℕ) (k : Key) → IsAt (turned true xs m) n k true
    → (IsAt xs n k true) ⊎ ((n ≡ m) × ((b : Bool) × IsAt xs m k b))
on_before [] m n k at = inl at
on_before (x ∷ xs) zero zero k at =
    inr (refl, (x.live, ap (λ y. Some (numbered y x.live)) (ap (λ y. y.key) (some_same (numbered x.key true) (numbered k true) at))))
on_before (x ∷ xs) zero (suc n) k at = inl at
on_before (x ∷ xs) (suc m) zero k at = inl at
on_before (x ∷ xs) (suc m) (suc n) k at =
    elim (on_before xs m n k at) [ inl was ↦ inl was | inr it ↦ inr (ap suc it.0, it.1) ]

key_joined :
    (t : Table) (rows : List (List Datum)) (xs : List Numbered) (n : ℕ) (k : Key) (b : Bool) → AreKeyed t rows xs
    → IsAt xs n k b → key_in t (row_of (joined rows xs) n) ≡ datum_of_key k
key_joined t rows xs n k b keyed at = (joined_at t rows xs n k b keyed at).1

pub given_on :
    (t : Table) (rows : List (List Datum)) (ns : List ℕ) (xs : List Numbered) → AreKeyed t rows xs → AreGiven xs
    → AreRetracted t ns (joined rows xs) → AreGiven (revived ns xs)
unfolding AreRetracted
given_on t rows [] xs keyed given are = given
given_on t rows (n ∷ ns) xs keyed given are = λ m k at.
    let all : AreKeyed t rows (revived ns xs) = keyed_revived t rows ns xs keyed in
    let rest : AreGiven (revived ns xs) = given_on t rows ns xs keyed given are.0 in
    elim (on_before (revived ns xs) n m k at) [
      | inl was ↦ rest m k was
      | inr it ↦
          let same : joined rows (revived ns xs) ≡ put_back ns (joined rows xs) = joined_revived rows ns xs in
          let row : row_of (joined rows (revived ns xs)) n ≡ row_of (joined rows xs) n =
          ap (λ ss. row_of ss n) same ∙ row_put_back ns (joined rows xs) n in
          ap is_null (sym (key_joined t rows (revived ns xs) n k it.1.0 all it.1.1))
          ∙ ap (λ r. is_null (key_in t r)) row ∙ are.3
    ]
