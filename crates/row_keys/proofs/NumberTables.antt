-- Keys that are whole numbers, in a set of these after null.
use Rattle.std.proofs.Common.{
  ◌≡◌,
  inl,
  inr,
  ℕ,
  ℤ,
  zero,
  suc,
  ◌+◌,
  ◌-◌,
  ◌<◌,
  ◌||◌,
  Bool,
  true,
  false,
  List,
  [],
  ◌∷◌,
  ◌++◌,
  Some,
  length,
  map,
  take,
  get_or,
  refl,
  ap,
  sym,
  subst,
  ◌∙◌,
  arith,
  append_assoc,
  int_eq,
  if◌then◌else◌,
}
use Rattle.std.specs.Int.{w64}
use Rattle.std.specs.List.{All, list_any}
use Rattle.std.specs.Prelude.{FitsSigned, position, slice_get}
use Rattle.std.proofs.lemmas.Bool.Decides.{Decides-int_eq}
use Rattle.std.proofs.lemmas.List.{map-append}
use Rattle.std.proofs.lemmas.List.Elements.{All-head, All-push, All-tail, All-take}
use Rattle.std.proofs.lemmas.List.Quantifiers.{position-Some}
use Rattle.std.proofs.lemmas.Option.{none-some, slice_get-get_or, slice_get_within}
use Rattle.values.specs.KeyOrder.{KeysAreExact}
use Rattle.values.specs.declared.key.Key.{Key}
use Rattle.values.specs.declared.key.Key.TheVariants as key
use Rattle.row_keys.specs.KeyTable.{AreApart, Inserts, IsNew}
use Rattle.row_keys.specs.NumberKeys.{AreNumberKeys, IsNumber, null_and}
use Rattle.row_keys.proofs.KeyTables.{apart_inserted, apart_taken, inserted, key_eq, new_where_none}
use Rattle.row_keys.proofs.Places.{at_more, some_same}

-- a table without keys
pub new_in_none : (k : Key) → IsNew [] k
new_in_none k p there = none-some k there

pub apart_none : AreApart []
apart_none p q k here there = absurd (none-some k here)

pub first_null : Inserts [] key.Null 0 (key.Null ∷ [])
first_null = inr (refl, new_in_none key.Null, refl)

pub none_within : (p : ℕ) (k : Key) → p < 0 → slice_get [] p ≡ Some k
none_within p k within = absurd (omega (arith, within))

pub take_none : (none : List Key) (n : ℕ) → none ≡ [] → none ≡ take n none
take_none [] zero is = refl
take_none [] (suc n) is = refl
take_none (k ∷ ks) n is = absurd (omega (arith, ap length is))

-- the numbers after null

any_number : (ns : List ℤ) (n : ℤ) → list_any (key_eq (key.Int n)) (map (λ m. key.Int m) ns) ≡ list_any (int_eq n) ns
any_number [] n = refl
any_number (m ∷ ns) n = ap (λ b. int_eq n m || b) (any_number ns n)

any_after_null : (ns : List ℤ) (n : ℤ) → list_any (key_eq (key.Int n)) (null_and ns) ≡ list_any (int_eq n) ns
any_after_null ns n = any_number ns n

number_there : (ns : List ℤ) (p : ℕ) (n : ℤ) → slice_get ns p ≡ Some n
    → slice_get (null_and ns) (p + 1) ≡ Some (key.Int n)
number_there ns p n there =
    let after : p + 1 ≡ suc p = omega arith in
    ap (λ q. slice_get (null_and ns) q) after ∙ at_number ns p there
  where
    at_number : (ms : List ℤ) (q : ℕ) → slice_get ms q ≡ Some n
        → slice_get (map (λ m. key.Int m) ms) q ≡ Some (key.Int n)
    at_number [] q h = absurd (none-some n h)
    at_number (m ∷ ms) zero h = ap (λ x. Some (key.Int x)) (some_same m n h)
    at_number (m ∷ ms) (suc q) h = at_number ms q h

pub number_at : (ns : List ℤ) (p : ℕ) (n : ℤ) (k : Key) (keys : List Key) → null_and ns ≡ keys → (p ≡ 0 → ⊥)
    → slice_get ns (p - 1) ≡ Some n → k ≡ key.Int n → slice_get keys p ≡ Some k
number_at ns p n k keys view after there is =
    let more : p ≡ p - 1 + 1 = omega (arith, after) in
    ap (λ ks. slice_get ks p) (sym view) ∙ ap (λ q. slice_get (null_and ns) q) more ∙ number_there ns (p - 1) n there
    ∙ ap (λ x. Some x) (sym is)

-- the position found in the set is one before that after null
pub number_found : (ns : List ℤ) (n : ℤ) (p : ℕ) → Some p ≡ position (int_eq n) ns
    → slice_get (null_and ns) (p + 1) ≡ Some (key.Int n)
number_found ns n p is =
    let at = position-Some (int_eq n) ns p n (sym is) in
    let same : n ≡ get_or ns p n = (Decides-int_eq n (get_or ns p n)).0 at.1 in
    number_there ns p n (slice_get-get_or ns p n at.0 ∙ ap (λ x. Some x) (sym same))

pub number_new : KeysAreExact → (ns : List ℤ) (n : ℤ) → false ≡ list_any (int_eq n) ns
    → IsNew (null_and ns) (key.Int n)
number_new exact ns n none = new_where_none exact (null_and ns) (key.Int n) (any_after_null ns n ∙ sym none)

-- a number is added after null as it is in the set
module _ (exact : KeysAreExact) (ns new : List ℤ) (n : ℤ) (p : ℕ)
    (is : new ≡ (if list_any (int_eq n) ns then ns else ns ++ n ∷ []))
    (stored : (m : ℤ) × (slice_get new p ≡ Some m) × (int_eq n m ≡ true)) where
  pub number_inserted : Inserts (null_and ns) (key.Int n) (p + 1) (null_and new)
  number_inserted =
      let at : slice_get (null_and new) (p + 1) ≡ Some (key.Int stored.0) = number_there new p stored.0 stored.1 in
      inserted exact (null_and ns) (null_and new) (key.Int n) (p + 1)
      (ap null_and is ∙ by (list_any (int_eq n) ns)
      ∙ ap (λ b. if b then null_and ns else null_and ns ++ key.Int n ∷ []) (sym (any_after_null ns n)))
      (key.Int stored.0, at, stored.2)
    where
      by : (b : Bool) → null_and (if b then ns else ns ++ n ∷ [])
          ≡ (if b then null_and ns else null_and ns ++ key.Int n ∷ [])
      by true = refl
      by false = ap (λ ks. key.Null ∷ ks) (map-append (λ m. key.Int m) ns (n ∷ []))

  pub numbers_inserted : FitsSigned w64 n → AreNumberKeys ns → AreNumberKeys new
  numbers_inserted fits are = record {
    fit = subst (All (λ m. FitsSigned w64 m)) (sym is) (by (list_any (int_eq n) ns));
    apart = apart_inserted (null_and ns) (null_and new) (key.Int n) (p + 1) number_inserted are.apart;
  }
    where
      by : (b : Bool) → All (λ m. FitsSigned w64 m) (if b then ns else ns ++ n ∷ [])
      by true = are.fit
      by false = All-push (λ m. FitsSigned w64 m) ns n are.fit fits

-- what is neither null nor a number isn't there
pub other_new : (ns : List ℤ) (k : Key) → AreNumberKeys ns → (k ≡ key.Null → ⊥) → (IsNumber k → ⊥)
    → IsNew (null_and ns) k
other_new ns k are some other zero there = some (sym (some_same key.Null k there))
other_new ns k are some other (suc p) there = other (number_at ns p are.fit there)
  where
    number_at : (ms : List ℤ) (q : ℕ) → All (λ m. FitsSigned w64 m) ms
        → slice_get (map (λ m. key.Int m) ms) q ≡ Some k → IsNumber k
    number_at [] q fit h = absurd (none-some k h)
    number_at (m ∷ ms) zero fit h = subst IsNumber (some_same (key.Int m) k h) (All-head (λ x. FitsSigned w64 x) m ms fit)
    number_at (m ∷ ms) (suc q) fit h = number_at ms q (All-tail (λ x. FitsSigned w64 x) m ms fit) h

pub numbers_none : AreNumberKeys []
numbers_none = record {
  fit = λ k d within. absurd (omega (arith, within));
  apart = null_apart;
}
  where
    null_apart : AreApart (key.Null ∷ [])
    null_apart zero zero k here there = refl
    null_apart zero (suc q) k here there = absurd (none-some k there)
    null_apart (suc p) q k here there = absurd (none-some k here)

-- null and the first numbers
taken_after : (ns : List ℤ) (n : ℕ) → null_and (take n ns) ≡ take (suc n) (null_and ns)
taken_after ns n = ap (λ ks. key.Null ∷ ks) (by n ns)
  where
    by : (m : ℕ) (ms : List ℤ) → map (λ x. key.Int x) (take m ms) ≡ take m (map (λ x. key.Int x) ms)
    by zero ms = refl
    by (suc m) [] = refl
    by (suc m) (x ∷ ms) = ap (λ ks. key.Int x ∷ ks) (by m ms)

pub numbers_taken : (ns : List ℤ) (n : ℕ) → 0 < n → null_and (take (n - 1) ns) ≡ take n (null_and ns)
numbers_taken ns n some =
    let more : suc (n - 1) ≡ n = omega (arith, some) in
    taken_after ns (n - 1) ∙ ap (λ m. take m (null_and ns)) more

pub numbers_kept : (ns : List ℤ) (n : ℕ) → AreNumberKeys ns → AreNumberKeys (take n ns)
numbers_kept ns n are = record {
  fit = All-take (λ m. FitsSigned w64 m) n ns are.fit;
  apart = subst AreApart (sym (taken_after ns n)) (apart_taken (null_and ns) (suc n) are.apart);
}

-- Keys are inserted one after another: the next one is new.
pub inserted_next : (old new : List Key) (k : Key) (rest whole : List Key) (p : ℕ) → old ++ k ∷ rest ≡ whole
    → AreApart whole → Inserts old k p new → new ++ rest ≡ whole
inserted_next old new k rest whole p is apart ins = elim ins [
  | inl h ↦
      let within = slice_get_within old p k h.0 in
      let P : List Key → Type 0 = λ ks. slice_get ks p ≡ Some k in
      let Q : List Key → Type 0 = λ ks. slice_get ks (length old) ≡ Some k in
      let same : p ≡ length old =
      apart p (length old) k (subst P is (at_more old (k ∷ rest) p k h.0)) (subst Q is (at_middle old)) in
      absurd (omega (arith, within, same))
  | inr h ↦ ap (λ ks. ks ++ rest) h.2 ∙ append_assoc old (k ∷ []) rest ∙ is
]
  where
    at_middle : (ks : List Key) → slice_get (ks ++ k ∷ rest) (length ks) ≡ Some k
    at_middle [] = refl
    at_middle (x ∷ ks) = at_middle ks

pub ruleset number_tables = (number_found, number_new, other_new, numbers_none, numbers_taken, numbers_kept)

pub ruleset key_forms = (new_in_none, apart_none, first_null, none_within, take_none)
