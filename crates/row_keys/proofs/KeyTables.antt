-- Keys in a set that keeps their order.
use Rattle.std.proofs.Common.{
  ◌≡◌,
  inl,
  inr,
  ℕ,
  zero,
  suc,
  ◌||◌,
  Bool,
  true,
  false,
  List,
  [],
  ◌∷◌,
  ◌++◌,
  None,
  Some,
  take,
  get_or,
  refl,
  ap,
  sym,
  subst,
  ◌∙◌,
  true≢false,
  if◌then◌else◌,
}
use Rattle.std.specs.Prelude.{Option, slice_get, position, MatchOption, is_some}
use Rattle.std.specs.List.{list_any}
use Rattle.std.proofs.lemmas.List.Quantifiers.{position-Some}
use Rattle.std.proofs.lemmas.Option.{none-some, slice_get-get_or}
use Rattle.values.specs.KeyOrder.{KeysAreExact}
use Rattle.values.specs.contracts.key.KeyPartialEq.TheImpl as equality
use Rattle.values.specs.declared.key.Key.{Key}
use Rattle.values.specs.declared.key.Key.TheVariants as key
use Rattle.row_keys.specs.KeyTable.{AreApart, Inserts, IsNew}
use Rattle.row_keys.proofs.Places.{at_pushed, at_taken, some_same}

abbrev pub key_eq : Key → Key → Bool
key_eq = equality.ghosts.eq

either-false : (a b : Bool) → (a || b) ≡ false → (a ≡ false) × (b ≡ false)
either-false true b e = absurd (true≢false e)
either-false false b e = (refl, e)

-- a key that no test finds is new
pub new_where_none : KeysAreExact → (ks : List Key) (k : Key) → list_any (key_eq k) ks ≡ false → IsNew ks k
new_where_none exact [] k none p there = none-some k there
new_where_none exact (x ∷ ks) k none zero there =
    true≢false (sym ((exact k x).1 (sym (some_same x k there)))
    ∙ (either-false (key_eq k x) (list_any (key_eq k) ks) none).0)
new_where_none exact (x ∷ ks) k none (suc p) there =
    new_where_none exact ks k (either-false (key_eq k x) (list_any (key_eq k) ks) none).1 p there

pub found_place :
    KeysAreExact → (ks : List Key) (k : Key) (r : Option ℕ) → r ≡ position (key_eq k) ks
    → is_some r ≡ list_any (key_eq k) ks
    → MatchOption r (IsNew ks k) (λ p. slice_get ks p ≡ Some k)
found_place exact ks k None is found = new_where_none exact ks k (sym found)
found_place exact ks k (Some p) is found =
    let at = position-Some (key_eq k) ks p key.Null (sym is) in
    let same : k ≡ get_or ks p key.Null = (exact k (get_or ks p key.Null)).0 at.1 in
    slice_get-get_or ks p key.Null at.0 ∙ ap (λ x. Some x) (sym same)

pub apart_taken : (ks : List Key) (n : ℕ) → AreApart ks → AreApart (take n ks)
apart_taken ks n apart p q k here there = apart p q k (at_taken ks n p k here).1 (at_taken ks n q k there).1

pub apart_pushed : (ks : List Key) (k : Key) → IsNew ks k → AreApart ks → AreApart (ks ++ k ∷ [])
apart_pushed ks k new apart p q x here there = elim (at_pushed ks k p x here) [
  | inl a ↦ elim (at_pushed ks k q x there) [
    | inl b ↦ apart p q x a b
    | inr b ↦ absurd (new p (a ∙ ap (λ y. Some y) (sym b.1)))
  ]
  | inr a ↦ elim (at_pushed ks k q x there) [
    | inl b ↦ absurd (new q (b ∙ ap (λ y. Some y) (sym a.1)))
    | inr b ↦ a.0 ∙ sym b.0
  ]
]

inserted_by :
    KeysAreExact → (b : Bool) (ks new : List Key) (k : Key) (p : ℕ) → list_any (key_eq k) ks ≡ b
    → new ≡ (if b then ks else ks ++ k ∷ []) → slice_get new p ≡ Some k → Inserts ks k p new
inserted_by exact true ks new k p known is there =
    let P : List Key → Type 0 = λ xs. slice_get xs p ≡ Some k in inl (subst P is there, is)
inserted_by exact false ks new k p known is there =
    let P : List Key → Type 0 = λ xs. slice_get xs p ≡ Some k in
    let fresh : IsNew ks k = new_where_none exact ks k known in
    elim (at_pushed ks k p k (subst P is there)) [
      | inl h ↦ absurd (fresh p h)
      | inr h ↦ inr (h.0, fresh, is)
    ]

pub inserted :
    KeysAreExact → (ks new : List Key) (k : Key) (p : ℕ) → new ≡ (if list_any (key_eq k) ks then ks else ks ++ k ∷ [])
    → ((x : Key) × (slice_get new p ≡ Some x) × (key_eq k x ≡ true)) → Inserts ks k p new
inserted exact ks new k p is stored =
    inserted_by exact (list_any (key_eq k) ks) ks new k p refl is (stored.1
    ∙ ap (λ x. Some x) (sym ((exact k stored.0).0 stored.2)))

pub apart_inserted : (ks new : List Key) (k : Key) (p : ℕ) → Inserts ks k p new → AreApart ks → AreApart new
apart_inserted ks new k p ins apart = elim ins [
  | inl h ↦ subst AreApart (sym h.1) apart
  | inr h ↦ subst AreApart (sym h.2) (apart_pushed ks k h.1 apart)
]

pub ruleset key_tables = (found_place, apart_taken)
